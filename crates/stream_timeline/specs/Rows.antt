-- Which steps get a row.
use Rattle.std.specs.Prelude.{◌≡◌, ◌≤◌, ℕ, ◌+◌, ◌*◌, ◌==◌, max, int_lt, nat_lt, nat_le, get_or, length, List, [], ◌∷◌, Bool, true, false, ◌&&◌, ◌||◌, not, if◌then◌else◌, Option, Some, None, is_none}
use Rattle.std.specs.List.{AllPairs, count_by, filter, sum_by}
use Rattle.stream_timeline.specs.declared.rows.choosing.Candidate.{Candidate}
use Rattle.stream_timeline.specs.declared.rows.choosing.Rows.{Rows}
use Rattle.stream_timeline.specs.declared.reading.time_range.TimeRange.{TimeRange}
use Rattle.stream_timeline.specs.Intervals.{length_of, span_of}
use Rattle.stream_timeline.specs.Steps.{StepRead}

-- The first ten rows are given to steps of any length. After them, a step has to take a 200th of
-- the span.
abbrev pub sure_rows : ℕ
sure_rows = 10

abbrev pub span_parts : ℕ
span_parts = 200

-- the step failed or has no end
abbrev pub is_marked : StepRead → Bool
is_marked step = step.failed || is_none step.end

abbrev pub candidate_of : TimeRange → (place : ℕ) → StepRead → Candidate
candidate_of time_range place step =
    record { marked = is_marked step; length = length_of time_range step; place = place }

abbrev pub candidates_from : TimeRange → ℕ → List StepRead → List Candidate
candidates_from time_range n [] = []
candidates_from time_range n (step ∷ steps) = candidate_of time_range n step ∷ candidates_from time_range (n + 1) steps

abbrev pub candidates_of : TimeRange → List StepRead → List Candidate
candidates_of time_range steps = candidates_from time_range 0 steps

-- marked steps come first, then longer ones, then those of earlier lines
abbrev pub same_bool : Bool → Bool → Bool
same_bool true b = b
same_bool false b = not b

abbrev pub comes_before : Candidate → Candidate → Bool
comes_before a b =
    if same_bool a.marked b.marked then
    (if a.length == b.length then nat_lt a.place b.place else nat_lt b.length a.length)
    else a.marked

-- how many candidates come before this one
abbrev pub rank_of : List Candidate → Candidate → ℕ
rank_of all c = count_by (λ (other : Candidate). comes_before other c) all

-- Whether the candidate with this rank gets a row, if at most `limit` do: it has to be among the
-- first ten, marked, or long enough.
abbrev pub gets_row_within : (limit : ℕ) → (span : ℕ) → (rank : ℕ) → Candidate → Bool
gets_row_within limit span rank c =
    nat_lt rank limit && (nat_lt rank sure_rows || (c.marked || nat_le span (c.length * span_parts)))

-- without a limit each candidate gets a row
abbrev pub gets_row : Option ℕ → (span : ℕ) → (rank : ℕ) → Candidate → Bool
gets_row None span rank c = true
gets_row (Some limit) span rank c = gets_row_within limit span rank c

abbrev pub is_chosen : Option ℕ → (span : ℕ) → List Candidate → Candidate → Bool
is_chosen limit span all c = gets_row limit span (rank_of all c) c

abbrev pub chosen : Option ℕ → (span : ℕ) → List Candidate → List Candidate
chosen limit span all = filter (is_chosen limit span all) all

abbrev pub left_out : Option ℕ → (span : ℕ) → List Candidate → List Candidate
left_out limit span all = filter (λ c. not (is_chosen limit span all c)) all

abbrev pub longest : List Candidate → ℕ
longest [] = 0
longest (c ∷ cs) = max c.length (longest cs)

abbrev pub total_length : List Candidate → ℕ
total_length cs = sum_by (λ (c : Candidate). c.length) cs

-- each candidate comes before all that follow
abbrev pub AreRanked : List Candidate → Type 0
AreRanked cs = AllPairs (λ sooner later. comes_before sooner later ≡ true) cs

-- ---- the rows

-- The row of one step comes before that of another if the step begins no later. Steps that begin at
-- the same time stand in the order of their lines.
pub record IsPrintedBefore (steps : List StepRead) (sooner later : ℕ) : Type 0 where
  pub begins : (d : StepRead) → int_lt (get_or steps later d).begin (get_or steps sooner d).begin ≡ false
  pub at_once : (d : StepRead) → (get_or steps sooner d).begin ≡ (get_or steps later d).begin → sooner ≤ later

-- The rows of these steps, in a stream with this time range. Each chosen place stands in the rows
-- once, in order, and no other place does. The figures of the other steps are their number, their
-- greatest length and the sum of their lengths.
pub record AreRowsOf (time_range : TimeRange) (steps : List StepRead) (limit : Option ℕ) (rows : Rows) : Type 0 where
  pub shown : (place : ℕ) → count_by (λ shown. shown == place) rows.places.items
      ≡ count_by (λ (c : Candidate). c.place == place) (chosen limit (span_of time_range) (candidates_of time_range steps))
  pub ordered : AllPairs (IsPrintedBefore steps) rows.places.items
  pub number_left : rows.left_out ≡ length (left_out limit (span_of time_range) (candidates_of time_range steps))
  pub longest_left : rows.longest ≡ longest (left_out limit (span_of time_range) (candidates_of time_range steps))
  pub total_length_left : rows.total_length ≡ total_length (left_out limit (span_of time_range) (candidates_of time_range steps))
