-- Which steps get a row, if the rows stand in the order of their lengths.
use Rattle.std.specs.Prelude.{◌≡◌, ℕ, ◌-◌, ◌==◌, nat_lt, min, length, List, Bool, false, if◌then◌else◌, Option, Some, None, map, take, drop}
use Rattle.std.specs.List.{AllPairs}
use Rattle.std.specs.List.Sorted.{IsPermutation}
use Rattle.stream_timeline.specs.declared.rows.choosing.Candidate.{Candidate}
use Rattle.stream_timeline.specs.declared.rows.choosing.Rows.{Rows}
use Rattle.stream_timeline.specs.declared.reading.time_range.TimeRange.{TimeRange}
use Rattle.stream_timeline.specs.Rows.{candidates_of, longest, total_length}
use Rattle.stream_timeline.specs.Steps.{StepRead}

-- the first is longer, or as long and of an earlier line
abbrev pub is_longer : Candidate → Candidate → Bool
is_longer a b = if a.length == b.length then nat_lt a.place b.place else nat_lt b.length a.length

-- no candidate is longer than one that stands before it
abbrev pub AreLongestFirst : List Candidate → Type 0
AreLongestFirst cs = AllPairs (λ sooner later. is_longer later sooner ≡ false) cs

-- how many of `count` candidates get a row: at most `limit`, or all without a limit
abbrev pub row_count : (limit : Option ℕ) → (count : ℕ) → ℕ
row_count None count = count
row_count (Some limit) count = min limit count

-- The rows of these steps by their lengths, in a stream with this time range. All steps are ranked,
-- the longest first, and those of the same length by their lines. The first of them have the rows,
-- in the same order. The figures of the others are their number, their greatest length and the sum
-- of their lengths.
pub record AreRowsByLength (time_range : TimeRange) (steps : List StepRead) (limit : Option ℕ) (rows : Rows) : Type 0 where
  pub ranked : List Candidate
  pub all : IsPermutation (candidates_of time_range steps) ranked
  pub ordered : AreLongestFirst ranked
  pub shown : rows.places.items ≡ map (λ (c : Candidate). c.place) (take (row_count limit (length ranked)) ranked)
  pub number_left : rows.left_out ≡ length ranked - row_count limit (length ranked)
  pub longest_left : rows.longest ≡ longest (drop (row_count limit (length ranked)) ranked)
  pub total_length_left : rows.total_length ≡ total_length (drop (row_count limit (length ranked)) ranked)
