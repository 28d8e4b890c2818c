-- The first line of a picture: what was done.
use Rattle.std.specs.Prelude.{ℕ, List, [], ◌∷◌, ◌++◌, ◌==◌, ◌&&◌, ◌||◌, codes, Bool, false, if◌then◌else◌, length, nat_lt, not, Option, Some, None, is_none, is_some, unwrap_or}
use Rattle.std.specs.List.{count_by, list_any}
use Rattle.std.specs.Option.{option_map_or}
use Rattle.std.specs.Str.{bytes_eq}
use Rattle.stream_timeline.specs.declared.numbers.measures.Numbers.{Numbers}
use Rattle.stream_timeline.specs.declared.reading.time_range.TimeRange.{TimeRange}
use Rattle.stream_timeline.specs.declared.reading.totals.Totals.{Totals}
use Rattle.stream_timeline.specs.Intervals.{span_of}
use Rattle.stream_timeline.specs.Steps.{StepRead}
use Rattle.stream_timeline.specs.TimelineRead.{TimelineRead}
use Rattle.term_words.specs.Words.{duration_words, grouped, number_words}

-- the version of Terraform, if the stream states it
abbrev pub version_words : Option (List ℕ) → List ℕ
version_words None = []
version_words (Some []) = []
version_words (Some (byte ∷ bytes)) = codes "Terraform " ++ byte ∷ bytes ++ codes ": "

-- how many steps there were, and how long they took
abbrev pub steps_words : (steps span : ℕ) → List ℕ
steps_words steps span = number_words steps (codes "step") ++ codes " in " ++ duration_words span ++ codes ": "

-- how many steps there were, how long they took, and what was completed
abbrev pub completed_words : (steps span : ℕ) → Numbers → List ℕ
completed_words steps span numbers =
    steps_words steps span ++ grouped numbers.created ++ codes " added, " ++ grouped numbers.updated ++ codes " changed, "
    ++ grouped numbers.deleted ++ codes " destroyed"

-- a number and its word, unless the number is 0
abbrev pub words_if_any : ℕ → (what : List ℕ) → List ℕ
words_if_any count what = if nat_lt 0 count then codes ", " ++ grouped count ++ codes " " ++ what else []

abbrev pub is_not_ended : StepRead → Bool
is_not_ended step = is_none step.end && not step.failed

abbrev pub uncompleted_words : List StepRead → List ℕ
uncompleted_words steps =
    words_if_any (count_by (λ (step : StepRead). step.failed) steps) (codes "failed")
    ++ words_if_any (count_by is_not_ended steps) (codes "not ended")

-- that there were errors, if no step failed
abbrev pub error_words : (errors failed : ℕ) → List ℕ
error_words errors failed = if nat_lt 0 errors && failed == 0 then codes ", with errors" else []

-- a total; `?` if the summary has none
abbrev pub total_words : Option ℕ → List ℕ
total_words None = codes "?"
total_words (Some total) = grouped total

abbrev pub is_total : Option ℕ → (count : ℕ) → Bool
is_total None count = false
is_total (Some total) count = total == count

-- the totals are what was completed
abbrev pub agrees : Numbers → Totals → Bool
agrees numbers totals =
    is_total totals.added numbers.created && (is_total totals.changed numbers.updated && is_total totals.removed numbers.deleted)

abbrev pub disagreement_words : Numbers → Totals → List ℕ
disagreement_words numbers totals =
    if agrees numbers totals then []
    else codes ", but the summary says " ++ total_words totals.added ++ codes ", " ++ total_words totals.changed ++ codes ", "
    ++ total_words totals.removed

abbrev pub imported_words : Option ℕ → List ℕ
imported_words None = []
imported_words (Some imported) = if nat_lt 0 imported then codes ", " ++ grouped imported ++ codes " imported" else []

-- the step is a create, an update or a delete
abbrev pub is_change : StepRead → Bool
is_change step =
    bytes_eq step.action (codes "create") || (bytes_eq step.action (codes "update") || bytes_eq step.action (codes "delete"))

-- A summary is missing, if the stream has none of an apply. A stream with an error needs none, and
-- neither does a plan without changes.
abbrev pub lacks_summary : TimelineRead → Bool
lacks_summary timeline = timeline.errors.count == 0 && (is_none timeline.plan_totals || list_any is_change timeline.steps)

-- where the summary differs from what was completed, or that a summary is missing
abbrev pub summary_words : TimelineRead → Numbers → List ℕ
summary_words timeline numbers =
    option_map_or (λ (totals : Totals). disagreement_words numbers totals ++ imported_words totals.imported) timeline.totals
    (if lacks_summary timeline then codes ", no summary" else [])

-- ---- a stream that is only a plan

-- The totals of the plan, if the stream is only a plan: it has the summary of a plan and none of an
-- apply, and no create, update or delete began.
abbrev pub only_plan : TimelineRead → Option Totals
only_plan timeline = if is_some timeline.totals || list_any is_change timeline.steps then None else timeline.plan_totals

-- how many steps there were, and how long they took, unless there were none
abbrev pub read_words : (steps span : ℕ) → List ℕ
read_words steps span = if steps == 0 then [] else steps_words steps span

-- what the plan would do
abbrev pub plan_words : Totals → List ℕ
plan_words totals =
    codes "a plan of " ++ total_words totals.added ++ codes " to add, " ++ total_words totals.changed ++ codes " to change, "
    ++ total_words totals.removed ++ codes " to destroy" ++ words_if_any (unwrap_or totals.imported 0) (codes "to import")

-- ---- the whole heading

-- what was completed, or what the plan would do
abbrev pub done_words : (steps span : ℕ) → TimelineRead → Numbers → List ℕ
done_words steps span timeline numbers =
    option_map_or (λ (totals : Totals). read_words steps span ++ plan_words totals) (only_plan timeline) (completed_words steps span numbers)

-- the heading without the version: it has no text of the stream
abbrev pub headline_words : TimeRange → TimelineRead → Numbers → List ℕ
headline_words time_range timeline numbers =
    done_words (length timeline.steps) (span_of time_range) timeline numbers ++ uncompleted_words timeline.steps
    ++ error_words timeline.errors.count (count_by (λ (step : StepRead). step.failed) timeline.steps) ++ summary_words timeline numbers

abbrev pub heading_words : TimeRange → TimelineRead → Numbers → List ℕ
heading_words time_range timeline numbers = version_words timeline.version ++ headline_words time_range timeline numbers
