-- The figures of a stream: how much work was done, and how much of it at once.
use Rattle.std.specs.Prelude.{◌≡◌, ◌<◌, ℕ, zero, suc, ◌+◌, ◌-◌, ◌==◌, max, nat_lt, get_or, List, [], ◌∷◌, codes, length, Bool, false, ◌&&◌, not, if◌then◌else◌, is_some}
use Rattle.std.specs.List.{count_by, sum_by}
use Rattle.std.specs.Option.{option_map_or}
use Rattle.std.specs.Str.{bytes_eq}
use Rattle.stream_timeline.specs.declared.numbers.interval.Interval.{Interval}
use Rattle.stream_timeline.specs.declared.numbers.stretch.Stretch.{Stretch}
use Rattle.stream_timeline.specs.declared.numbers.measures.Numbers.{Numbers}
use Rattle.stream_timeline.specs.declared.reading.time_range.TimeRange.{TimeRange}
use Rattle.stream_timeline.specs.Intervals.{intervals_of}
use Rattle.stream_timeline.specs.Steps.{StepRead}
use Rattle.stream_timeline.specs.Stretches.{AreInOrder, stretches_of}

abbrev pub stretch_length : Stretch → ℕ
stretch_length s = s.end - s.begin

abbrev pub interval_length : Interval → ℕ
interval_length i = i.end - i.begin

-- for how long at least one step runs
abbrev pub busy_in : List Stretch → ℕ
busy_in stretches = sum_by (λ (s : Stretch). if nat_lt 0 s.number then stretch_length s else 0) stretches

-- the greatest number of steps that run at once; 0 if there is no stretch
abbrev pub peak_in : List Stretch → ℕ
peak_in [] = 0
peak_in (s ∷ ss) = max s.number (peak_in ss)

-- the sum of the lengths
abbrev pub work_of : List Interval → ℕ
work_of intervals = sum_by interval_length intervals

abbrev pub is_alone : (place : ℕ) → Stretch → Bool
is_alone place s = option_map_or (λ only. only == place) s.alone false

-- how long the step at this place is the only one that runs
abbrev pub alone_in : (place : ℕ) → List Stretch → ℕ
alone_in place stretches = sum_by (λ (s : Stretch). if is_alone place s then stretch_length s else 0) stretches

-- the sum of `alone_in` over all places below `n`
abbrev pub alone_below : ℕ → List Stretch → ℕ
alone_below zero stretches = 0
alone_below (suc n) stretches = alone_below n stretches + alone_in n stretches

-- the step has this action and an end, and did not fail
abbrev pub is_completed : (action : List ℕ) → StepRead → Bool
is_completed action step = bytes_eq step.action action && (is_some step.end && not step.failed)

abbrev pub completed_of : (action : List ℕ) → List StepRead → ℕ
completed_of action steps = count_by (is_completed action) steps

-- the figures of these steps, in a stream with this time range
pub record IsNumbersOf (time_range : TimeRange) (steps : List StepRead) (numbers : Numbers) : Type 0 where
  pub stretches : numbers.stretches.items ≡ stretches_of (intervals_of time_range steps)
  pub in_order : AreInOrder numbers.stretches.items
  pub busy : numbers.busy ≡ busy_in (stretches_of (intervals_of time_range steps))
  pub peak : numbers.peak ≡ peak_in (stretches_of (intervals_of time_range steps))
  pub work : numbers.work ≡ work_of (intervals_of time_range steps)
  pub alone : (place : ℕ) → place < length steps
      → get_or numbers.alone.items place 0 ≡ alone_in place (stretches_of (intervals_of time_range steps))
  pub lone : length numbers.alone.items ≡ length steps
  pub created : numbers.created ≡ completed_of (codes "create") steps
  pub updated : numbers.updated ≡ completed_of (codes "update") steps
  pub deleted : numbers.deleted ≡ completed_of (codes "delete") steps
