-- The intervals in which steps run, in microseconds since the start of the stream.
use Rattle.std.specs.Prelude.{ℕ, ◌+◌, ℤ, List, [], ◌∷◌, Bool, ◌&&◌, not, if◌then◌else◌, is_none, unwrap_or}
use Rattle.std.specs.Int.{int_gap, int_max}
use Rattle.stream_timeline.specs.declared.numbers.interval.Interval.{Interval}
use Rattle.stream_timeline.specs.declared.reading.time_range.TimeRange.{TimeRange}
use Rattle.stream_timeline.specs.Steps.{StepRead}

-- the end of a step, or the last time of the stream if it has none; never before its begin
abbrev pub until_of : TimeRange → StepRead → ℤ
until_of time_range step = int_max step.begin (unwrap_or step.end time_range.last)

-- the time from the begin of a step to `until_of`
abbrev pub length_of : TimeRange → StepRead → ℕ
length_of time_range step = int_gap step.begin (until_of time_range step)

-- the time from the first timestamp of the stream to the last
abbrev pub span_of : TimeRange → ℕ
span_of time_range = int_gap time_range.first time_range.last

-- Nobody knows when a step failed that has no end, so it is not counted.
abbrev pub is_counted : StepRead → Bool
is_counted step = not (step.failed && is_none step.end)

abbrev pub interval_of : TimeRange → (place : ℕ) → StepRead → Interval
interval_of time_range place step = record {
  place = place;
  begin = int_gap time_range.first step.begin;
  end = int_gap time_range.first (until_of time_range step);
}

-- the intervals of the counted steps, with places that count from `n`
abbrev pub intervals_from : TimeRange → ℕ → List StepRead → List Interval
intervals_from time_range n [] = []
intervals_from time_range n (step ∷ steps) =
    if is_counted step then interval_of time_range n step ∷ intervals_from time_range (n + 1) steps
    else intervals_from time_range (n + 1) steps

abbrev pub intervals_of : TimeRange → List StepRead → List Interval
intervals_of time_range steps = intervals_from time_range 0 steps
