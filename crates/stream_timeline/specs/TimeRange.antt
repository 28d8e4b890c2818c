-- The timestamps of messages.
use Rattle.std.specs.Prelude.{ℤ, Option, Some, None}
use Rattle.std.specs.Int.{int_max, int_min}
use Rattle.stream_timeline.specs.declared.reading.time_range.TimeRange.{TimeRange}

-- the least and the greatest time, with one more
abbrev pub with_time : ℤ → Option TimeRange → TimeRange
with_time time None = record { first = time; last = time }
with_time time (Some time_range) =
    record { first = int_min time_range.first time; last = int_max time_range.last time }
