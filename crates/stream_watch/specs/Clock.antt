-- The time of a stream, by the moments of its messages.
use Rattle.std.specs.Prelude.{ℕ, ℤ, pos, Option, Some, None, if◌then◌else◌, nat_lt}
use Rattle.std.specs.Int.{int_gap, int_max}
use Rattle.stream_watch.specs.Counts.{plus}
use Rattle.stream_watch.specs.declared.clock.Clock.{Clock}

-- before the first message
abbrev pub no_time : Clock
no_time = record { first = pos 0; now = pos 0; count = 0 }

-- after a message with this moment
abbrev pub after_moment : ℤ → Clock → Clock
after_moment moment clock =
    if nat_lt 0 clock.count then record { first = clock.first; now = int_max clock.now moment; count = plus clock.count 1 }
    else record { first = moment; now = moment; count = 1 }

-- after a message with this moment, or with none
abbrev pub after : Option ℤ → Clock → Clock
after None clock = clock
after (Some moment) clock = after_moment moment clock

-- the microseconds from the first moment to the greatest
abbrev pub elapsed : Clock → ℕ
elapsed clock = int_gap clock.first clock.now
