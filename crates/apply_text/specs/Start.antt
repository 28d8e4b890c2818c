-- The time at which an apply starts.
use Rattle.std.specs.Prelude.{ℕ, ◌+◌, ◌/◌, ◌*◌, ℤ, pos, negsuc, nat_lt, if◌then◌else◌, List, Result, Ok, Err}
use Rattle.jiff.specs.Words.{Error, parse_timestamp}
use Rattle.apply_events.specs.Fits.{latest_second}
use Rattle.apply_text.specs.declared.start.MomentError.{MomentError}
use Rattle.apply_text.specs.declared.start.MomentError.TheVariants.{NotAMoment, OutOfRange}

-- the first second that is too late for a start: 9000-01-01T00:00:00Z, in seconds after the start
-- of 1970
abbrev pub end_of_starts : ℕ
end_of_starts = 221845392000

-- the latest second of a line after the start: where a plan is applied without being saved, up to
-- 9,999 objects may take a day each before the first event
abbrev pub latest_clock : ℕ
latest_clock = latest_second + 864000000

-- the last second that a line can show, after the start of 1970
abbrev pub last_second : ℕ
last_second = end_of_starts + latest_clock

-- the whole seconds of an instant in nanoseconds, where the instant is in the range
abbrev pub start_at : ℤ → Result ℕ MomentError
start_at (pos nanoseconds) =
    if nat_lt nanoseconds (end_of_starts * 1000000000) then Ok (nanoseconds / 1000000000) else Err OutOfRange
start_at (negsuc below) = Err OutOfRange

-- the start for the result of reading an instant
abbrev pub start_read : Result ℤ Error → Result ℕ MomentError
start_read (Ok nanoseconds) = start_at nanoseconds
start_read (Err error) = Err NotAMoment

-- the start that a text gives
abbrev pub start_of : List ℕ → Result ℕ MomentError
start_of text = start_read (parse_timestamp text)
