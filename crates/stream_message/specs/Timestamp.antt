-- Instants.
use Rattle.std.specs.Prelude.{ℕ, ℤ, pos, int_div, List, Option, Some, None, Result, Ok, Err}
use Rattle.jiff.specs.Words.{Error, parse_timestamp}

-- a parsed instant in whole microseconds since the start of 1970, rounded down
abbrev pub microseconds_of : Result ℤ Error → Option ℤ
microseconds_of (Ok nanoseconds) = Some (int_div nanoseconds (pos 1000))
microseconds_of (Err error) = None

-- the instant that a text states
abbrev pub instant_of : List ℕ → Option ℤ
instant_of text = microseconds_of (parse_timestamp text)
