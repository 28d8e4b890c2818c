-- Durations in words.
use Rattle.std.specs.Prelude.{ℕ, ◌/◌, ◌%◌, nat_lt, if◌then◌else◌, List, ◌++◌, codes, decimal}

abbrev pub seconds_text : ℕ → List ℕ
seconds_text seconds = decimal (seconds % 60) ++ codes "s"

abbrev pub minutes_text : ℕ → List ℕ
minutes_text seconds = decimal (seconds / 60 % 60) ++ codes "m" ++ seconds_text seconds

-- hours, minutes and seconds, as `1h0m5s`; leading units that are 0 are left out, except the
-- seconds
abbrev pub elapsed_of : ℕ → List ℕ
elapsed_of seconds =
    if nat_lt seconds 60 then seconds_text seconds
    else if nat_lt seconds 3600 then minutes_text seconds
    else (decimal (seconds / 3600) ++ codes "h" ++ minutes_text seconds)
