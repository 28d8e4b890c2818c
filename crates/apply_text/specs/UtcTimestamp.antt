-- Timestamps in UTC (RFC 3339, section 5.6).
use Rattle.std.specs.Prelude.{ℕ, ◌+◌, ◌/◌, ◌%◌, List, [], ◌∷◌, ◌++◌, codes}
use Rattle.std.specs.Option.{option_map_or}
use Rattle.apply_text.specs.Calendar.{CivilDate, date_of_day}

-- a number below 100 as two digits
abbrev pub two_digits : ℕ → List ℕ
two_digits n = (48 + n / 10) ∷ (48 + n % 10) ∷ []

-- a date, as `1970-01-31`; the year is below 10,000
abbrev pub date_text : CivilDate → List ℕ
date_text date =
    two_digits (date.year / 100) ++ two_digits (date.year % 100)
    ++ codes "-" ++ two_digits date.month
    ++ codes "-" ++ two_digits date.day

-- a second of a day, as `23:59:59`
abbrev pub time_text : ℕ → List ℕ
time_text second =
    two_digits (second / 3600)
    ++ codes ":" ++ two_digits (second / 60 % 60)
    ++ codes ":" ++ two_digits (second % 60)

-- the timestamp of a second, counted from the start of 1970; each day has 86,400 seconds
unfoldable pub timestamp_text : ℕ → List ℕ
timestamp_text seconds =
    option_map_or date_text (date_of_day (seconds / 86400)) []
    ++ codes "T" ++ time_text (seconds % 86400) ++ codes "Z"
