-- Counts and durations in words.
use Rattle.std.specs.Prelude.{ℕ, zero, suc, ◌-◌, ◌/◌, ◌%◌, ◌^◌, ◌++◌, ◌==◌, List, codes, if◌then◌else◌, min, nat_lt}
use Rattle.std.specs.Fmt.{decimal}

-- a number below 100 with two digits, and one below 1,000 with three
abbrev pub two_digits : ℕ → List ℕ
two_digits n = decimal (n / 10) ++ decimal (n % 10)

abbrev pub three_digits : ℕ → List ℕ
three_digits n = decimal (n / 100) ++ decimal (n / 10 % 10) ++ decimal (n % 10)

-- a number with at most `groups` groups of three digits after the first, and a comma before each
abbrev pub grouped_within : (groups : ℕ) → ℕ → List ℕ
grouped_within zero n = decimal n
grouped_within (suc groups) n =
    if nat_lt n 1000 then decimal n else grouped_within groups (n / 1000) ++ codes "," ++ three_digits (n % 1000)

-- a number of 64 bits, with a comma at each thousand
unfoldable pub grouped : ℕ → List ℕ
grouped n = grouped_within 6 n

-- a count, a text between, and a noun, in the plural unless the count is 1
abbrev pub counted_words : ℕ → (between noun : List ℕ) → List ℕ
counted_words count between noun =
    if count == 1 then grouped count ++ between ++ noun else grouped count ++ between ++ noun ++ codes "s"

-- a count and a noun, as `1 step` or `2 steps`
unfoldable pub number_words : ℕ → (noun : List ℕ) → List ℕ
number_words count noun = counted_words count (codes " ") noun

-- a count, `more` and a noun, as `1 more step` or `2 more steps`
unfoldable pub more_words : ℕ → (noun : List ℕ) → List ℕ
more_words count noun = counted_words count (codes " more ") noun

-- a duration below ten seconds, by whole seconds and further milliseconds
abbrev pub short_words : (seconds milliseconds : ℕ) → List ℕ
short_words seconds milliseconds =
    if seconds == 0 then (if milliseconds == 0 then codes "0s" else decimal milliseconds ++ codes "ms")
    else if milliseconds / 100 == 0 then decimal seconds ++ codes "s"
    else decimal seconds ++ codes "." ++ decimal (milliseconds / 100) ++ codes "s"

-- a duration of ten seconds or more
abbrev pub long_words : (seconds : ℕ) → List ℕ
long_words seconds =
    if seconds / 60 == 0 then decimal (seconds % 60) ++ codes "s"
    else if seconds / 60 / 60 == 0 then decimal (seconds / 60 % 60) ++ codes "m" ++ two_digits (seconds % 60) ++ codes "s"
    else decimal (seconds / 60 / 60) ++ codes "h" ++ two_digits (seconds / 60 % 60) ++ codes "m"

abbrev pub words_of : (seconds milliseconds : ℕ) → List ℕ
words_of seconds milliseconds = if nat_lt seconds 10 then short_words seconds milliseconds else long_words seconds

-- A duration of so many microseconds, rounded down to two or three digits. Seconds beyond 64 bits
-- are not shown.
unfoldable pub duration_words : ℕ → List ℕ
duration_words microseconds = words_of (min (microseconds / 1000000) (2 ^ 64 - 1)) (microseconds % 1000000 / 1000)

-- ---- the exact times of ticks

-- a fraction of a second by its thousandths, without zeros at its end
abbrev pub fraction_words : (thousandths : ℕ) → List ℕ
fraction_words thousandths =
    (if thousandths % 100 == 0 then decimal (thousandths / 100)
    else if thousandths % 10 == 0 then two_digits (thousandths / 10)
    else three_digits thousandths) ++ codes "s"

-- a time of less than a minute
abbrev pub tick_of_seconds_words : (seconds milliseconds : ℕ) → List ℕ
tick_of_seconds_words seconds milliseconds =
    if milliseconds == 0 then decimal seconds ++ codes "s"
    else if seconds == 0 then decimal milliseconds ++ codes "ms"
    else decimal seconds ++ codes "." ++ fraction_words milliseconds

-- `whole` with its unit and, unless it is 0, `rest` with two digits and the next unit
abbrev pub parts_words : (whole : ℕ) (unit : List ℕ) (rest : ℕ) (next : List ℕ) → List ℕ
parts_words whole unit rest next =
    if rest == 0 then decimal whole ++ unit else decimal whole ++ unit ++ two_digits rest ++ next

-- the time of a tick in milliseconds: exact below a minute, else without what is below a second, or
-- from an hour on without what is below a minute
unfoldable pub tick_words : (milliseconds : ℕ) → List ℕ
tick_words milliseconds =
    if milliseconds / 1000 / 60 == 0 then tick_of_seconds_words (milliseconds / 1000) (milliseconds % 1000)
    else if milliseconds / 1000 / 60 / 60 == 0
    then parts_words (milliseconds / 1000 / 60) (codes "m") (milliseconds / 1000 % 60) (codes "s")
    else parts_words (milliseconds / 1000 / 60 / 60) (codes "h") (milliseconds / 1000 / 60 % 60) (codes "m")
