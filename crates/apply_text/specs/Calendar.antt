-- The dates from 1 January 1970 on, in the calendar of RFC 3339 (section 5.7: the days of a month;
-- appendix C: leap years).
use Rattle.std.specs.Prelude.{ℕ, ◌%◌, ◌==◌, Bool, not, ◌&&◌, ◌||◌, if◌then◌else◌, List, map, flat_map, Option, slice_get}
use Rattle.std.specs.List.{range_with_len}

pub record CivilDate : Type 0 where
  pub year : ℕ
  -- 1 to 12
  pub month : ℕ
  -- 1 to 31
  pub day : ℕ

-- every fourth year is a leap year; of the years that end a century only every fourth
abbrev pub is_leap_year : ℕ → Bool
is_leap_year year = (year % 4 == 0) && (not (year % 100 == 0) || (year % 400 == 0))

abbrev pub days_in_month : (year month : ℕ) → ℕ
days_in_month year month =
    if month == 2 then (if is_leap_year year then 29 else 28)
    else (if (month == 4) || (month == 6) || (month == 9) || (month == 11) then 30 else 31)

abbrev pub dates_of_month : (year month : ℕ) → List CivilDate
dates_of_month year month =
    map (λ day. record { year = year; month = month; day = day }) (range_with_len 1 (days_in_month year month))

abbrev pub dates_of_year : ℕ → List CivilDate
dates_of_year year = flat_map (dates_of_month year) (range_with_len 1 12)

-- all dates from 1 January 1970 to 31 December 9999, in order
unfoldable pub dates : List CivilDate
dates = flat_map dates_of_year (range_with_len 1970 8030)

-- the date of a day, where 1 January 1970 is day 0
abbrev pub date_of_day : ℕ → Option CivilDate
date_of_day day = slice_get dates day
