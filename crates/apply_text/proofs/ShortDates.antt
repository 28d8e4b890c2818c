-- Each part of a date has few digits.
use Rattle.std.proofs.Common.{ℕ, zero, suc, ◌+◌, ◌<◌, ◌≤◌, List, [], ◌∷◌, ◌++◌, cond, nat_eq, map, flat_map, Bool, true, false, arith}
use Rattle.std.specs.Prelude.{◌||◌}
use Rattle.std.specs.List.{AllByRecursion, range_with_len}
use Rattle.apply_text.specs.Calendar.{CivilDate, dates, dates_of_month, dates_of_year, days_in_month, is_leap_year}

-- a date whose text has two digits for each of its parts
pub record IsShort (date : CivilDate) : Type 0 where
  pub year : date.year < 10000
  pub month : date.month ≤ 12
  pub day : date.day ≤ 31

all_short : {X : Type 0} (P : CivilDate → Type 0) (f : X → List CivilDate) (xs : List X) → AllByRecursion (λ x. AllByRecursion P (f x)) xs → AllByRecursion P (flat_map f xs)
all_short P f [] h = tt
all_short P f (x ∷ xs) h = both (f x) h.0 (all_short P f xs h.1)
  where
    both : (ds : List CivilDate) → AllByRecursion P ds → AllByRecursion P (flat_map f xs) → AllByRecursion P (ds ++ flat_map f xs)
    both [] h rest = rest
    both (d ∷ ds) h rest = (h.0, both ds h.1 rest)

within : (P : ℕ → Type 0) (low n : ℕ) → ((x : ℕ) → low ≤ x → x < low + n → P x) → AllByRecursion P (range_with_len low n)
within P low zero h = tt
within P low (suc n) h = (h low (omega arith) (omega arith), within P (low + 1) n (λ x above below. h x (omega arith) (omega arith)))

mapped : (P : CivilDate → Type 0) (f : ℕ → CivilDate) (xs : List ℕ) → AllByRecursion (λ x. P (f x)) xs → AllByRecursion P (map f xs)
mapped P f [] h = tt
mapped P f (x ∷ xs) h = (h.0, mapped P f xs h.1)

few_days : (year month : ℕ) → days_in_month year month ≤ 31
few_days year month = either (nat_eq month 2) (is_leap_year year) (nat_eq month 4 || nat_eq month 6 || nat_eq month 9 || nat_eq month 11)
  where
    either : (a b c : Bool) → cond a (cond b 29 28) (cond c 30 31) ≤ 31
    either true true c = omega arith
    either true false c = omega arith
    either false b true = omega arith
    either false b false = omega arith

month_short : (year month : ℕ) → year < 10000 → month ≤ 12 → AllByRecursion IsShort (dates_of_month year month)
month_short year month few short =
    mapped IsShort (λ day. record { year = year; month = month; day = day }) (range_with_len 1 (days_in_month year month))
    (within (λ day. IsShort (record { year = year; month = month; day = day })) 1 (days_in_month year month)
    (λ day above below. record { year = few; month = short; day = (let days = few_days year month in omega arith) }))

pub dates_short : AllByRecursion IsShort dates
unfolding dates
dates_short =
    all_short IsShort dates_of_year (range_with_len 1970 8030)
    (within (λ year. AllByRecursion IsShort (dates_of_year year)) 1970 8030 (λ year above below.
    all_short IsShort (dates_of_month year) (range_with_len 1 12)
    (within (λ month. AllByRecursion IsShort (dates_of_month year month)) 1 12 (λ month over under. month_short year month (omega arith) (omega arith)))))
