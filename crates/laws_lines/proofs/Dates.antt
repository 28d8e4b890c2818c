-- Each day from 1970 on, up to the end of the year 9999, has a date.
use Rattle.std.proofs.Common.{◌≡◌, ℕ, zero, suc, ◌+◌, ◌<◌, ◌≤◌, pos, ap, ◌∙◌, subst, arith, ⊎_elim}
use Rattle.std.proofs.lemmas.Bool.{cases_lt}
use Rattle.jiff_core.specs.declared.civil.date.Date.{Date}
use Rattle.jiff_core.specs.Calendar.{IsCivilDate, day_count, days_in_month}
use Rattle.jiff_core.specs.Date.{epoch_day}
use Rattle.jiff_core.proofs.CalendarLemmas.{day_count-day, day_count-end, day_count-epoch, day_count-last_of_year, day_count-next_month, day_count-next_year, days_from_civil-day_count, days_in_month_bounds}
use Rattle.jiff_core.proofs.SignedLemmas.{signed_arith}

-- the date that has so many days of the calendar before it
record HasCount (count : ℕ) : Type 0 where
  year : ℕ
  month : ℕ
  day : ℕ
  civil : IsCivilDate (pos year) month day
  counted : day_count (pos year) month day ≡ count

first : HasCount 4371953
first = record {
  year = 1970;
  month = 1;
  day = 1;
  civil = ((omega (arith, signed_arith), omega (arith, signed_arith)), (omega arith, omega arith), (omega arith, omega (arith, days_in_month_bounds (pos 1970) 1)));
  counted = day_count-epoch;
}

in_month : (count : ℕ) → (d : HasCount count) → d.day < days_in_month (pos d.year) d.month → HasCount (suc count)
in_month count d more = record {
  year = d.year;
  month = d.month;
  day = d.day + 1;
  civil = (d.civil.0, d.civil.1, (omega arith, omega (arith, more)));
  counted = omega (arith, d.counted, d.civil.2.0, day_count-day (pos d.year) d.month d.day (d.day + 1) d.civil.2.0 (omega arith));
}

in_year : (count : ℕ) → (d : HasCount count) → d.day ≡ days_in_month (pos d.year) d.month → d.month < 12 → HasCount (suc count)
in_year count d last more = record {
  year = d.year;
  month = d.month + 1;
  day = 1;
  civil = (d.civil.0, (omega arith, omega (arith, more)), (omega arith, omega (arith, days_in_month_bounds (pos d.year) (d.month + 1))));
  counted = omega (arith, d.counted, d.civil.2.0, last, day_count-next_month (pos d.year) d.month d.civil.1.0, day_count-day (pos d.year) d.month d.day 1 d.civil.2.0 (omega arith));
}

after_year : (count : ℕ) → (d : HasCount count) → d.day ≡ days_in_month (pos d.year) d.month → 12 ≤ d.month → suc count < 7304850 → HasCount (suc count)
after_year count d last late few =
    let twelve : d.month ≡ 12 = omega (arith, late, d.civil.1.1) in
    let here : day_count (pos d.year) 12 d.day ≡ count = subst (λ m. day_count (pos d.year) m d.day ≡ count) twelve d.counted in
    let ends : d.day ≡ 31 = last ∙ ap (days_in_month (pos d.year)) twelve in
    let next = day_count-next_year (pos d.year) (pos (d.year + 1)) (omega (arith, signed_arith)) (omega (arith, signed_arith)) in
    let new : day_count (pos (d.year + 1)) 1 1 ≡ suc count = omega (arith, next, day_count-last_of_year (pos d.year), ap (day_count (pos d.year) 12) ends, here) in
    let early : d.year < 9999 = ⊎_elim
    (λ (less : d.year < 9999). less)
    (λ (more : 9999 ≤ d.year).
    let same : d.year ≡ 9999 = omega (arith, signed_arith, more, d.civil.0.1) in
    absurd (omega (arith, subst (λ y. day_count (pos (y + 1)) 1 1 ≡ suc count) same new, day_count-end, few)))
    (cases_lt d.year 9999) in
    record {
      year = d.year + 1;
      month = 1;
      day = 1;
      civil = ((omega (arith, signed_arith), omega (arith, signed_arith, early)), (omega arith, omega arith), (omega arith, omega (arith, days_in_month_bounds (pos (d.year + 1)) 1)));
      counted = new;
    }

next : (count : ℕ) → HasCount count → suc count < 7304850 → HasCount (suc count)
next count d few =
    ⊎_elim
    (λ (inside : d.day < days_in_month (pos d.year) d.month). in_month count d inside)
    (λ (end : days_in_month (pos d.year) d.month ≤ d.day).
    let last : d.day ≡ days_in_month (pos d.year) d.month = omega (arith, end, d.civil.2.1) in
    ⊎_elim (λ (early : d.month < 12). in_year count d last early) (λ (late : 12 ≤ d.month). after_year count d last late few) (cases_lt d.month 12))
    (cases_lt d.day (days_in_month (pos d.year) d.month))

count_of : (n : ℕ) → n + 4371953 < 7304850 → HasCount (n + 4371953)
count_of zero few = first
count_of (suc n) few =
    let more : suc (n + 4371953) ≡ suc n + 4371953 = omega arith in
    subst HasCount more (next (n + 4371953) (count_of n (omega (arith, few))) (omega (arith, few)))

-- the date of day n
pub date_of : (n : ℕ) → n < 2932897 → (d : Date) × (epoch_day d ≡ pos n)
date_of n few =
    let c = count_of n (omega (arith, few)) in (
      record { year = pos c.year; month = c.month; day = c.day; year_in = c.civil.0; month_in = c.civil.1; day_in = c.civil.2 },
      omega (arith, signed_arith, c.counted, days_from_civil-day_count (pos c.year) c.month c.day),
    )
