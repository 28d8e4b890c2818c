-- `jiff` prints the text of a timestamp.
use Rattle.std.proofs.Common.{◌≡◌, ℕ, ◌+◌, ◌-◌, ◌*◌, ◌/◌, ◌%◌, ◌<◌, ◌≤◌, ◌++◌, [], codes, ℤ, pos, negsuc, ◌+ℤ◌, ◌*ℤ◌, Some, refl, sym, ap, ◌∙◌, subst, arith, ⊎_elim}
use Rattle.std.proofs.lemmas.Bool.{cases_lt}
use Rattle.std.specs.Option.{option_map_or}
use Rattle.jiff.specs.Words.{date_text as iso_date_text, iso_datetime_text}
use Rattle.jiff_core.specs.declared.civil.date.Date.{Date}
use Rattle.jiff_core.specs.declared.civil.datetime.DateTime.{DateTime}
use Rattle.jiff_core.specs.Calendar.{IsCivilDate, day_count}
use Rattle.jiff_core.specs.Date.{epoch_day}
use Rattle.jiff_core.specs.DateTime.{civil_nanos}
use Rattle.jiff_core.specs.Time.{time_nanos}
use Rattle.jiff_core.proofs.CalendarLemmas.{day_count-epoch, day_count-lt_year, days_from_civil-day_count}
use Rattle.jiff_core.proofs.DateLemmas.{civil}
use Rattle.jiff_core.proofs.DateTimeLemmas.{civil_nanos-parts, time_nanos_bound}
use Rattle.jiff_core.proofs.SignedLemmas.{signed_arith}
use Rattle.apply_text.specs.Calendar.{date_of_day}
use Rattle.apply_text.specs.UtcTimestamp.{date_text, timestamp_text}
use Rattle.apply_text.proofs.Dates.{date_at}

-- a day and the nanoseconds of it, of a number of nanoseconds
parts : (z : ℤ) (t x : ℕ) → pos x ≡ z *ℤ pos 86400000000000 +ℤ pos t → t < 86400000000000 → (n : ℕ) × (z ≡ pos n) × (n * 86400000000000 + t ≡ x)
parts (pos n) t x is below = (n, refl, omega (arith, signed_arith, is))
parts (negsuc n) t x is below = absurd (omega (arith, signed_arith, is))

-- a day that is not before 1970 has a year that is not either
year_from : (z : ℤ) (month day n : ℕ) → IsCivilDate z month day → n + 4371953 ≡ day_count z month day → (k : ℕ) × (z ≡ pos (1970 + k))
year_from (pos y) month day n within counted =
    ⊎_elim
    (λ (early : y < 1970).
    let before = day_count-lt_year (pos y) month day (pos 1970) 1 1 within (omega arith) (omega (arith, signed_arith)) in
    absurd (omega (arith, before, counted, day_count-epoch)))
    (λ (late : 1970 ≤ y). (y - 1970, ap pos (omega arith)))
    (cases_lt y 1970)
year_from (negsuc y) month day n within counted =
    let before = day_count-lt_year (negsuc y) month day (pos 1970) 1 1 within (omega arith) (omega (arith, signed_arith)) in
    absurd (omega (arith, before, counted, day_count-epoch))

-- the date of day n, as `jiff` has it
date_is : (d : Date) (n : ℕ) → epoch_day d ≡ pos n → (k : ℕ) × (d.year ≡ pos (1970 + k)) × (date_of_day n ≡ Some (record { year = 1970 + k; month = d.month; day = d.day }))
date_is d n is =
    let counted : n + 4371953 ≡ day_count d.year d.month d.day = omega (arith, signed_arith, is, days_from_civil-day_count d.year d.month d.day) in
    let year = year_from d.year d.month d.day n (civil d) counted in
    (year.0, year.1, date_at year.0 d.month d.day n (subst (λ z. IsCivilDate z d.month d.day) year.1 (civil d)) (counted ∙ ap (λ z. day_count z d.month d.day) year.1))

pub text_is : (dt : DateTime) (seconds : ℕ) → civil_nanos dt ≡ pos (seconds * 1000000000) → iso_datetime_text dt ++ codes "Z" ≡ timestamp_text seconds
unfolding timestamp_text
text_is dt seconds is =
    let day = parts (epoch_day dt.date) (time_nanos dt.time) (seconds * 1000000000) (sym is ∙ civil_nanos-parts dt) (time_nanos_bound dt.time) in
    let date = date_is dt.date day.0 day.1 in
    let whole : dt.time.subsec_nanosecond ≡ 0 = omega (arith, day.2) in
    let split : day.0 * 86400 + (dt.time.hour * 3600 + dt.time.minute * 60 + dt.time.second) ≡ seconds = omega (arith, day.2) in
    let days : seconds / 86400 ≡ day.0 = omega (arith, split) in
    let hour : seconds % 86400 / 3600 ≡ dt.time.hour = omega (arith, split) in
    let minute : seconds % 86400 / 60 % 60 ≡ dt.time.minute = omega (arith, split) in
    let second : seconds % 86400 % 60 ≡ dt.time.second = omega (arith, split) in
    rw (days, date.2, hour, minute, second) (simp (date.1, whole))

pub date_text_is : (dt : DateTime) (seconds : ℕ) → civil_nanos dt ≡ pos (seconds * 1000000000) → iso_date_text dt.date ≡ option_map_or date_text (date_of_day (seconds / 86400)) []
date_text_is dt seconds is =
    let day = parts (epoch_day dt.date) (time_nanos dt.time) (seconds * 1000000000) (sym is ∙ civil_nanos-parts dt) (time_nanos_bound dt.time) in
    let date = date_is dt.date day.0 day.1 in
    let days : seconds / 86400 ≡ day.0 = omega (arith, day.2, time_nanos_bound dt.time) in
    rw (days, date.2) (simp date.1)
