-- The date of a day is the one to which `jiff` gives that day's number.
use Rattle.std.proofs.Common.{◌≡◌, ℕ, zero, suc, ◌+◌, ◌-◌, ◌<◌, ◌≤◌, List, length, take, pos, Some, refl, sym, ap, ◌∙◌, subst, arith}
use Rattle.std.specs.Prelude.{flat_map, get_or, sum_by}
use Rattle.std.specs.List.{range_with_len}
use Rattle.std.proofs.lemmas.List.{map-id}
use Rattle.std.proofs.lemmas.List.Concat.{get_or-flat_map, length-flat_map}
use Rattle.std.proofs.lemmas.List.Folds.{length-flat_map-take}
use Rattle.std.proofs.lemmas.List.FromFn.{get_or-map-range_with_len, get_or-range_with_len, length-map-range_with_len, length-range_with_len, sum_by-map-range_with_len_more, take-map-range_with_len}
use Rattle.std.proofs.lemmas.Option.{slice_get-get_or}
use Rattle.jiff_core.specs.Calendar.{IsCivilDate, day_count, days_in_year, days_of_months}
use Rattle.jiff_core.proofs.CalendarLemmas.{day_count-day_of_year, day_count-epoch, day_count-next_year, days_of_months_all}
use Rattle.jiff_core.proofs.SignedLemmas.{signed_arith}
use Rattle.apply_text.specs.Calendar.{CivilDate, date_of_day, dates, dates_of_month, dates_of_year, days_in_month}

-- ---- pieces that are made of numbers one after the other

take_range : (a n k : ℕ) → k ≤ n → take k (range_with_len a n) ≡ range_with_len a k
take_range a n k few = ap (take k) (sym (map-id (range_with_len a n))) ∙ take-map-range_with_len (λ (x : ℕ). x) a n k few ∙ map-id (range_with_len a k)

one_more : {A : Type 0} (f : ℕ → List A) (a n : ℕ) → length (flat_map f (range_with_len a (n + 1))) ≡ length (flat_map f (range_with_len a n)) + length (f (a + n))
one_more f a n =
    let size = λ (x : ℕ). length (f x) in
    length-flat_map f (range_with_len a (n + 1)) ∙ ap (sum_by size) (sym (map-id (range_with_len a (n + 1)))) ∙ sum_by-map-range_with_len_more size (λ (x : ℕ). x) a n (a + n) refl
    ∙ ap (λ xs. sum_by size xs + length (f (a + n))) (map-id (range_with_len a n)) ∙ ap (λ m. m + length (f (a + n))) (sym (length-flat_map f (range_with_len a n)))

-- the j-th of the i-th piece
at_piece : {A : Type 0} (f : ℕ → List A) (a n i j : ℕ) (d : A) → i < n → j < length (f (a + i)) → get_or (flat_map f (range_with_len a n)) (length (flat_map f (range_with_len a i)) + j) d ≡ get_or (f (a + i)) j d
at_piece f a n i j d within inside =
    let number : get_or (range_with_len a n) i 0 ≡ a + i = get_or-range_with_len a n i 0 within in
    let in_all : i < length (range_with_len a n) = rw (length-range_with_len a n) within in
    let in_piece : j < length (f (get_or (range_with_len a n) i 0)) = rw number inside in
    let before : take i (range_with_len a n) ≡ range_with_len a i = take_range a n i (omega arith) in
    ap (λ xs. get_or (flat_map f (range_with_len a n)) (length (flat_map f xs) + j) d) (sym before)
    ∙ get_or-flat_map f (range_with_len a n) i j 0 d in_all in_piece
    ∙ ap (λ x. get_or (f x) j d) number

-- and it is within the whole
in_whole : {A : Type 0} (f : ℕ → List A) (a n i j : ℕ) → i < n → j < length (f (a + i)) → length (flat_map f (range_with_len a i)) + j < length (flat_map f (range_with_len a n))
in_whole f a n i j within inside =
    let number : get_or (range_with_len a n) i 0 ≡ a + i = get_or-range_with_len a n i 0 within in
    let in_all : i < length (range_with_len a n) = rw (length-range_with_len a n) within in
    let before : take i (range_with_len a n) ≡ range_with_len a i = take_range a n i (omega arith) in
    let fits = length-flat_map-take f (range_with_len a n) i 0 in_all in
    omega (arith, fits, ap (λ xs. length (flat_map f xs)) before, ap (λ x. length (f x)) number)

-- ---- how long months and years are

month_len : (year month : ℕ) → length (dates_of_month year month) ≡ days_in_month year month
month_len year month = length-map-range_with_len (λ day. record { year = year; month = month; day = day }) 1 (days_in_month year month)

months_len : (year n : ℕ) → length (flat_map (dates_of_month year) (range_with_len 1 n)) ≡ days_of_months (pos year) n
unfolding days_of_months
months_len year zero = refl
months_len year (suc n) =
    let more : suc n ≡ n + 1 = omega arith in
    let next : 1 + n ≡ suc n = omega arith in
    ap (λ m. length (flat_map (dates_of_month year) (range_with_len 1 m))) more
    ∙ one_more (dates_of_month year) 1 n
    ∙ ap (λ m. m + length (dates_of_month year (1 + n))) (months_len year n)
    ∙ ap (λ m. days_of_months (pos year) n + m) (month_len year (1 + n) ∙ ap (days_in_month year) next)

year_len : (year : ℕ) → length (dates_of_year year) ≡ days_in_year (pos year)
year_len year = months_len year 12 ∙ days_of_months_all (pos year)

-- the days of the first n years, counted as `jiff` does
years_len : (n : ℕ) → length (flat_map dates_of_year (range_with_len 1970 n)) + 4371953 ≡ day_count (pos (1970 + n)) 1 1
years_len zero = sym day_count-epoch
years_len (suc n) =
    let more : suc n ≡ n + 1 = omega arith in
    let later = day_count-next_year (pos (1970 + n)) (pos (1970 + suc n)) (omega (arith, signed_arith)) (omega (arith, signed_arith)) in
    let longer = ap (λ m. length (flat_map dates_of_year (range_with_len 1970 m))) more ∙ one_more dates_of_year 1970 n in
    omega (arith, longer, later, years_len n, year_len (1970 + n))

-- ---- the date

-- day n is the date, where `jiff` counts so
pub date_at : (year month day n : ℕ) → IsCivilDate (pos (1970 + year)) month day → n + 4371953 ≡ day_count (pos (1970 + year)) month day → date_of_day n ≡ Some (record { year = 1970 + year; month = month; day = day })
unfolding dates
date_at year month day n civil counted =
    let y = 1970 + year in
    let below : year < 8030 = omega (arith, signed_arith, civil.0.1) in
    let month_in : (month - 1 < 12) = omega (arith, civil.1.0, civil.1.1) in
    let month_is : 1 + (month - 1) ≡ month = omega (arith, civil.1.0) in
    let day_in : day - 1 < days_in_month y (1 + (month - 1)) = rw month_is (omega (arith, civil.2.0, civil.2.1)) in
    let day_is : 1 + (day - 1) ≡ day = omega (arith, civil.2.0) in
    let months = months_len y (month - 1) in
    let years = years_len year in
    let within_year = day_count-day_of_year (pos y) month day civil.2.0 in
    let in_month : day - 1 < length (dates_of_month y (1 + (month - 1))) = rw (month_len y (1 + (month - 1))) day_in in
    let in_year = in_whole (dates_of_month y) 1 12 (month - 1) (day - 1) month_in in_month in
    let slot : n ≡ length (flat_map dates_of_year (range_with_len 1970 year)) + (length (flat_map (dates_of_month y) (range_with_len 1 (month - 1))) + (day - 1)) = omega (arith, months, years, within_year, counted, civil.2.0) in
    let d : CivilDate = record { year = 0; month = 0; day = 0 } in
    let in_all = in_whole dates_of_year 1970 8030 year _ below in_year in
    let number : get_or (range_with_len 1 (days_in_month y (1 + (month - 1)))) (day - 1) 0 ≡ day = get_or-range_with_len 1 _ (day - 1) 0 day_in ∙ day_is in
    slice_get-get_or (flat_map dates_of_year (range_with_len 1970 8030)) n d (subst (λ k. k < length (flat_map dates_of_year (range_with_len 1970 8030))) (sym slot) in_all)
    ∙ ap Some (ap (λ k. get_or (flat_map dates_of_year (range_with_len 1970 8030)) k d) slot
    ∙ at_piece dates_of_year 1970 8030 year _ d below in_year
    ∙ at_piece (dates_of_month y) 1 12 (month - 1) (day - 1) d month_in in_month
    ∙ get_or-map-range_with_len (λ day. record { year = y; month = 1 + (month - 1); day = day }) 1 _ (day - 1) day d day_in day_is
    ∙ ap (λ m. record { year = y; month = m; day = day }) month_is)
