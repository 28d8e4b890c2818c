-- Texts that were fitted.
use Rattle.std.proofs.Common.{◌≡◌, ◌∙◌, ℕ, ◌+◌, ◌-◌, ◌*◌, ◌/◌, ◌%◌, ◌<◌, ◌≤◌, ◌∷◌, [], ◌++◌, List, zero, suc, ap, ap₂, refl, sym, length, take, drop, arith}
use Rattle.std.proofs.lemmas.Bool.{le-leb, lt-leb}
use Rattle.std.proofs.lemmas.List.{take_all}
use Rattle.std.proofs.lemmas.List.Sums.{sum_by-cons, sum_by-take-drop, sum_by-take-le}
use Rattle.term_text.specs.Columns.{column_count, columns_of}
use Rattle.term_text.specs.Fitting.{back_within, cut_short, few_marks, fitted, front_within}

-- ---- the longest front and the longest back

-- where so many fit, and one more does not
pub front_is : (limit : ℕ) (cs : List ℕ) (n : ℕ) → n ≤ length cs → columns_of (take n cs) ≤ limit
    → (n < length cs → limit < columns_of (take (n + 1) cs)) → front_within limit cs ≡ take n cs
front_is limit [] zero within fits full = refl
front_is limit [] (suc n) within fits full = refl
front_is limit (c ∷ cs) zero within fits full =
    let more : limit < columns_of (c ∷ []) = full (omega arith) in
    let wide = sum_by-cons column_count c [] in
    rw (lt-leb (column_count c) limit (omega (arith, more, wide))) refl
front_is limit (c ∷ cs) (suc n) within fits full =
    let wide : columns_of (c ∷ take n cs) ≡ column_count c + columns_of (take n cs) = sum_by-cons column_count c (take n cs) in
    let all : columns_of (c ∷ take n cs) ≤ limit = fits in
    let rest = front_is (limit - column_count c) cs n (omega arith) (omega (arith, all, wide)) (λ below.
    let next : suc n + 1 ≡ suc (n + 1) = omega arith in
    let more = full (omega (arith, below)) in
    let same : columns_of (take (suc n + 1) (c ∷ cs)) ≡ columns_of (c ∷ take (n + 1) cs) = ap (λ k. columns_of (take k (c ∷ cs))) next in
    let wider : columns_of (c ∷ take (n + 1) cs) ≡ column_count c + columns_of (take (n + 1) cs) = sum_by-cons column_count c (take (n + 1) cs) in
    omega (arith, more, same, wider, all, wide)) in
    rw (le-leb (column_count c) limit (omega (arith, all, wide))) (ap (λ ds. c ∷ ds) rest)

pub back_is : (limit : ℕ) (cs : List ℕ) (k : ℕ) → k ≤ length cs → columns_of (drop k cs) ≤ limit
    → (1 ≤ k → limit < columns_of (drop (k - 1) cs)) → back_within limit cs ≡ drop k cs
back_is limit [] zero within fits full = refl
back_is limit [] (suc k) within fits full = refl
back_is limit (c ∷ cs) zero within fits full = rw (le-leb (columns_of (c ∷ cs)) limit fits) refl
back_is limit (c ∷ cs) (suc k) within fits full =
    let before : suc k - 1 ≡ k = omega arith in
    let same : columns_of (drop (suc k - 1) (c ∷ cs)) ≡ columns_of (drop k (c ∷ cs)) = ap (λ j. columns_of (drop j (c ∷ cs))) before in
    let more = full (omega arith) in
    let wide : limit < columns_of (drop k (c ∷ cs)) = omega (arith, same, more) in
    let some : columns_of (take k (c ∷ cs)) + columns_of (drop k (c ∷ cs)) ≡ columns_of (c ∷ cs) = sum_by-take-drop column_count (c ∷ cs) k in
    rw (lt-leb (columns_of (c ∷ cs)) limit (omega (arith, wide, some))) (back_is limit cs k (omega arith) fits (wider k wide))
  where
    wider : (k : ℕ) → limit < columns_of (drop k (c ∷ cs)) → 1 ≤ k → limit < columns_of (drop (k - 1) cs)
    wider zero wide some = absurd (omega (arith, some))
    wider (suc k) wide some =
        let before : suc k - 1 ≡ k = omega arith in
        let same : columns_of (drop (suc k - 1) cs) ≡ columns_of (drop k cs) = ap (λ j. columns_of (drop j cs)) before in
        let more : limit < columns_of (drop k cs) = wide in
        omega (arith, same, more)

-- ---- all of it, or what is left of it

pub all_fits : (limit n : ℕ) (text cs : List ℕ) → cs ≡ few_marks 0 text → n ≡ length cs → columns_of (take n cs) ≤ limit → fitted limit text ≡ cs
unfolding fitted
all_fits limit n text cs few all fits =
    let same : columns_of (take n cs) ≡ columns_of (few_marks 0 text) = ap columns_of (take_all n cs (omega (arith, all)) ∙ few) in
    rw (le-leb (columns_of (few_marks 0 text)) limit (omega (arith, same, fits))) (sym few)

pub not_all : (limit n : ℕ) (text cs short : List ℕ) → cs ≡ few_marks 0 text → n < length cs → limit < columns_of (take (n + 1) cs)
    → short ≡ cut_short (limit - 1) cs → fitted limit text ≡ short
unfolding fitted
not_all limit n text cs short few below more is =
    let part = sum_by-take-le column_count cs (n + 1) in
    let wide : limit < columns_of cs = omega (arith, more, part) in
    let same : columns_of cs ≡ columns_of (few_marks 0 text) = ap columns_of few in
    rw (lt-leb (columns_of (few_marks 0 text)) limit (omega (arith, wide, same))) (sym (is ∙ ap (cut_short (limit - 1)) few))

pub two_fifths : (room : ℕ) → room / 5 * 2 + room % 5 * 2 / 5 ≡ room * 2 / 5
two_fifths room = omega arith

-- a front and a back of characters, by how many there are of them
pub is_cut : (room first left n m : ℕ) (cs : List ℕ) → first ≡ room * 2 / 5 → n ≤ length cs → columns_of (take n cs) ≤ first
    → (n < length cs → first < columns_of (take (n + 1) cs)) → left ≡ room - columns_of (take n cs) → m ≤ length cs
    → columns_of (drop (length cs - m) cs) ≤ left → (m < length cs → left < columns_of (drop (length cs - (m + 1)) cs))
    → take n cs ++ 8230 ∷ drop (length cs - m) cs ≡ cut_short room cs
is_cut room first left n m cs is_first within fits full is_left inside suits more =
    let front : front_within (room * 2 / 5) cs ≡ take n cs = ap (λ k. front_within k cs) (sym is_first) ∙ front_is first cs n within fits full in
    let k = length cs - m in
    let back : back_within left cs ≡ drop k cs = back_is left cs k (omega arith) suits (λ some.
    let next : k - 1 ≡ length cs - (m + 1) = omega arith in
    let wide = more (omega (arith, some)) in
    let same : columns_of (drop (k - 1) cs) ≡ columns_of (drop (length cs - (m + 1)) cs) = ap (λ j. columns_of (drop j cs)) next in
    omega (arith, wide, same)) in
    let room_left : left ≡ room - columns_of (front_within (room * 2 / 5) cs) = is_left ∙ ap (λ f. room - columns_of f) (sym front) in
    sym (ap₂ (λ f b. f ++ 8230 ∷ b) front (ap (λ l. back_within l cs) (sym room_left) ∙ back))
