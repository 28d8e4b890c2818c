-- What the lists of a partition name.
use Rattle.std.proofs.Common.{◌≡◌, ◌≢◌, ℕ, zero, suc, ◌+◌, ◌<◌, ◌≤◌, ◌==◌, nat_eq, false, List, [], ◌∷◌, All, length, get_or, cond, add-zero, sym, refl, ap, ◌∙◌, subst, lt_of_not-le, ⊎_elim, arith, eq-eqb, ne_eqb, lt-ltb, le-ltb, if◌then◌else◌}
use Rattle.std.specs.List.{AllByRecursion, IsDistinct, range_with_len}
use Rattle.std.specs.List.Sorted.{IsStrictlyIncreasing}
use Rattle.std.proofs.lemmas.Bool.{cases_lt}
use Rattle.std.proofs.lemmas.Bool.Decides.{eqb_tells}
use Rattle.std.proofs.lemmas.List.Sums.{get_or-le-sum_by, sum_by-cons}
use Rattle.apply_events.specs.Partition.{count_of, places, IsPartition}
use Rattle.apply_events.proofs.Dealing.{count_first, count_later}

-- ---- a list that rises from a number on

abbrev pub RisesFrom : ℕ → List ℕ → Type 0
RisesFrom low [] = Unit {0}
RisesFrom low (x ∷ xs) = (low ≤ x) × RisesFrom (x + 1) xs

rises_after : (x : ℕ) (xs : List ℕ) → IsStrictlyIncreasing (x ∷ xs) → RisesFrom (x + 1) xs
rises_after x [] rise = tt
rises_after x (y ∷ ys) rise =
    let first : x < y = rise 0 (omega arith) in
    (omega arith, rises_after y ys (λ k less. let next : suc k + 1 ≡ suc (k + 1) = omega arith in rw next at (rise (suc k) (omega arith))))

pub rises_from_zero : (xs : List ℕ) → IsStrictlyIncreasing xs → RisesFrom 0 xs
rises_from_zero [] rise = tt
rises_from_zero (x ∷ xs) rise = (omega arith, rises_after x xs rise)

-- ---- as many as there is room for

room : (low limit : ℕ) (xs : List ℕ) → low ≤ limit → RisesFrom low xs → All (λ x. x < limit) xs → low + length xs ≤ limit
room low limit [] within rise below = omega arith
room low limit (x ∷ xs) within rise below =
    let here : x < limit = below 0 0 (omega arith) in
    let first : low ≤ x = rise.0 in
    let rest : x + 1 + length xs ≤ limit = room (x + 1) limit xs (omega arith) rise.1 (λ k d less. below (suc k) d (omega arith)) in
    omega arith

pub rising_fits : (limit : ℕ) (xs : List ℕ) → IsStrictlyIncreasing xs → All (λ x. x < limit) xs → length xs ≤ limit
rising_fits limit xs rise below = let h = room 0 limit xs (omega arith) (rises_from_zero xs rise) below in omega arith

-- ---- each number stands once

apart : (low x : ℕ) (xs : List ℕ) → x < low → RisesFrom low xs → AllByRecursion (λ y. nat_eq x y ≡ false) xs
apart low x [] less rise = tt
apart low x (y ∷ ys) less rise =
    let first : low ≤ y = rise.0 in
    (ne_eqb x y (λ e. omega arith), apart (y + 1) x ys (omega arith) rise.1)

distinct : (low : ℕ) (xs : List ℕ) → RisesFrom low xs → IsDistinct nat_eq xs
unfolding IsDistinct
distinct low [] rise = tt
distinct low (x ∷ xs) rise = (apart (x + 1) x xs (omega arith) rise.1, distinct (x + 1) xs rise.1)

pub rising_distinct : (xs : List ℕ) → IsStrictlyIncreasing xs → IsDistinct nat_eq xs
rising_distinct xs rise = distinct 0 xs (rises_from_zero xs rise)

-- ---- which numbers stand in the lists

counted : (x : ℕ) (xs : List ℕ) (k d : ℕ) → k < length xs → get_or xs k d ≡ x → 1 ≤ count_of x xs
counted x xs k d less is =
    let here : cond {A = ℕ} (get_or xs k d == x) 1 0 ≡ 1 = ap (λ b. cond b 1 0) (eq-eqb (get_or xs k d) x is) in
    let part : cond (get_or xs k d == x) 1 0 ≤ count_of x xs = get_or-le-sum_by (λ y. cond (y == x) 1 0) xs k d less in
    omega arith

pub numbers_below_limit : (workers limit worker : ℕ) (lists : List (List ℕ)) → IsPartition workers limit lists → worker < workers → All (λ x. x < limit) (get_or lists worker [])
numbers_below_limit workers limit worker lists parts lt k d less =
    let x = get_or (get_or lists worker []) k d in
    let count : length lists ≡ workers = parts.count in
    let one : 1 ≤ count_of x (get_or lists worker []) = counted x (get_or lists worker []) k d less refl in
    let part : count_of x (get_or lists worker []) ≤ places x lists = get_or-le-sum_by (count_of x) lists worker [] (omega arith) in
    ⊎_elim
    (λ (low : x < limit). low)
    (λ (high : limit ≤ x). let none : places x lists ≡ 0 = parts.once x ∙ ap (λ b. if b then 1 else 0) (le-ltb x limit high) in absurd (omega arith))
    (cases_lt x limit)

pub own_list : (workers limit worker : ℕ) (lists : List (List ℕ)) → IsPartition workers limit lists → worker < workers → All (λ x. x < limit) (get_or lists worker []) × IsDistinct nat_eq (get_or lists worker [])
own_list workers limit worker lists parts lt = (
  numbers_below_limit workers limit worker lists parts lt,
  rising_distinct (get_or lists worker []) (parts.rising worker [] (let count : length lists ≡ workers = parts.count in omega arith)),
)

-- ---- one worker

pub none_below : (low x : ℕ) (xs : List ℕ) → x < low → RisesFrom low xs → count_of x xs ≡ 0
none_below low x [] less rise = refl
none_below low x (y ∷ ys) less rise =
    let first : low ≤ y = rise.0 in
    count_later x y ys (λ e. omega arith) ∙ none_below (y + 1) x ys (omega arith) rise.1

-- a list that rises from a number on, and names the n numbers from there on and no other
all_from : (low n : ℕ) (xs : List ℕ) → RisesFrom low xs → ((x : ℕ) → low ≤ x → x < low + n → count_of x xs ≡ 1) → ((x : ℕ) → low + n ≤ x → count_of x xs ≡ 0) → xs ≡ range_with_len low n
all_from low zero [] rise one none = refl
all_from low zero (x ∷ xs) rise one none =
    let first : low ≤ x = rise.0 in
    let here : count_of x (x ∷ xs) ≡ 1 + count_of x xs = count_first x x xs refl in
    let missing : count_of x (x ∷ xs) ≡ 0 = none x (omega arith) in
    absurd (omega arith)
all_from low (suc n) [] rise one none = let here : zero ≡ 1 = one low (omega arith) (omega arith) in absurd (omega arith)
all_from low (suc n) (x ∷ xs) rise one none =
    let first : low ≤ x = rise.0 in
    ⊎_elim
    (λ (c : _ × (x ≡ low)).
    let same : x ≡ low = c.1 in
    ap (λ y. y ∷ xs) same
    ∙ ap (λ ys. low ∷ ys) (all_from (low + 1) n xs (subst (λ y. RisesFrom (y + 1) xs) same rise.1)
    (λ y above less. sym (count_later y x xs (λ e. omega arith)) ∙ one y (omega arith) (omega arith))
    (λ y above. sym (count_later y x xs (λ e. omega arith)) ∙ none y (omega arith))))
    (λ (c : _ × (x ≢ low)).
    let other = c.1 in
    let above : low < x = lt_of_not-le (λ le. other (omega arith)) in
    let here : count_of low (x ∷ xs) ≡ 1 = one low (omega arith) (omega arith) in
    let missing : count_of low (x ∷ xs) ≡ 0 = count_later low x xs other ∙ none_below (x + 1) low xs (omega arith) rise.1 in
    absurd (omega arith))
    (eqb_tells x low)

pub one_list : (limit : ℕ) (lists : List (List ℕ)) → IsPartition 1 limit lists → lists ≡ range_with_len 0 limit ∷ []
one_list limit [] parts = absurd (let count : zero ≡ 1 = parts.count in omega arith)
one_list limit (xs ∷ ys ∷ lists) parts = absurd (let count : suc (suc (length lists)) ≡ 1 = parts.count in omega arith)
one_list limit (xs ∷ []) parts =
    let own : (x : ℕ) → places x (xs ∷ []) ≡ count_of x xs = λ x. sum_by-cons (count_of x) xs [] ∙ add-zero (count_of x xs) in
    ap (λ ys. ys ∷ []) (all_from 0 limit xs (rises_from_zero xs (parts.rising 0 [] (omega arith)))
    (λ x above less. sym (own x) ∙ parts.once x ∙ ap (λ b. if b then 1 else 0) (lt-ltb x limit (omega arith)))
    (λ x above. sym (own x) ∙ parts.once x ∙ ap (λ b. if b then 1 else 0) (le-ltb x limit (omega arith))))
