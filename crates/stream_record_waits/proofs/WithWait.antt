-- Numbers in their order with one more.
use Rattle.std.proofs.Common.{◌≡◌, ◌<◌, ◌≤◌, ◌+◌, ℕ, zero, suc, List, [], ◌∷◌, ◌++◌, All, true, false, cond, ltb, Option, None, Some, length, get_or, sym, arith, subst, ⊎_elim, length-append, ltb-true}
use Rattle.std.specs.Prelude.{IfSome, filter}
use Rattle.std.specs.List.Sorted.{IsStrictlyIncreasing}
use Rattle.std.proofs.lemmas.Bool.{cases_Bool, cases_lt, le-ltb, lt-ltb}
use Rattle.std.proofs.lemmas.List.Elements.{All-append, All-cons, All-filter, All-get_or, All-head, All-tail, All-weaker, filter_passes}
use Rattle.std.proofs.lemmas.List.Kept.{IsStrictlyIncreasing-filter}
use Rattle.stream_record_waits.specs.Course.{with_wait}

tail_increasing : (x : ℕ) (xs : List ℕ) → IsStrictlyIncreasing (x ∷ xs) → IsStrictlyIncreasing xs
tail_increasing x xs h k within =
    let next : suc k + 1 ≡ suc (k + 1) = omega arith in
    subst (λ (n : ℕ). get_or (x ∷ xs) (suc k) 0 < get_or (x ∷ xs) n 0) next (h (suc k) (omega (arith, within)))

cons_increasing : (x : ℕ) (xs : List ℕ) → (0 < length xs → x < get_or xs 0 0) → IsStrictlyIncreasing xs → IsStrictlyIncreasing (x ∷ xs)
cons_increasing x xs first h zero within =
    let next : zero + 1 ≡ suc zero = omega arith in
    subst (λ (n : ℕ). x < get_or (x ∷ xs) n 0) (sym next) (first (omega (arith, within)))
cons_increasing x xs first h (suc k) within =
    let next : suc k + 1 ≡ suc (k + 1) = omega arith in
    subst (λ (n : ℕ). get_or xs k 0 < get_or (x ∷ xs) n 0) (sym next) (h k (omega (arith, within)))

joined_increasing : (xs : List ℕ) (w : ℕ) (ys : List ℕ) → IsStrictlyIncreasing xs → All (λ x. x < w) xs → IsStrictlyIncreasing ys → All (λ y. w < y) ys → IsStrictlyIncreasing (xs ++ w ∷ ys)
joined_increasing [] w ys low all_low high all_high = cons_increasing w ys (λ some. All-get_or (λ y. w < y) ys 0 0 some all_high) high
joined_increasing (x ∷ []) w ys low all_low high all_high =
    cons_increasing x (w ∷ ys) (λ some. All-head (λ x. x < w) x [] all_low) (joined_increasing [] w ys (tail_increasing x [] low) (All-tail (λ x. x < w) x [] all_low) high all_high)
joined_increasing (x ∷ z ∷ xs) w ys low all_low high all_high =
    let next : zero + 1 ≡ suc zero = omega arith in
    let first : x < z = subst (λ (n : ℕ). x < get_or (x ∷ z ∷ xs) n 0) next (low 0 (omega arith)) in
    cons_increasing x ((z ∷ xs) ++ w ∷ ys) (λ some. first)
    (joined_increasing (z ∷ xs) w ys (tail_increasing x (z ∷ xs) low) (All-tail (λ x. x < w) x (z ∷ xs) all_low) high all_high)

pub with_wait_increasing : (wait : Option ℕ) (xs : List ℕ) → IsStrictlyIncreasing xs → IsStrictlyIncreasing (with_wait wait xs)
with_wait_increasing None xs h = h
with_wait_increasing (Some w) xs h =
    let low = filter (λ x. ltb x w) xs in
    let high = filter (λ x. ltb w x) xs in
    joined_increasing low w high (IsStrictlyIncreasing-filter (λ x. ltb x w) xs h)
    (All-weaker (λ x. ltb x w ≡ true) (λ x. x < w) (λ x p. ltb-true x w p) low (filter_passes (λ x. ltb x w) xs))
    (IsStrictlyIncreasing-filter (λ x. ltb w x) xs h)
    (All-weaker (λ x. ltb w x ≡ true) (λ x. w < x) (λ x p. ltb-true w x p) high (filter_passes (λ x. ltb w x) xs))

pub with_wait_all : (P : ℕ → Type 0) (wait : Option ℕ) (xs : List ℕ) → IfSome wait P → All P xs → All P (with_wait wait xs)
with_wait_all P None xs one all = all
with_wait_all P (Some w) xs one all =
    let low = filter (λ x. ltb x w) xs in
    let high = filter (λ x. ltb w x) xs in
    All-append P low (w ∷ high) (All-filter (λ x. ltb x w) P xs all) (All-cons P w high one (All-filter (λ x. ltb w x) P xs all))

-- a number is not both lower and higher
sides : (x w : ℕ) (low high : List ℕ) (xs : List ℕ) → length low + length high ≤ length xs → length (cond (ltb x w) (x ∷ low) low) + length (cond (ltb w x) (x ∷ high) high) ≤ length (x ∷ xs)
sides x w low high xs few = ⊎_elim
    (λ (lt : x < w).
    rw (lt-ltb x w lt, le-ltb w x (omega (arith, lt))) (omega (arith, few)))
    (λ (ge : w ≤ x).
    rw (le-ltb x w ge) (⊎_elim
    (λ (yes : ltb w x ≡ true). rw yes (omega (arith, few)))
    (λ (no : ltb w x ≡ false). rw no (omega (arith, few)))
    (cases_Bool (ltb w x))))
    (cases_lt x w)

both_sides : (w : ℕ) (xs : List ℕ) → length (filter (λ x. ltb x w) xs) + length (filter (λ x. ltb w x) xs) ≤ length xs
both_sides w [] = omega arith
both_sides w (x ∷ xs) = sides x w (filter (λ x. ltb x w) xs) (filter (λ x. ltb w x) xs) xs (both_sides w xs)

pub one_more_at_most : (wait : Option ℕ) (xs : List ℕ) → length (with_wait wait xs) ≤ length xs + 1
one_more_at_most None xs = omega arith
one_more_at_most (Some w) xs =
    let size = length-append (filter (λ x. ltb x w) xs) (w ∷ filter (λ x. ltb w x) xs) in
    let few = both_sides w xs in
    omega (arith, size, few)
