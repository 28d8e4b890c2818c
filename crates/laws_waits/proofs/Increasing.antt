-- Lists that have the same items.
use Rattle.std.proofs.Common.{◌≡◌, ◌+◌, ◌<◌, ℕ, zero, suc, List, [], ◌∷◌, get_or, refl, sym, ap₂, arith, ◌⊎◌, inl, inr, ⊎_elim}
use Rattle.std.specs.List.{Contains}
use Rattle.std.specs.List.Sorted.{IsStrictlyIncreasing}
use Rattle.std.proofs.lemmas.List.Kept.{AllPairs-from_increasing}

-- ---- items

pub contains_first : {X : Type 0} (x : X) (xs : List X) → Contains (x ∷ xs) x
contains_first x xs = (0, omega arith, refl)

pub contains_later : {X : Type 0} (y x : X) (xs : List X) → Contains xs x → Contains (y ∷ xs) x
contains_later y x xs (k, less, is) = (suc k, omega (arith, less), is)

pub first_or_later : {X : Type 0} (y x : X) (xs : List X) → Contains (y ∷ xs) x → (y ≡ x) ⊎ Contains xs x
first_or_later y x xs (zero, less, is) = inl is
first_or_later y x xs (suc k, less, is) = inr (k, omega (arith, less), is)

pub nothing_in : {X : Type 0} (x : X) → Contains [] x → ⊥
nothing_in x (k, less, is) = omega (arith, less)

-- ---- lists in order

later_is_greater : (x : ℕ) (xs : List ℕ) → IsStrictlyIncreasing (x ∷ xs) → (z : ℕ) → Contains xs z → x < z
later_is_greater x xs rises z (k, less, is) =
    let more : x < get_or xs k z = AllPairs-from_increasing (x ∷ xs) rises 0 (suc k) z (omega arith) (omega (arith, less)) in
    omega (arith, more, is)

rest_rises : (x : ℕ) (xs : List ℕ) → IsStrictlyIncreasing (x ∷ xs) → IsStrictlyIncreasing xs
rest_rises x xs rises k within = AllPairs-from_increasing (x ∷ xs) rises (suc k) (suc (k + 1)) 0 (omega arith) (omega (arith, within))

-- the least item is the first one
same_first : (x : ℕ) (xs : List ℕ) (y : ℕ) (ys : List ℕ) → IsStrictlyIncreasing (x ∷ xs) → IsStrictlyIncreasing (y ∷ ys)
    → Contains (y ∷ ys) x → Contains (x ∷ xs) y → x ≡ y
same_first x xs y ys rises other_rises has other_has = ⊎_elim
    (λ (first : y ≡ x). sym first)
    (λ (later : Contains ys x). ⊎_elim
    (λ (first : x ≡ y). first)
    (λ (other_later : Contains xs y). absurd (omega (arith, later_is_greater y ys other_rises x later, later_is_greater x xs rises y other_later)))
    (first_or_later x y xs other_has))
    (first_or_later y x ys has)

-- an item of a list in order stands in the rest if it is none of the first
in_rest : (x y : ℕ) (xs ys : List ℕ) → x ≡ y → IsStrictlyIncreasing (x ∷ xs) → ((z : ℕ) → Contains (x ∷ xs) z → Contains (y ∷ ys) z)
    → (z : ℕ) → Contains xs z → Contains ys z
in_rest x y xs ys same rises into z has = ⊎_elim
    (λ (first : y ≡ z). absurd (omega (arith, same, first, later_is_greater x xs rises z has)))
    (λ (later : Contains ys z). later)
    (first_or_later y z ys (into z (contains_later x z xs has)))

-- a list in order is determined by its items
pub same_in_order : (xs ys : List ℕ) → IsStrictlyIncreasing xs → IsStrictlyIncreasing ys
    → ((z : ℕ) → Contains xs z → Contains ys z) → ((z : ℕ) → Contains ys z → Contains xs z) → xs ≡ ys
same_in_order [] [] rises other_rises into from = refl
same_in_order [] (y ∷ ys) rises other_rises into from = absurd (nothing_in y (from y (contains_first y ys)))
same_in_order (x ∷ xs) [] rises other_rises into from = absurd (nothing_in x (into x (contains_first x xs)))
same_in_order (x ∷ xs) (y ∷ ys) rises other_rises into from =
    let same = same_first x xs y ys rises other_rises (into x (contains_first x xs)) (from y (contains_first y ys)) in
    ap₂ (λ (n : ℕ) (ns : List ℕ). n ∷ ns) same
    (same_in_order xs ys (rest_rises x xs rises) (rest_rises y ys other_rises)
    (in_rest x y xs ys same rises into) (in_rest y x ys xs (sym same) other_rises from))

pub none_in : {X : Type 0} (xs : List X) → ((x : X) → Contains xs x → ⊥) → xs ≡ []
none_in [] none = refl
none_in (x ∷ xs) none = absurd (none x (contains_first x xs))
