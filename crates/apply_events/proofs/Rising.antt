-- Lists along which a number does not fall.
use Rattle.std.proofs.Common.{◌≡◌, ℕ, zero, suc, ◌+◌, ◌<◌, ◌≤◌, List, [], ◌∷◌, ◌++◌, length, map, get_or, arith}
use Rattle.std.specs.Prelude.{All}
use Rattle.std.specs.List.Sorted.{IsNonDecreasingBy}

-- f is at least `low` at the first item, never falls, and is at most `high` at the last item
abbrev pub Rises : {X : Type 0} → (X → ℕ) → (low high : ℕ) → List X → Type 0
Rises f low high [] = low ≤ high
Rises f low high (x ∷ xs) = (low ≤ f x) × Rises f (f x) high xs

pub Rises-lower : {X : Type 0} (f : X → ℕ) (low mid high : ℕ) (xs : List X) → low ≤ mid → Rises f mid high xs → Rises f low high xs
Rises-lower f low mid high [] le h = omega arith
Rises-lower f low mid high (x ∷ xs) le h = (let first : mid ≤ f x = h.0 in omega arith, h.1)

pub Rises-higher : {X : Type 0} (f : X → ℕ) (low mid high : ℕ) (xs : List X) → mid ≤ high → Rises f low mid xs → Rises f low high xs
Rises-higher f low mid high [] le h = omega arith
Rises-higher f low mid high (x ∷ xs) le h = (h.0, Rises-higher f (f x) mid high xs le h.1)

pub Rises-append : {X : Type 0} (f : X → ℕ) (low mid high : ℕ) (xs ys : List X) → Rises f low mid xs → Rises f mid high ys → Rises f low high (xs ++ ys)
Rises-append f low mid high [] ys first second = Rises-lower f low mid high ys first second
Rises-append f low mid high (x ∷ xs) ys first second = (first.0, Rises-append f (f x) mid high xs ys first.1 second)

-- all stand at one number
pub Rises-map_same : {X Y : Type 0} (f : Y → ℕ) (g : X → Y) (n : ℕ) (xs : List X) → ((x : X) → f (g x) ≡ n) → Rises f n n (map g xs)
Rises-map_same f g n [] same = omega arith
Rises-map_same f g n (x ∷ xs) same =
    let here : f (g x) ≡ n = same x in
    (omega arith, Rises-lower f (f (g x)) n n (map g xs) (omega arith) (Rises-map_same f g n xs same))

-- all stand as much higher
pub Rises-map_more : {Y : Type 0} (f : Y → ℕ) (g : ℕ → Y) (n low high : ℕ) (xs : List ℕ) → ((x : ℕ) → f (g x) ≡ n + x) → Rises (λ x. x) low high xs → Rises f (n + low) (n + high) (map g xs)
Rises-map_more f g n low high [] more h = omega arith
Rises-map_more f g n low high (x ∷ xs) more h =
    let here : f (g x) ≡ n + x = more x in
    let first : low ≤ x = h.0 in
    (omega arith, Rises-lower f (f (g x)) (n + x) (n + high) (map g xs) (omega arith) (Rises-map_more f g n x high xs more h.1))

pub Rises-le : {X : Type 0} (f : X → ℕ) (low high : ℕ) (xs : List X) → Rises f low high xs → low ≤ high
Rises-le f low high [] h = h
Rises-le f low high (x ∷ xs) h = let first : low ≤ f x = h.0 in let rest : f x ≤ high = Rises-le f (f x) high xs h.1 in omega arith

at_least : {X : Type 0} (f : X → ℕ) (low high : ℕ) (xs : List X) (j : ℕ) (d : X) → Rises f low high xs → j < length xs → low ≤ f (get_or xs j d)
at_least f low high [] j d h below = absurd (omega arith)
at_least f low high (x ∷ xs) zero d h below = h.0
at_least f low high (x ∷ xs) (suc j) d h below =
    let first : low ≤ f x = h.0 in
    let rest : f x ≤ f (get_or xs j d) = at_least f (f x) high xs j d h.1 (omega arith) in omega arith

pub Rises-at_most : {X : Type 0} (f : X → ℕ) (low high : ℕ) (xs : List X) → Rises f low high xs → All (λ x. f x ≤ high) xs
Rises-at_most f low high [] h j d below = absurd (omega arith)
Rises-at_most f low high (x ∷ xs) h zero d below = Rises-le f (f x) high xs h.1
Rises-at_most f low high (x ∷ xs) h (suc j) d below = Rises-at_most f (f x) high xs h.1 j d (omega arith)

pub IsNonDecreasingBy-from_Rises : {X : Type 0} (f : X → ℕ) (low high : ℕ) (xs : List X) → Rises f low high xs → IsNonDecreasingBy f xs
IsNonDecreasingBy-from_Rises f low high [] h i j d le below = absurd (omega arith)
IsNonDecreasingBy-from_Rises f low high (x ∷ xs) h zero zero d le below = omega arith
IsNonDecreasingBy-from_Rises f low high (x ∷ xs) h zero (suc j) d le below = at_least f (f x) high xs j d h.1 (omega arith)
IsNonDecreasingBy-from_Rises f low high (x ∷ xs) h (suc i) zero d le below = absurd (omega arith)
IsNonDecreasingBy-from_Rises f low high (x ∷ xs) h (suc i) (suc j) d le below = IsNonDecreasingBy-from_Rises f (f x) high xs h.1 i j d (omega arith) (omega arith)
