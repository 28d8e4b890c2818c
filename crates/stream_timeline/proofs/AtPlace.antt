-- What stands at a place of a list.
use Rattle.std.proofs.Common.{◌≡◌, ℕ, ◌<◌, ◌≤◌, List, [], ◌∷◌, Bool, false, length, get_or, set, suc, zero, refl, sym, ap, ◌∙◌, arith}
use Rattle.stream_timeline.specs.Steps.{at_place, passes_at}

pub at_place_get : {A : Type 0} (n : ℕ) (f : A → A) (xs : List A) (d : A) → n < length xs → at_place n f xs ≡ set xs n (f (get_or xs n d))
at_place_get n f [] d l = absurd (omega arith)
at_place_get zero f (x ∷ xs) d l = refl
at_place_get (suc n) f (x ∷ xs) d l = ap (λ ys. x ∷ ys) (at_place_get n f xs d (omega arith))

-- after a write of what the change makes of what stood there
pub at_place_set : {A : Type 0} (n : ℕ) (f : A → A) (xs : List A) (x y : A) → n < length xs → x ≡ get_or xs n x → y ≡ f x → at_place n f xs ≡ set xs n y
at_place_set n f xs x y l is made = at_place_get n f xs x l ∙ ap (set xs n) (ap f (sym is) ∙ sym made)

pub at_place_past : {A : Type 0} (n : ℕ) (f : A → A) (xs : List A) → length xs ≤ n → at_place n f xs ≡ xs
at_place_past n f [] l = refl
at_place_past zero f (x ∷ xs) l = absurd (omega arith)
at_place_past (suc n) f (x ∷ xs) l = ap (λ ys. x ∷ ys) (at_place_past n f xs (omega arith))

pub passes_at_get : {A : Type 0} (n : ℕ) (p : A → Bool) (xs : List A) (d : A) → n < length xs → passes_at n p xs ≡ p (get_or xs n d)
passes_at_get n p [] d l = absurd (omega arith)
passes_at_get zero p (x ∷ xs) d l = refl
passes_at_get (suc n) p (x ∷ xs) d l = passes_at_get n p xs d (omega arith)

pub passes_at_past : {A : Type 0} (n : ℕ) (p : A → Bool) (xs : List A) → length xs ≤ n → passes_at n p xs ≡ false
passes_at_past n p [] l = refl
passes_at_past zero p (x ∷ xs) l = absurd (omega arith)
passes_at_past (suc n) p (x ∷ xs) l = passes_at_past n p xs (omega arith)
