-- The places of steps that pass a test, when the steps change.
use Rattle.std.proofs.Common.{◌≡◌, ℕ, ◌+◌, ◌<◌, ◌≤◌, List, [], ◌∷◌, ◌++◌, Bool, true, false, cond, eqb, length, map, suc, zero, refl, sym, ap, ◌∙◌, ⊎_elim, arith}
use Rattle.std.specs.Prelude.{◌&&◌, not}
use Rattle.std.proofs.lemmas.Bool.{cases_Bool, eq-eqb, ne_eqb}
use Rattle.stream_timeline.specs.OpenPlaces.{without}
use Rattle.stream_timeline.specs.Steps.{at_place, passes_at, places_from}

-- ---- one more step

pub places_push : {A : Type 0} (p : A → Bool) (n : ℕ) (xs : List A) (x : A)
    → places_from n p (xs ++ x ∷ []) ≡ places_from n p xs ++ cond (p x) ((n + length xs) ∷ []) []
places_push p n [] x =
    let e : n ≡ n + 0 = omega arith in
    ⊎_elim (λ (yes : p x ≡ true). rw yes (ap (λ m. m ∷ []) e)) (λ (out : p x ≡ false). rw out refl) (cases_Bool (p x))
places_push p n (y ∷ ys) x =
    let e : n + 1 + length ys ≡ n + suc (length ys) = omega arith in
    let rest = places_push p (n + 1) ys x ∙ ap (λ m. places_from (n + 1) p ys ++ cond (p x) (m ∷ []) []) e in
    ⊎_elim (λ (yes : p y ≡ true). rw yes (ap (λ ms. n ∷ ms) rest)) (λ (out : p y ≡ false). rw out rest) (cases_Bool (p y))

-- ---- a step that passes as before

pub places_retained : {A : Type 0} (p : A → Bool) (f : A → A) → ((x : A) → p (f x) ≡ p x) → (n k : ℕ) (xs : List A)
    → places_from n p (at_place k f xs) ≡ places_from n p xs
places_retained p f same n k [] = refl
places_retained p f same n zero (x ∷ xs) = rw (same x) refl
places_retained p f same n (suc k) (x ∷ xs) =
    ⊎_elim
    (λ (yes : p x ≡ true). rw yes (ap (λ ms. n ∷ ms) (places_retained p f same (n + 1) k xs)))
    (λ (out : p x ≡ false). rw out (places_retained p f same (n + 1) k xs))
    (cases_Bool (p x))

pub places_mapped : {A : Type 0} (p : A → Bool) (f : A → A) → ((x : A) → p (f x) ≡ p x) → (n : ℕ) (xs : List A)
    → places_from n p (map f xs) ≡ places_from n p xs
places_mapped p f same n [] = refl
places_mapped p f same n (x ∷ xs) =
    rw (same x)
    (⊎_elim
    (λ (yes : p x ≡ true). rw yes (ap (λ ms. n ∷ ms) (places_mapped p f same (n + 1) xs)))
    (λ (out : p x ≡ false). rw out (places_mapped p f same (n + 1) xs))
    (cases_Bool (p x)))

-- ---- a step that passes no more

-- all are at least n
abbrev From : ℕ → List ℕ → Type 0
From n [] = Unit {0}
From n (m ∷ ms) = (n ≤ m) × From n ms

from_less : (m n : ℕ) (ms : List ℕ) → m ≤ n → From n ms → From m ms
from_less m n [] l h = tt
from_less m n (k ∷ ks) l h = let on : n ≤ k = h.0 in (omega arith, from_less m n ks l h.1)

from_places : {A : Type 0} (p : A → Bool) (n : ℕ) (xs : List A) → From n (places_from n p xs)
from_places p n [] = tt
from_places p n (x ∷ xs) =
    let rest : From n (places_from (n + 1) p xs) = from_less n (n + 1) (places_from (n + 1) p xs) (omega arith) (from_places p (n + 1) xs) in
    ⊎_elim (λ (yes : p x ≡ true). rw yes (omega arith, rest)) (λ (out : p x ≡ false). rw out rest) (cases_Bool (p x))

without_none : (k n : ℕ) (ms : List ℕ) → k < n → From n ms → without k ms ≡ ms
without_none k n [] l h = refl
without_none k n (m ∷ ms) l h =
    let on : n ≤ m = h.0 in
    let differ : eqb m k ≡ false = ne_eqb m k (λ e. omega arith) in
    rw differ (ap (λ ks. m ∷ ks) (without_none k n ms l h.1))

-- a step that doesn't pass any more leaves the places; of tests that it never passed none changes
pub places_left : {A : Type 0} (p : A → Bool) (f : A → A) → ((x : A) → p (f x) ≡ false) → (n k : ℕ) (xs : List A)
    → places_from n p (at_place k f xs) ≡ without (n + k) (places_from n p xs)
places_left p f gone n k [] = refl
places_left p f gone n zero (x ∷ xs) =
    let e : n ≡ n + 0 = omega arith in
    let rest : without n (places_from (n + 1) p xs) ≡ places_from (n + 1) p xs = without_none n (n + 1) (places_from (n + 1) p xs) (omega arith) (from_places p (n + 1) xs) in
    rw (gone x, ← e)
    (⊎_elim
    (λ (yes : p x ≡ true). rw (yes, eq-eqb n n refl) (sym rest))
    (λ (out : p x ≡ false). rw out (sym rest))
    (cases_Bool (p x)))
places_left p f gone n (suc k) (x ∷ xs) =
    let e : n + 1 + k ≡ n + suc k = omega arith in
    let rest = places_left p f gone (n + 1) k xs ∙ ap (λ m. without m (places_from (n + 1) p xs)) e in
    ⊎_elim
    (λ (yes : p x ≡ true).
    let differ : eqb n (n + suc k) ≡ false = ne_eqb n (n + suc k) (λ e. omega arith) in
    rw (yes, differ) (ap (λ ms. n ∷ ms) rest))
    (λ (out : p x ≡ false). rw out rest)
    (cases_Bool (p x))

both_out : {A : Type 0} (p : A → Bool) (f : A → A) (n : ℕ) (x : A) (xs : List A) (a b : Bool) → p x ≡ a → p (f x) ≡ b → (not a && not b) ≡ true
    → places_from n p (f x ∷ xs) ≡ places_from n p (x ∷ xs)
both_out p f n x xs true b e g h = absurd cc
both_out p f n x xs false true e g h = absurd cc
both_out p f n x xs false false e g h = rw (e, g) refl

-- one that passes neither before nor after changes nothing
pub places_apart : {A : Type 0} (p : A → Bool) (f : A → A) (n k : ℕ) (xs : List A)
    → passes_at k (λ x. not (p x) && not (p (f x))) xs ≡ true → places_from n p (at_place k f xs) ≡ places_from n p xs
places_apart p f n k [] h = refl
places_apart p f n zero (x ∷ xs) h = both_out p f n x xs (p x) (p (f x)) refl refl h
places_apart p f n (suc k) (x ∷ xs) h =
    ⊎_elim
    (λ (yes : p x ≡ true). rw yes (ap (λ ms. n ∷ ms) (places_apart p f (n + 1) k xs h)))
    (λ (out : p x ≡ false). rw out (places_apart p f (n + 1) k xs h))
    (cases_Bool (p x))
