-- Facts of the view at each place, while one view changes or a new one comes.
use Rattle.std.proofs.Common.{◌≡◌, ◌≢◌, ℕ, zero, suc, Bool, true, false, ◌⊎◌, inl, inr, List, [], ◌∷◌, ◌++◌, length, set, eqb, sym, refl, ap, subst, ⊎_elim}
use Rattle.std.proofs.lemmas.Bool.{eq-eqb, ne_eqb}
use mathlib.Core.Option.{some, some-ne-none, some-injective}
use lib.ListN.{get_elem?}
use Rattle.atomic_table.proofs.Lists.{at_set}

-- the fact holds of the view at each place
abbrev pub AtEach : {V : Type 0} → (ℕ → V → Type 0) → List V → Type 0
AtEach {V} F views = (place : ℕ) (v : V) → get_elem? views place ≡ some v → F place v

pub each_set : {V : Type 0} → (F : ℕ → V → Type 0) (views : List V) (place : ℕ) (w : V) → F place w → ((j : ℕ) (u : V) → j ≢ place → get_elem? views j ≡ some u → F j u) → AtEach F (set views place w)
each_set {V} F views place w mine others j u e = ⊎_elim (λ (x : (j ≡ place) × (w ≡ u)). subst (λ (y : ℕ × V). F y.0 y.1) (λ i. (sym x.0 i, x.1 i)) mine)
    (λ (x : (j ≢ place) × (get_elem? views j ≡ some u)). others j u x.0 x.1) (at_set views place j w u e)

-- a view of a list with one more at its end
pub at_end : {V : Type 0} → (views : List V) (r u : V) (j : ℕ) → get_elem? (views ++ r ∷ []) j ≡ some u → ((get_elem? views j ≡ some u) ⊎ ((j ≡ length views) × (r ≡ u)))
at_end [] r u zero e = inr (refl, some-injective r u e)
at_end [] r u (suc j) e = absurd (some-ne-none u (sym e))
at_end (x ∷ xs) r u zero e = inl e
at_end (x ∷ xs) r u (suc j) e = ⊎_elim (λ (h : get_elem? xs j ≡ some u). inl h) (λ (h : (j ≡ length xs) × (r ≡ u)). inr (ap suc h.0, h.1)) (at_end xs r u j e)

pub each_end : {V : Type 0} → (F : ℕ → V → Type 0) (views : List V) (r : V) → AtEach F views → F (length views) r → AtEach F (views ++ r ∷ [])
each_end {V} F views r old new j u e = ⊎_elim (λ (x : get_elem? views j ≡ some u). old j u x)
    (λ (x : (j ≡ length views) × (r ≡ u)). subst (λ (y : ℕ × V). F y.0 y.1) (λ i. (sym x.0 i, x.1 i)) new) (at_end views r u j e)

pub each_nil : {V : Type 0} → (F : ℕ → V → Type 0) → AtEach F []
each_nil F j u e = absurd (some-ne-none u (sym e))

-- the first where the test is true
pub pick : {A : Type 0} → Bool → A → A → A
pick true a b = a
pick false a b = b

pub picked : {A : Type 0} → (x y : ℕ) (a b : A) → x ≡ y → pick (eqb x y) a b ≡ a
unfolding pick
picked x y a b e = ap (λ t. pick t a b) (eq-eqb x y e)

pub left_out : {A : Type 0} → (x y : ℕ) (a b : A) → x ≢ y → pick (eqb x y) a b ≡ b
unfolding pick
left_out x y a b n = ap (λ t. pick t a b) (ne_eqb x y n)
