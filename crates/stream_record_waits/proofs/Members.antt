-- Members of lists, and steps that join a list.
use Rattle.std.proofs.Common.{◌≡◌, ◌⊎◌, ◌<◌, ◌≤◌, ℕ, zero, suc, List, [], ◌∷◌, ◌++◌, All, length, get_or, cond, eqb, true, false, Bool, refl, sym, ap, ◌∙◌, inl, inr, ⊎_elim, arith, subst, length-append, eqb-true}
use Rattle.std.specs.Prelude.{◌||◌, slice_get}
use Rattle.std.specs.List.{Contains, list_any}
use Rattle.std.proofs.lemmas.Bool.{cases_Bool}
use Rattle.std.proofs.lemmas.List.Elements.{All-cons, All-head, All-nil, All-push, All-tail, Contains-append_left, Contains-push}
use Rattle.stream_record_waits.specs.Reached.{with_all, with_step}

pub in_front : {X : Type 0} (x : X) (xs : List X) → Contains (x ∷ xs) x
in_front x xs = (0, omega arith, refl)

pub further : {X : Type 0} (x y : X) (xs : List X) → Contains xs y → Contains (x ∷ xs) y
further x y xs c = (suc c.0, omega (arith, c.1), c.2)

at_place : {X : Type 0} (x y : X) (xs : List X) (k : ℕ) → k < length (x ∷ xs) → get_or (x ∷ xs) k y ≡ y → (x ≡ y) ⊎ Contains xs y
at_place x y xs zero within is = inl is
at_place x y xs (suc k) within is = inr (k, omega (arith, within), is)

pub front_or_further : {X : Type 0} (x y : X) (xs : List X) → Contains (x ∷ xs) y → (x ≡ y) ⊎ Contains xs y
front_or_further x y xs c = at_place x y xs c.0 c.1 c.2

pub no_member : {X : Type 0} (y : X) → Contains [] y → ⊥
no_member y c = omega (arith, c.1)

-- a step that a test finds
pub found_member : (step : ℕ) (steps : List ℕ) → list_any (λ other. eqb other step) steps ≡ true → Contains steps step
found_member step [] found = cc
found_member step (x ∷ xs) found = ⊎_elim
    (λ (yes : eqb x step ≡ true). subst (λ (y : ℕ). Contains (x ∷ xs) y) (eqb-true x step yes) (in_front x xs))
    (λ (no : eqb x step ≡ false). further x step xs (found_member step xs (ap (λ b. b || list_any (λ other. eqb other step) xs) (sym no) ∙ found)))
    (cases_Bool (eqb x step))

-- the items at the front stay where they are
pub same_place : {X : Type 0} (xs ys : List X) (k : ℕ) → k < length xs → slice_get (xs ++ ys) k ≡ slice_get xs k
same_place [] ys k within = absurd (omega (arith, within))
same_place (x ∷ xs) ys zero within = refl
same_place (x ∷ xs) ys (suc k) within = same_place xs ys k (omega (arith, within))

-- a step joins
pub record Joins (steps : List ℕ) (step : ℕ) (new : List ℕ) : Type 0 where
  pub keeps : (other : ℕ) → Contains steps other → Contains new other
  pub has : Contains new step
  pub grows : length steps ≤ length new
  pub stays : (k : ℕ) → k < length steps → slice_get new k ≡ slice_get steps k

joins_if : (steps : List ℕ) (step : ℕ) (b : Bool) → list_any (λ other. eqb other step) steps ≡ b → Joins steps step (cond b steps (steps ++ step ∷ []))
joins_if steps step true is = record {
  keeps = λ other c. c;
  has = found_member step steps is;
  grows = omega arith;
  stays = λ k within. refl;
}
joins_if steps step false is = record {
  keeps = λ other c. Contains-append_left steps (step ∷ []) other c;
  has = Contains-push steps step;
  grows = omega (arith, length-append steps (step ∷ []));
  stays = λ k within. same_place steps (step ∷ []) k within;
}

joins : (steps : List ℕ) (step : ℕ) → Joins steps step (with_step steps step)
joins steps step = joins_if steps step (list_any (λ other. eqb other step) steps) refl

only_if : (P : ℕ → Type 0) (steps : List ℕ) (step : ℕ) (b : Bool) → All P steps → P step → All P (cond b steps (steps ++ step ∷ []))
only_if P steps step true all one = all
only_if P steps step false all one = All-push P steps step all one

-- several join
pub keeps_all : (more steps : List ℕ) (other : ℕ) → Contains steps other → Contains (with_all steps more) other
keeps_all [] steps other c = c
keeps_all (x ∷ xs) steps other c = keeps_all xs (with_step steps x) other ((joins steps x).keeps other c)

pub has_all : (more steps : List ℕ) → All (Contains (with_all steps more)) more
has_all [] steps = All-nil (Contains (with_all steps []))
has_all (x ∷ xs) steps = All-cons (Contains (with_all steps (x ∷ xs))) x xs (keeps_all xs (with_step steps x) x (joins steps x).has) (has_all xs (with_step steps x))

pub grows_all : (more steps : List ℕ) → length steps ≤ length (with_all steps more)
grows_all [] steps = omega arith
grows_all (x ∷ xs) steps = omega (arith, (joins steps x).grows, grows_all xs (with_step steps x))

pub stays_all : (more steps : List ℕ) (k : ℕ) → k < length steps → slice_get (with_all steps more) k ≡ slice_get steps k
stays_all [] steps k within = refl
stays_all (x ∷ xs) steps k within = stays_all xs (with_step steps x) k (omega (arith, within, (joins steps x).grows)) ∙ (joins steps x).stays k within

pub only_all : (P : ℕ → Type 0) (more steps : List ℕ) → All P steps → All P more → All P (with_all steps more)
only_all P [] steps all others = all
only_all P (x ∷ xs) steps all others =
    only_all P xs (with_step steps x) (only_if P steps x (list_any (λ other. eqb other x) steps) all (All-head P x xs others)) (All-tail P x xs others)
