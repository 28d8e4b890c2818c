-- Which state a step has, by whether it began and what explains that it did not.
use Rattle.std.proofs.Common.{◌≡◌, ◌∙◌, ◌-◌, ℕ, zero, suc, Bool, true, false, cond, eqb, List, [], ◌∷◌, ◌++◌, Option, None, Some, refl, sym, ap, arith, ◌⊎◌, inl, inr, ⊎_elim}
use Rattle.std.specs.Prelude.{◌&&◌, ◌||◌, not, option_to_list}
use Rattle.std.specs.List.{Contains, list_any}
use Rattle.std.proofs.lemmas.Bool.{ne_eqb}
use Rattle.stream_record_waits.specs.declared.step_of_plan.StepOfPlan.{StepOfPlan}
use Rattle.stream_record_waits.specs.declared.step_state.StepState.TheVariants.{Answered, Began, Skipped}
use Rattle.stream_record_waits.specs.Graph.{waits_at}
use Rattle.stream_record_waits.specs.States.{ends_change, holds_up, is_explained, state_at, state_of}
use Rattle.stream_record_waits.specs.Steps.{has_begun, step_at, step_before}
use Rattle.laws_recorded.proofs.Stated.{neither}
use Rattle.laws_waits.proofs.Increasing.{contains_first, contains_later, first_or_later}

-- ---- the step before

module _ (steps : List StepOfPlan) where
  pub none_before : (place : ℕ) → (step_at steps place).is_first ≡ true → step_before steps place ≡ None
  none_before place first = ap (λ (b : Bool). cond b None (Some (place - 1))) (either (eqb place 0) (step_at steps place).is_first first)
    where
      either : (a b : Bool) → b ≡ true → (a || b) ≡ true
      either true b is = refl
      either false b is = is

  pub one_before : (place before : ℕ) → place ≡ suc before → (step_at steps place).is_first ≡ false → step_before steps place ≡ Some before
  one_before place before is later =
      let start : eqb place 0 ≡ false = ne_eqb place 0 (λ zeroth. omega (arith, is, zeroth)) in
      let same : place - 1 ≡ before = omega (arith, is) in
      ap (λ (b : Bool). cond b None (Some (place - 1))) (neither (eqb place 0) (step_at steps place).is_first start later) ∙ ap Some same

-- ---- what explains a step

-- an item that passes
pub found_by : (test : ℕ → Bool) (numbers : List ℕ) → list_any test numbers ≡ true → (number : ℕ) × Contains numbers number × (test number ≡ true)
found_by test [] is = absurd cc
found_by test (number ∷ numbers) is = by_test (test number) refl is (found_by test numbers)
  where
    by_test : (b : Bool) → test number ≡ b → (b || list_any test numbers) ≡ true
        → (list_any test numbers ≡ true → (other : ℕ) × Contains numbers other × (test other ≡ true))
        → (other : ℕ) × Contains (number ∷ numbers) other × (test other ≡ true)
    by_test true here any rest = (number, contains_first number numbers, here)
    by_test false here any rest = let later = rest any in (later.0, contains_later number later.0 numbers later.1, later.2)

module _ (steps : List StepOfPlan) (after : List ℕ) (place : ℕ) where
  -- a wait of the step holds it up
  abbrev pub IsHeldBy : Type 0
  IsHeldBy = (other : ℕ) × Contains after other × (holds_up steps other ≡ true)

  pub explained_alone : step_before steps place ≡ None → is_explained steps after place ≡ true → IsHeldBy
  explained_alone none is = found_by (holds_up steps) after (sym (ap (λ (o : Option ℕ). list_any (holds_up steps) (option_to_list o ++ after)) none) ∙ is)

  pub explained_later : (before : ℕ) → step_before steps place ≡ Some before → is_explained steps after place ≡ true → (holds_up steps before ≡ true) ⊎ IsHeldBy
  explained_later before one is =
      let found = found_by (holds_up steps) (before ∷ after) (sym (ap (λ (o : Option ℕ). list_any (holds_up steps) (option_to_list o ++ after)) one) ∙ is) in
      ⊎_elim
      (λ (first : before ≡ found.0). inl (ap (holds_up steps) first ∙ found.2))
      (λ (later : Contains after found.0). inr (found.0, later, found.2))
      (first_or_later before found.0 after found.1)

  -- ---- the state of a step whose change has not ended

  pub state_begun : has_begun steps place ≡ true → state_of steps after place false ≡ Began
  state_begun is = ap (λ (b : Bool). cond b Began (cond (is_explained steps after place) Answered Skipped)) is

  pub state_not_begun : has_begun steps place ≡ false → ((is_explained steps after place ≡ true) × (state_of steps after place false ≡ Answered)) ⊎ (state_of steps after place false ≡ Skipped)
  state_not_begun not_begun = by (is_explained steps after place) refl
    where
      by : (b : Bool) → is_explained steps after place ≡ b
          → ((is_explained steps after place ≡ true) × (state_of steps after place false ≡ Answered)) ⊎ (state_of steps after place false ≡ Skipped)
      by true is = inl (is, ap (λ (b : Bool). cond b Began (cond (is_explained steps after place) Answered Skipped)) not_begun ∙ ap (λ (b : Bool). cond b Answered Skipped) is)
      by false is = inr (ap (λ (b : Bool). cond b Began (cond (is_explained steps after place) Answered Skipped)) not_begun ∙ ap (λ (b : Bool). cond b Answered Skipped) is)

-- ---- the state at a place

module _ (steps : List StepOfPlan) (after : List (List ℕ)) where
  pub first_state : (place : ℕ) → (step_at steps place).is_first ≡ true → state_at steps after place ≡ state_of steps (waits_at after place) place false
  first_state zero first = refl
  first_state (suc place) first =
      ap (λ (b : Bool). state_of steps (waits_at after (suc place)) (suc place) (not b && ends_change (state_at steps after place))) first

  next_state : (place : ℕ) → (step_at steps (suc place)).is_first ≡ false
      → state_at steps after (suc place) ≡ state_of steps (waits_at after (suc place)) (suc place) (ends_change (state_at steps after place))
  next_state place later =
      ap (λ (b : Bool). state_of steps (waits_at after (suc place)) (suc place) (not b && ends_change (state_at steps after place))) later

  pub later_state : (place before : ℕ) → place ≡ suc before → (step_at steps place).is_first ≡ false → ends_change (state_at steps after before) ≡ false
      → state_at steps after place ≡ state_of steps (waits_at after place) place false
  later_state place before is later on =
      rw is (next_state before (ap (λ (p : ℕ). (step_at steps p).is_first) (sym is) ∙ later) ∙ ap (state_of steps (waits_at after (suc before)) (suc before)) on)

  -- the change has not ended with its first step, or ended with a skipped one
  pub ends_or_not : (place : ℕ) → (step_at steps place).is_first ≡ true → (ends_change (state_at steps after place) ≡ false) ⊎ (state_at steps after place ≡ Skipped)
  ends_or_not place first = of_state (has_begun steps place) (is_explained steps (waits_at after place) place) (first_state place first)
    where
      of_state : (begun explained : Bool) → state_at steps after place ≡ cond begun Began (cond explained Answered Skipped) → (ends_change (state_at steps after place) ≡ false) ⊎ (state_at steps after place ≡ Skipped)
      of_state true explained is = inl (ap ends_change is)
      of_state false true is = inl (ap ends_change is)
      of_state false false is = inr is
