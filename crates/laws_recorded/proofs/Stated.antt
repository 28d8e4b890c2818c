-- The entries of a script, and what its text states.
use Rattle.std.proofs.Common.{◌≡◌, ◌∙◌, ◌+◌, ◌<◌, ℕ, zero, suc, Bool, false, List, [], ◌∷◌, length, map, Option, None, Some, refl, sym, ap, arith, subst, ◌⊎◌, inl, inr}
use Rattle.std.specs.Prelude.{◌||◌, IfSome, slice_get}
use Rattle.std.specs.List.{AllByRecursion, enumerate_from, list_any, zip}
use Rattle.std.specs.Option.{option_map_or}
use Rattle.apply_model.specs.declared.plan.step_kind.StepKind.{StepKind}
use Rattle.apply_model.specs.declared.script.outcome.Outcome.{Outcome}
use Rattle.apply_model.specs.declared.script.script_step.ScriptStep.{ScriptStep}
use Rattle.apply_model.specs.declared.script.wait.Wait.{Wait}
use Rattle.apply_model.specs.Plan.ResourceChange.{ResourceChange}
use Rattle.apply_model.specs.Script.OutcomeMap.{OutcomeMap}
use Rattle.apply_model.specs.Script.Step.{after_of, answer_to}
use Rattle.apply_model.specs.Script.Waits.{named_for, stated_waits}
use Rattle.stream_record.specs.ScriptText.{entry_steps, unless_no_steps}
use Rattle.laws_record.specs.Writable.{AreWritableEntries, IsWritableEntry}

-- ---- lists

pub all_pointwise : {X : Type 0} (P : X → Type 0) (xs : List X) → ((k : ℕ) (x : X) → slice_get xs k ≡ Some x → P x) → AllByRecursion P xs
all_pointwise P [] each = tt
all_pointwise P (x ∷ xs) each = (each 0 x refl, all_pointwise P xs (λ k y at. each (suc k) y at))

pub at_all : {X : Type 0} (P : X → Type 0) (xs : List X) (k : ℕ) (x : X) → AllByRecursion P xs → slice_get xs k ≡ Some x → P x
at_all P [] k x all at = absurd cc
at_all P (y ∷ xs) zero x all at = let same : y ≡ x = cc in subst P same all.0
at_all P (y ∷ xs) (suc k) x all at = at_all P xs k x all.1 at

pub item_there : {X : Type 0} (xs : List X) (k : ℕ) → k < length xs → (x : X) × (slice_get xs k ≡ Some x)
item_there [] k less = absurd (omega arith)
item_there (x ∷ xs) zero less = (x, refl)
item_there (x ∷ xs) (suc k) less = item_there xs k (omega arith)

pub neither : (a b : Bool) → a ≡ false → b ≡ false → (a || b) ≡ false
neither a b one other = rw (one, other) refl

-- no step of the kinds passes
pub none_passes : (test : (ℕ × StepKind) × Option Outcome → Bool) (kinds : List StepKind) (steps : List ScriptStep) (first : ℕ)
    → ((k : ℕ) (kind : StepKind) (step : ScriptStep) → slice_get kinds k ≡ Some kind → slice_get steps k ≡ Some step → test ((first + k, kind), answer_to step) ≡ false)
    → list_any test (zip (enumerate_from first kinds) (map answer_to steps)) ≡ false
none_passes test [] steps first each = refl
none_passes test (kind ∷ kinds) [] first each = refl
none_passes test (kind ∷ kinds) (step ∷ steps) first each =
    let here : first + 0 ≡ first = omega arith in
    neither (test ((first, kind), answer_to step)) (list_any test (zip (enumerate_from (first + 1) kinds) (map answer_to steps)))
    (ap (λ (n : ℕ). test ((n, kind), answer_to step)) (sym here) ∙ each 0 kind step refl refl)
    (none_passes test kinds steps (first + 1) (λ k k_kind k_step at has.
    let place : first + 1 + k ≡ first + suc k = omega arith in
    ap (λ (n : ℕ). test ((n, k_kind), answer_to k_step)) place ∙ each (suc k) k_kind k_step at has))

-- ---- entries

pub entries_from : (changes : List ResourceChange) (script : OutcomeMap) (n : ℕ) (left : List ResourceChange)
    → ((k : ℕ) (change : ResourceChange) → slice_get left k ≡ Some change → IfSome (entry_steps script (n + k)) (IsWritableEntry changes script (n + k) change))
    → AreWritableEntries changes script n left
entries_from changes script n [] each = tt
entries_from changes script n (change ∷ left) each =
    let here : n + 0 ≡ n = omega arith in (
      subst (λ (m : ℕ). IfSome (entry_steps script m) (IsWritableEntry changes script m change)) here (each 0 change refl),
      entries_from changes script (n + 1) left (λ k other at.
          let place : n + suc k ≡ n + 1 + k = omega arith in
          subst (λ (m : ℕ). IfSome (entry_steps script m) (IsWritableEntry changes script m other)) place (each (suc k) other at)),
    )

pub unless_none_is : (P : List ScriptStep → Type 0) (steps : List ScriptStep) → P steps → IfSome (unless_no_steps steps) P
unless_none_is P [] is = tt
unless_none_is P (step ∷ steps) is = is

-- ---- what the text states

-- a stated wait is for the step before, or named
pub stated_in : (script : OutcomeMap) (c k i : ℕ) (wait : Wait) → slice_get (stated_waits script c k) i ≡ Some wait
    → ((j : ℕ) × (k ≡ suc j) × (wait ≡ record { change = c; step = j })) ⊎ ((m : ℕ) × (slice_get (named_for script c k) m ≡ Some wait))
stated_in script c zero i wait at = inr (i, at)
stated_in script c (suc k) zero wait at = let same : wait ≡ record { change = c; step = k } = cc in inl (k, refl, same)
stated_in script c (suc k) (suc i) wait at = inr (i, at)

pub named_in : (o : Option ScriptStep) (m : ℕ) (wait : Wait) → slice_get (option_map_or after_of o []) m ≡ Some wait → (step : ScriptStep) × (o ≡ Some step) × (slice_get (after_of step) m ≡ Some wait)
named_in None m wait at = absurd cc
named_in (Some step) m wait at = (step, refl, at)
