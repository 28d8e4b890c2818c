-- The steps of a script, one after another and change by change.
use Rattle.std.proofs.Common.{◌≡◌, ◌∙◌, ◌+◌, ◌<◌, ◌≤◌, ℕ, zero, suc, List, [], ◌∷◌, drop, length, Option, None, Some, refl, sym, ap, arith}
use Rattle.std.specs.Prelude.{slice_get}
use Rattle.std.proofs.lemmas.List.{drop-drop}
use Rattle.apply_model.specs.declared.plan.step_kind.StepKind.{StepKind}
use Rattle.apply_model.specs.declared.script.script_step.ScriptStep.{ScriptStep}
use Rattle.apply_model.specs.declared.script.wait.Wait.{Wait}
use Rattle.apply_model.specs.Plan.ResourceChange.{ResourceChange}
use Rattle.stream_record.specs.EvenScript.{steps_at, waits_at}
use Rattle.stream_record_outcomes.specs.declared.recorded_step.RecordedStep.{RecordedStep}
use Rattle.stream_record_waits.specs.declared.step_state.StepState.{StepState}
use Rattle.stream_record_script.specs.Steps.{by_change, first_steps, other_steps, script_step, script_steps}
use Rattle.laws_recorded.proofs.Places.{base}

-- ---- one after another

-- the item at i
pub record IsItem (planned : List Wait) (waits : List (List ℕ)) (place : ℕ) (recorded : List (Option RecordedStep)) (states : List StepState) (i : ℕ) (item : Option ScriptStep) : Type 0 where
  pub found : Option RecordedStep
  pub found_at : slice_get recorded i ≡ Some found
  pub state : StepState
  pub state_at : slice_get states i ≡ Some state
  pub is : item ≡ script_step state found (steps_at planned (waits_at waits (place + i)))

pub item_in : (planned : List Wait) (waits : List (List ℕ)) (place : ℕ) (recorded : List (Option RecordedStep)) (states : List StepState) (i : ℕ) (item : Option ScriptStep)
    → slice_get (script_steps planned waits place recorded states) i ≡ Some item → IsItem planned waits place recorded states i item
item_in planned waits place [] states i item at = absurd cc
item_in planned waits place (found ∷ recorded) [] i item at = absurd cc
item_in planned waits place (found ∷ recorded) (state ∷ states) zero item at =
    let one = script_step state found (steps_at planned (waits_at waits place)) in
    let same : item ≡ one = cc in
    let here : place ≡ place + 0 = omega arith in
    record { found = found; found_at = refl; state = state; state_at = refl; is = same ∙ ap (λ (p : ℕ). script_step state found (steps_at planned (waits_at waits p))) here }
item_in planned waits place (found ∷ recorded) (state ∷ states) (suc i) item at =
    let rest = item_in planned waits (place + 1) recorded states i item at in
    let here : place + 1 + i ≡ place + suc i = omega arith in record {
      found = rest.found;
      found_at = rest.found_at;
      state = rest.state;
      state_at = rest.state_at;
      is = rest.is ∙ ap (λ (p : ℕ). script_step rest.state rest.found (steps_at planned (waits_at waits p))) here;
    }

-- ---- change by change

pub get_drop : {X : Type 0} (n : ℕ) (xs : List X) (k : ℕ) → slice_get (drop n xs) k ≡ slice_get xs (n + k)
get_drop zero xs k = let same : k ≡ 0 + k = omega arith in ap (slice_get xs) same
get_drop (suc n) [] k = refl
get_drop (suc n) (x ∷ xs) k = let same : suc (n + k) ≡ suc n + k = omega arith in get_drop n xs k ∙ ap (slice_get (x ∷ xs)) same

others_are : (kinds : List StepKind) (steps : List (Option ScriptStep)) → other_steps kinds steps ≡ drop (length kinds) steps
others_are [] steps = refl
others_are (kind ∷ kinds) [] = refl
others_are (kind ∷ kinds) (step ∷ steps) = others_are kinds steps

pub change_steps : (changes : List ResourceChange) (steps : List (Option ScriptStep)) (c : ℕ) (change : ResourceChange) → slice_get changes c ≡ Some change
    → slice_get (by_change changes steps) c ≡ Some (Some (first_steps change.steps (drop (base changes c) steps)))
change_steps [] steps c change at = absurd cc
change_steps (first ∷ changes) steps zero change at =
    let same : first ≡ change = cc in ap (λ (ch : ResourceChange). Some (Some (first_steps ch.steps steps))) same
change_steps (first ∷ changes) steps (suc c) change at =
    change_steps changes (other_steps first.steps steps) c change at
    ∙ ap (λ (own : List (Option ScriptStep)). Some (Some (first_steps change.steps (drop (base changes c) own)))) (others_are first.steps steps)
    ∙ ap (λ (own : List (Option ScriptStep)). Some (Some (first_steps change.steps own))) (drop-drop (base changes c) (length first.steps) steps)

pub as_many_changes : (changes : List ResourceChange) (steps : List (Option ScriptStep)) → length (by_change changes steps) ≡ length changes
as_many_changes [] steps = refl
as_many_changes (change ∷ changes) steps = ap suc (as_many_changes changes (other_steps change.steps steps))

-- each step of a change is the item at its number, where the first one is stated
first_at : (kinds : List StepKind) (steps : List (Option ScriptStep)) → length kinds ≤ 2 → (0 < length kinds → slice_get steps 0 ≡ Some None → ⊥) → (k : ℕ) (step : ScriptStep)
    → slice_get (first_steps kinds steps) k ≡ Some step → (k < length kinds) × (slice_get steps k ≡ Some (Some step))
first_at [] steps few some k step at = absurd cc
first_at (kind ∷ kinds) [] few some k step at = absurd cc
first_at (kind ∷ kinds) (None ∷ steps) few some k step at = absurd (some (omega arith) refl)
first_at (kind ∷ kinds) (Some one ∷ steps) few some zero step at = (omega arith, ap Some at)
first_at (kind ∷ []) (Some one ∷ steps) few some (suc k) step at = absurd cc
first_at (kind ∷ (other ∷ kinds)) (Some one ∷ []) few some (suc k) step at = absurd cc
first_at (kind ∷ (other ∷ [])) (Some one ∷ (None ∷ steps)) few some (suc k) step at = absurd cc
first_at (kind ∷ (other ∷ [])) (Some one ∷ (Some two ∷ steps)) few some (suc zero) step at = (omega arith, ap Some at)
first_at (kind ∷ (other ∷ [])) (Some one ∷ (Some two ∷ steps)) few some (suc (suc k)) step at = absurd cc
first_at (kind ∷ (other ∷ (more ∷ kinds))) (Some one ∷ (next ∷ steps)) few some (suc k) step at = absurd (omega arith)

pub few_steps : (kinds : List StepKind) (steps : List (Option ScriptStep)) → length (first_steps kinds steps) ≤ length kinds
few_steps [] steps = omega arith
few_steps (kind ∷ kinds) [] = omega arith
few_steps (kind ∷ kinds) (None ∷ steps) = omega (arith, few_steps kinds steps)
few_steps (kind ∷ kinds) (Some one ∷ steps) = omega (arith, few_steps kinds steps)

-- the step of a change is the item at its place
pub step_item : (changes : List ResourceChange) (steps : List (Option ScriptStep)) (c k : ℕ) (change : ResourceChange) (step : ScriptStep) → length change.steps ≤ 2
    → (0 < length change.steps → slice_get steps (base changes c) ≡ Some None → ⊥) → slice_get (first_steps change.steps (drop (base changes c) steps)) k ≡ Some step
    → (k < length change.steps) × (slice_get steps (base changes c + k) ≡ Some (Some step))
step_item changes steps c k change step few some at =
    let zeroth : base changes c + 0 ≡ base changes c = omega arith in
    let here = first_at change.steps (drop (base changes c) steps) few
    (λ has none. some has (ap (slice_get steps) (sym zeroth) ∙ sym (get_drop (base changes c) steps 0) ∙ none)) k step at in
    (here.0, sym (get_drop (base changes c) steps k) ∙ here.1)
