-- The script in which each step takes a second may be written, if its waits are ranked.
use Rattle.std.proofs.Common.{◌≡◌, ◌∙◌, ◌+◌, ◌≤◌, ℕ, zero, suc, List, [], ◌∷◌, length, Option, None, Some, refl, sym, ap, ap₂, arith, subst}
use Rattle.std.specs.Prelude.{slice_get, sum_by}
use Rattle.std.specs.List.{AllByRecursion}
use Rattle.apply_model.specs.declared.plan.step_kind.StepKind.{StepKind}
use Rattle.apply_model.specs.declared.script.script_step.ScriptStep.{ScriptStep}
use Rattle.apply_model.specs.declared.script.wait.Wait.{Wait}
use Rattle.apply_model.specs.Plan.ResourceChange.{ResourceChange}
use Rattle.apply_model.specs.Script.Limits.{max_waits}
use Rattle.apply_model.specs.Script.OutcomeMap.{OutcomeMap}
use Rattle.stream_record.specs.EvenScript as even
use Rattle.stream_record.specs.EvenScript.{even_changes, even_script, even_step, even_steps, steps_at, waits_at}
use Rattle.stream_record_outcomes.specs.declared.recorded_step.RecordedStep.{RecordedStep}
use Rattle.stream_record_outcomes.specs.Recording.{AreAllowed}
use Rattle.stream_record_steps.specs.Steps.{planned_steps}
use Rattle.stream_record_waits.specs.declared.step_state.StepState.{StepState}
use Rattle.stream_record_waits.specs.declared.step_state.StepState.TheVariants.{Answered}
use Rattle.stream_record_script.specs.Steps.{by_change, first_steps, other_steps, script_step, script_steps}
use Rattle.laws_recorded.specs.Graphs.{IsRankedGraph}
use Rattle.laws_recorded.specs.Texts.{IsWritableRecording}
use Rattle.laws_record.specs.Writable.{IsWritable, IsWritableChange, NamesEachObjectOnce}
use Rattle.laws_recorded.proofs.Entries.{AreFirstStated, items_of, steps_are_writable, waits_for}
use Rattle.laws_recorded.proofs.Items.{item_in}
use Rattle.laws_recorded.proofs.Places.{base}
use Rattle.laws_recorded.proofs.Stated.{all_pointwise}

-- ---- the same item for each step

abbrev for_kinds : {X : Type 0} → X → List StepKind → (later : List X) → List X
for_kinds x [] later = later
for_kinds x (kind ∷ kinds) later = x ∷ for_kinds x kinds later

abbrev for_steps : {X : Type 0} → X → List ResourceChange → List X
for_steps x [] = []
for_steps x (change ∷ changes) = for_kinds x change.steps (for_steps x changes)

same_for_kinds : {X : Type 0} (x : X) (kinds : List StepKind) (later : List X) → ((k : ℕ) (y : X) → slice_get later k ≡ Some y → y ≡ x)
    → (k : ℕ) (y : X) → slice_get (for_kinds x kinds later) k ≡ Some y → y ≡ x
same_for_kinds x [] later same k y at = same k y at
same_for_kinds x (kind ∷ kinds) later same zero y at = cc
same_for_kinds x (kind ∷ kinds) later same (suc k) y at = same_for_kinds x kinds later same k y at

same_for_steps : {X : Type 0} (x : X) (changes : List ResourceChange) (k : ℕ) (y : X) → slice_get (for_steps x changes) k ≡ Some y → y ≡ x
same_for_steps x [] k y at = absurd cc
same_for_steps x (change ∷ changes) k y at = same_for_kinds x change.steps (for_steps x changes) (same_for_steps x changes) k y at

-- ---- no step began, and each is answered

-- no step is recorded
abbrev unrecorded : List ResourceChange → List (Option RecordedStep)
unrecorded changes = for_steps None changes

-- each step takes a second
abbrev answered : List ResourceChange → List StepState
answered changes = for_steps Answered changes

module _ (planned : List Wait) (waits : List (List ℕ)) where
  own_steps : (place : ℕ) (kinds : List StepKind) (recorded : List (Option RecordedStep)) (states : List StepState)
      → first_steps kinds (script_steps planned waits place (for_kinds None kinds recorded) (for_kinds Answered kinds states)) ≡ even_steps planned waits place kinds
  own_steps place [] recorded states = refl
  own_steps place (kind ∷ kinds) recorded states =
      ap (λ (later : List ScriptStep). even_step (steps_at planned (waits_at waits place)) ∷ later) (own_steps (place + 1) kinds recorded states)

  later_steps : (place : ℕ) (kinds : List StepKind) (recorded : List (Option RecordedStep)) (states : List StepState)
      → other_steps kinds (script_steps planned waits place (for_kinds None kinds recorded) (for_kinds Answered kinds states))
      ≡ script_steps planned waits (place + length kinds) recorded states
  later_steps place [] recorded states =
      let here : place ≡ place + 0 = omega arith in ap (λ (p : ℕ). script_steps planned waits p recorded states) here
  later_steps place (kind ∷ kinds) recorded states =
      let here : place + 1 + length kinds ≡ place + length (kind ∷ kinds) = omega arith in
      later_steps (place + 1) kinds recorded states ∙ ap (λ (p : ℕ). script_steps planned waits p recorded states) here

  is_even : (place : ℕ) (changes : List ResourceChange) → by_change changes (script_steps planned waits place (unrecorded changes) (answered changes)) ≡ even_changes planned waits place changes
  is_even place [] = refl
  is_even place (change ∷ changes) =
      ap₂ (λ (own : List ScriptStep) (later : OutcomeMap). Some own ∷ later) (own_steps place change.steps (unrecorded changes) (answered changes))
      (ap (by_change changes) (later_steps place change.steps (unrecorded changes) (answered changes)) ∙ is_even (place + length change.steps) changes)

module _ (changes : List ResourceChange) (waits : List (List ℕ)) where
  allowed : AreAllowed (planned_steps changes) (unrecorded changes)
  allowed place step found stands at = let never : Some found ≡ None = same_for_steps None changes place (Some found) at in absurd cc

  writable : AllByRecursion IsWritableRecording (unrecorded changes)
  writable = all_pointwise IsWritableRecording (unrecorded changes)
      (λ k found at. subst IsWritableRecording (sym (same_for_steps None changes k found at)) tt)

  each_stated : AreFirstStated changes (items_of changes (unrecorded changes) (answered changes) waits)
  each_stated c change at some none =
      let item = item_in (even.planned_steps changes) waits 0 (unrecorded changes) (answered changes) (base changes c) None none in
      let now = same_for_steps Answered changes (base changes c) item.state item.state_at in
      let never : None ≡ Some (even_step (waits_for changes waits (0 + base changes c))) =
      item.is ∙ ap (λ (s : StepState). script_step s item.found (waits_for changes waits (0 + base changes c))) now in
      absurd cc

  pub even_script_is_writable : AllByRecursion IsWritableChange changes → NamesEachObjectOnce changes → sum_by length waits ≤ max_waits → IsRankedGraph (planned_steps changes) waits
      → IsWritable changes (even_script changes waits)
  even_script_is_writable each once few ranks =
      subst (IsWritable changes) (is_even (even.planned_steps changes) waits 0 changes)
      (steps_are_writable changes each once (unrecorded changes) (answered changes) allowed writable waits few ranks each_stated)
