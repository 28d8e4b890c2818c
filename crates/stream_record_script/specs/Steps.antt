-- The steps of a recorded script.
use Rattle.std.specs.Prelude.{ℕ, ◌+◌, List, [], ◌∷◌, ◌++◌, Option, Some, None, option_map, option_to_list}
use Rattle.apply_model.specs.declared.plan.step_kind.StepKind.{StepKind}
use Rattle.apply_model.specs.declared.script.script_step.ScriptStep.{ScriptStep}
use Rattle.apply_model.specs.declared.script.script_step.ScriptStep.TheVariants.{Answered, Skipped}
use Rattle.apply_model.specs.declared.script.wait.Wait.{Wait}
use Rattle.apply_model.specs.Plan.ResourceChange.{ResourceChange}
use Rattle.apply_model.specs.Script.OutcomeMap.{OutcomeMap}
use Rattle.stream_record.specs.EvenScript.{even_step, planned_steps, steps_at, waits_at}
use Rattle.stream_record_outcomes.specs.declared.recorded_step.RecordedStep.{RecordedStep}
use Rattle.stream_record_waits.specs.declared.step_state.StepState.{StepState}
use Rattle.stream_record_waits.specs.declared.step_state.StepState.TheVariants as state

-- A step that waits for these steps. One that did not begin, though a wait explains it, takes a
-- second. None is written of a step after a skipped one.
abbrev pub script_step : StepState → Option RecordedStep → (after : List Wait) → Option ScriptStep
script_step state.Began found after = option_map (λ step. Answered (record step.outcome { after = after })) found
script_step state.Answered found after = Some (even_step after)
script_step state.Skipped found after = Some (Skipped after)
script_step state.Absent found after = None

-- The first steps, an item for each of their outcomes and states. The first of them has the number
-- `place` in the plan.
abbrev pub script_steps : (planned : List Wait) → (waits : List (List ℕ)) → (place : ℕ) → List (Option RecordedStep) → List StepState → List (Option ScriptStep)
script_steps planned waits place [] states = []
script_steps planned waits place (found ∷ recorded) [] = []
script_steps planned waits place (found ∷ recorded) (state ∷ states) =
    script_step state found (steps_at planned (waits_at waits place)) ∷ script_steps planned waits (place + 1) recorded states

-- The steps of a change with so many kinds: the first of these.
abbrev pub first_steps : List StepKind → List (Option ScriptStep) → List ScriptStep
first_steps [] steps = []
first_steps (kind ∷ kinds) [] = []
first_steps (kind ∷ kinds) (step ∷ steps) = option_to_list step ++ first_steps kinds steps

-- What is left of these without the steps of the change.
abbrev pub other_steps : List StepKind → List (Option ScriptStep) → List (Option ScriptStep)
other_steps [] steps = steps
other_steps (kind ∷ kinds) [] = []
other_steps (kind ∷ kinds) (step ∷ steps) = other_steps kinds steps

-- The steps change by change.
abbrev pub by_change : List ResourceChange → List (Option ScriptStep) → OutcomeMap
by_change [] steps = []
by_change (change ∷ changes) steps = Some (first_steps change.steps steps) ∷ by_change changes (other_steps change.steps steps)

-- The steps of the script of a plan with these changes.
abbrev pub script_of : List ResourceChange → List (Option RecordedStep) → List StepState → (waits : List (List ℕ)) → OutcomeMap
script_of changes recorded states waits = by_change changes (script_steps (planned_steps changes) waits 0 recorded states)
