-- The script of the steps that a stream began.
use Rattle.std.specs.Prelude.{◌≡◌, ◌<◌, ◌≤◌, ◌⊎◌, ℕ, suc, List, length, slice_get, true, false, Option, Some}
use Rattle.std.specs.List.{Contains}
use Rattle.apply_model.specs.declared.plan.step_kind.StepKind.{StepKind}
use Rattle.apply_model.specs.declared.script.wait.Wait.{Wait}
use Rattle.apply_model.specs.Plan.SavedPlan.{SavedPlan}
use Rattle.apply_model.specs.Script.OutcomeMap.{OutcomeMap, outcome_of}
use Rattle.apply_model.specs.Script.Waits.{waits_of}
use Rattle.apply_events.specs.Step.{kinds_applied, kinds_of}
use Rattle.stream_record.specs.EvenScript as even
use Rattle.stream_record.specs.EvenScript.{steps_at}
use Rattle.stream_record_outcomes.specs.declared.recorded_step.RecordedStep.{RecordedStep}
use Rattle.stream_record_steps.specs.Begun.{Begun}
use Rattle.stream_record_steps.specs.Steps.{planned_steps}
use Rattle.stream_record_waits.specs.declared.step_of_plan.StepOfPlan.{StepOfPlan}
use Rattle.stream_record_waits.specs.Graph.{AreWaitsOf, waits_at}
use Rattle.stream_record_waits.specs.States.{holds_up, states_of}
use Rattle.stream_record_waits.specs.Steps.{has_begun}
use Rattle.stream_record_script.specs.Runs.{recorded_at, steps_of_plan}
use Rattle.stream_record_script.specs.Steps.{script_of}
use Rattle.laws_waits.specs.Places.{place_of}

-- The script that `record` makes of the steps that began, their outcomes and these waits.
abbrev pub recorded_script : SavedPlan → Begun → List (Option RecordedStep) → (after : List (List ℕ)) → OutcomeMap
recorded_script plan begun recorded after = script_of plan.changes recorded (states_of (steps_of_plan begun recorded) after) after

-- The steps that the step at a place waits for.
abbrev pub waits_named : SavedPlan → (after : List (List ℕ)) → (place : ℕ) → List Wait
waits_named plan after place = steps_at (even.planned_steps plan.changes) (waits_at after place)

-- What began is of the plan, and so are the outcomes and the waits. A change has at most two steps,
-- and the second began only where the first did.
pub record AreOfPlan (plan : SavedPlan) (begun : Begun) (recorded : List (Option RecordedStep)) (after : List (List ℕ)) : Type 0 where
  pub few : (c : ℕ) → length (kinds_of plan c) ≤ 2
  pub planned : begun.planned ≡ planned_steps plan.changes
  pub each : length recorded ≡ length begun.planned
  pub waits : AreWaitsOf (length (steps_of_plan begun recorded)) after
  pub in_order : (c k : ℕ) → suc k < length (kinds_of plan c)
      → has_begun (steps_of_plan begun recorded) (place_of plan.changes c (suc k)) ≡ true
      → has_begun (steps_of_plan begun recorded) (place_of plan.changes c k) ≡ true

-- Step k of change c is applied, with this recorded outcome and these waits.
pub record IsAppliedAs (plan : SavedPlan) (script : OutcomeMap) (found : RecordedStep) (after : List Wait) (c k : ℕ) : Type 0 where
  pub applied : k < length (kinds_applied plan script c)
  pub outcome : outcome_of script c k ≡ record found.outcome { after = after }

-- Step k of change c waits for a step that failed or did not begin.
pub record IsHeldUp (plan : SavedPlan) (steps : List StepOfPlan) (script : OutcomeMap) (c k : ℕ) : Type 0 where
  pub name : Wait
  pub waits : Contains (waits_of script c k) name
  pub place : ℕ
  pub stands : slice_get (even.planned_steps plan.changes) place ≡ Some name
  pub holds : holds_up steps place ≡ true

-- The script has the steps that began. Each other step is not applied, or is held up.
pub record HasStepsThatBegan (plan : SavedPlan) (begun : Begun) (recorded : List (Option RecordedStep)) (after : List (List ℕ)) (script : OutcomeMap) : Type 0 where
  pub began : (c k : ℕ) (kind : StepKind) (found : RecordedStep) → slice_get (kinds_of plan c) k ≡ Some kind
      → has_begun (steps_of_plan begun recorded) (place_of plan.changes c k) ≡ true
      → recorded_at recorded (place_of plan.changes c k) ≡ Some found
      → IsAppliedAs plan script found (waits_named plan after (place_of plan.changes c k)) c k
  pub others : (c k : ℕ) (kind : StepKind) → slice_get (kinds_of plan c) k ≡ Some kind
      → has_begun (steps_of_plan begun recorded) (place_of plan.changes c k) ≡ false
      → (length (kinds_applied plan script c) ≤ k) ⊎ IsHeldUp plan (steps_of_plan begun recorded) script c k
