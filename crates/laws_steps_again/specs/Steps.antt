-- What is recorded of the steps of a run.
use Rattle.std.specs.Prelude.{◌≡◌, ◌<◌, ℕ, List, [], length, slice_get, Bool, true, false, if◌then◌else◌, Option, Some, None}
use Rattle.apply_model.specs.declared.details.note.Note.{Note}
use Rattle.apply_model.specs.declared.plan.step_kind.StepKind.{StepKind}
use Rattle.apply_model.specs.Plan.ResourceChange.{ResourceChange}
use Rattle.apply_model.specs.Script.Outcome.{fails, took}
use Rattle.apply_model.specs.declared.script.wait.Wait.{Wait}
use Rattle.apply_model.specs.Script.OutcomeMap.{OutcomeMap, outcome_of}
use Rattle.apply_events.specs.Step.{Work, kinds_of}
use Rattle.apply_events.specs.Waits.Schedule.{schedule}
use Rattle.stream_record_outcomes.specs.declared.fate.Fate.{Fate}
use Rattle.stream_record_outcomes.specs.declared.fate.Fate.TheVariants.{Done, Failed}
use Rattle.stream_record_outcomes.specs.declared.recorded_step.RecordedStep.{RecordedStep}
use Rattle.stream_record_script.specs.Runs.{recorded_at, run_of, steps_of_plan}
use Rattle.stream_record_steps.specs.declared.begun_step.BegunStep.{BegunStep}
use Rattle.stream_record_steps.specs.Begun.{Begun, begun_at}
use Rattle.stream_record_waits.specs.Steps.{has_begun, has_failed, step_at}
use Rattle.laws_lanes.specs.Alike.{IsAnsweredAlike, is_begun}
use Rattle.laws_outcomes.specs.Told.{IsToldAgain, result_of}
use Rattle.laws_waits.specs.Again.{AreStepsOf}
use Rattle.laws_waits.specs.Places.{place_of}
use Rattle.laws_steps_again.specs.Places.{step_of_plan}

-- Whether a step was done, by whether it failed.
abbrev pub fate_as : (failed : Bool) → Fate
fate_as failed = if failed then Failed else Done

-- What is recorded of step k of change c, which began. Its end reported this id.
pub record IsRecorded (work : Work) (begun : Begun) (recorded : List (Option RecordedStep)) (c k : ℕ) (kind : StepKind) (id : Option (List ℕ)) : Type 0 where
  pub change : ResourceChange
  pub change_at : slice_get work.plan.changes c ≡ Some change
  pub kind_at : slice_get change.steps k ≡ Some kind
  -- by its lines
  pub known : BegunStep
  pub known_at : begun_at begun.by_step (place_of work.plan.changes c k) ≡ Some known
  pub end_line : ℕ
  pub end_is : known.end ≡ Some (record {
    line = end_line;
    seconds = took kind (outcome_of work.script c k);
    result = result_of (fails (outcome_of work.script c k)) id;
  })
  -- its outcome
  pub found : RecordedStep
  pub found_at : recorded_at recorded (place_of work.plan.changes c k) ≡ Some found
  pub no_waits : found.outcome.after ≡ []
  pub fate_is : found.fate ≡ fate_as (fails (outcome_of work.script c k))
  pub note : Option Note
  pub again : IsToldAgain (step_of_plan work.plan.changes change c k kind) (outcome_of work.script c k) id note found.outcome
  -- how it ran
  pub run_at : (step_at (steps_of_plan begun recorded) (place_of work.plan.changes c k)).run
      ≡ Some (run_of (step_of_plan work.plan.changes change c k kind) found known)

-- Of the steps of a run, just those are recorded that began, each with an outcome that goes alike.
-- A step that is recorded as failed fails.
pub record AreStepsAgain (work : Work) (n : ℕ) (begun : Begun) (recorded : List (Option RecordedStep)) (id : (c k : ℕ) → Option (List ℕ)) : Type 0 where
  pub steps : AreStepsOf work begun recorded
  pub begins : (c k : ℕ) → k < length (kinds_of work.plan c)
      → has_begun (steps_of_plan begun recorded) (place_of work.plan.changes c k) ≡ is_begun work (schedule work n) c k
  pub began : (c k : ℕ) (kind : StepKind) → slice_get (kinds_of work.plan c) k ≡ Some kind → is_begun work (schedule work n) c k ≡ true
      → IsRecorded work begun recorded c k kind (id c k)
  pub no_other : (c k : ℕ) → k < length (kinds_of work.plan c) → is_begun work (schedule work n) c k ≡ false
      → (begun_at begun.by_step (place_of work.plan.changes c k) ≡ None) × (recorded_at recorded (place_of work.plan.changes c k) ≡ None)
  pub fail : (c k : ℕ) → k < length (kinds_of work.plan c)
      → has_failed (step_at (steps_of_plan begun recorded) (place_of work.plan.changes c k)) ≡ true → fails (outcome_of work.script c k) ≡ true
  pub alike : (c k : ℕ) (kind : StepKind) (found : RecordedStep) → slice_get (kinds_of work.plan c) k ≡ Some kind
      → recorded_at recorded (place_of work.plan.changes c k) ≡ Some found → IsAnsweredAlike kind (outcome_of work.script c k) found.outcome

-- The script states the recorded outcome of each step that began, with some waits.
abbrev pub StatesRecorded : Work → Begun → List (Option RecordedStep) → OutcomeMap → Type 0
StatesRecorded work begun recorded other = (c k : ℕ) (kind : StepKind) (found : RecordedStep) → slice_get (kinds_of work.plan c) k ≡ Some kind
    → has_begun (steps_of_plan begun recorded) (place_of work.plan.changes c k) ≡ true
    → recorded_at recorded (place_of work.plan.changes c k) ≡ Some found
    → (after : List Wait) × (outcome_of other c k ≡ record found.outcome { after = after })
