-- The outcomes of the steps of a stream that was not cut off.
use Rattle.std.specs.Prelude.{◌≡◌, ℕ, List, length, slice_get, Bool, Option, Some, None, option_map}
use Rattle.apply_model.specs.declared.details.note.Note.{Note}
use Rattle.apply_model.specs.Plan.ResourceChange.{ResourceChange}
use Rattle.stream_record_outcomes.specs.declared.recorded_step.RecordedStep.{RecordedStep}
use Rattle.stream_record_outcomes.specs.Assignment.{assignment_of, loose_notes, note_of_step}
use Rattle.stream_record_outcomes.specs.Recording.{recorded_step}
use Rattle.stream_record_steps.specs.Begun.{Begun, begun_at}
use Rattle.stream_record_steps.specs.Steps.{PlannedStep, planned_steps}

-- What is recorded of the steps of a plan with these changes, and the diagnostics of no step. Each
-- step that began has its own diagnostic, if there is one; nothing is recorded of the others.
pub record AreRecorded (changes : List ResourceChange) (begun : Begun) (notes : List Note) (is_default_form : Bool)
    (recorded : List (Option RecordedStep)) (loose : List Note) : Type 0 where
  pub planned : begun.planned ≡ planned_steps changes
  pub as_many : length recorded ≡ length (planned_steps changes)
  pub each : (place : ℕ) (step : PlannedStep) → slice_get (planned_steps changes) place ≡ Some step
      → slice_get recorded place
      ≡ Some (option_map (recorded_step None step (note_of_step notes (assignment_of is_default_form begun notes) place)) (begun_at begun.by_step place))
  pub others : loose ≡ loose_notes notes (assignment_of is_default_form begun notes)
