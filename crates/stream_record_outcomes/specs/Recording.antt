-- The outcomes of the steps of a stream.
use Rattle.std.specs.Prelude.{◌≡◌, ℕ, ℤ, ◌+◌, List, [], ◌∷◌, slice_get, Option, Some, option_map}
use Rattle.apply_model.specs.declared.details.note.Note.{Note}
use Rattle.stream_record_steps.specs.declared.begun_step.BegunStep.{BegunStep}
use Rattle.stream_record_steps.specs.Begun.{Begun, begun_at}
use Rattle.stream_record_steps.specs.Steps.{PlannedStep}
use Rattle.stream_record_outcomes.specs.declared.circumstances.Circumstances.{Circumstances}
use Rattle.stream_record_outcomes.specs.declared.recorded_step.RecordedStep.{RecordedStep}
use Rattle.stream_record_outcomes.specs.Assignment.{Assignment, assignment_of, considered, loose_notes, note_of_step}
use Rattle.stream_record_outcomes.specs.Outcome.{IsAllowed, fate_of, outcome_of}
use Rattle.stream_record_outcomes.specs.Took.{took, whole}
use Rattle.stream_record_outcomes.specs.Warnings.{warnings_of}

-- A step that began, with its diagnostic.
abbrev pub recorded_step : (cut_off_at : Option ℤ) → PlannedStep → Option Note → BegunStep → RecordedStep
recorded_step cut_off_at step note begun = record {
  outcome = outcome_of step (whole cut_off_at begun) begun note;
  fate = fate_of step.kind begun note;
  warnings = warnings_of step (took cut_off_at begun) (whole cut_off_at begun) begun note;
}

-- The steps, where the first has this number; none of a step that did not begin.
abbrev pub recorded_from : (cut_off_at : Option ℤ) → Begun → List Note → Assignment → (place : ℕ) → List PlannedStep → List (Option RecordedStep)
recorded_from cut_off_at begun notes assignment place [] = []
recorded_from cut_off_at begun notes assignment place (step ∷ steps) =
    option_map (recorded_step cut_off_at step (note_of_step notes assignment place)) (begun_at begun.by_step place)
    ∷ recorded_from cut_off_at begun notes assignment (place + 1) steps

abbrev pub recorded_steps : Circumstances → Begun → List Note → List (Option RecordedStep)
recorded_steps circumstances begun notes =
    let known = considered circumstances notes in
    recorded_from circumstances.cut_off_at begun known (assignment_of circumstances.is_default_form begun known) 0 begun.planned

-- The diagnostics of no step.
abbrev pub notes_of_no_step : Circumstances → Begun → List Note → List Note
notes_of_no_step circumstances begun notes =
    let known = considered circumstances notes in
    loose_notes known (assignment_of circumstances.is_default_form begun known)

-- A run takes each outcome for its step.
abbrev pub AreAllowed : List PlannedStep → List (Option RecordedStep) → Type 0
AreAllowed steps recorded = (place : ℕ) (step : PlannedStep) (found : RecordedStep)
    → slice_get steps place ≡ Some step → slice_get recorded place ≡ Some (Some found) → IsAllowed step found.outcome
