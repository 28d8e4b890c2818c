-- The script of a stream, and the warnings of what it does not say.
use Rattle.std.specs.Prelude.{◌≡◌, ◌≤◌, ⊤, ℕ, ◌++◌, List, Bool, true, false, not, ◌&&◌, is_none, Option, Result, Err}
use Rattle.std.specs.Option.{option_map_or}
use Rattle.apply_model.specs.declared.details.note.Note.{Note}
use Rattle.apply_model.specs.Plan.SavedPlan.{SavedPlan}
use Rattle.apply_plan_terraform.specs.declared.plan_notes.PlanNote.{PlanNote}
use Rattle.apply_plan_terraform.specs.declared.plan_notes.PlanNote.TheVariants.{Partial, Unfinished}
use Rattle.apply_plan_terraform.specs.Outputs.{OutputsOfPlan}
use Rattle.stream_record.specs.ScriptText.{script_within}
use Rattle.stream_record.specs.declared.script_fault.ScriptFault.{ScriptFault}
use Rattle.stream_record.specs.declared.script_fault.ScriptFault.TheVariants as script
use Rattle.stream_record_outcomes.specs.declared.circumstances.Circumstances.{Circumstances}
use Rattle.stream_record_outcomes.specs.declared.recorded_step.RecordedStep.{RecordedStep}
use Rattle.stream_record_outcomes.specs.Recording.{notes_of_no_step, recorded_steps}
use Rattle.stream_record_stream.specs.Streams.{StreamRead, cut_off_at, has_error}
use Rattle.stream_record_waits.specs.declared.choices.Choices.{Choices}
use Rattle.stream_record_waits.specs.Graph.{count_of}
use Rattle.stream_record_waits.specs.Recorded.{AreRecordedWaits, AreSoundWaits, HasTooMany, max_waits}
use Rattle.stream_record_waits.specs.States.{states_of}
use Rattle.stream_record_warnings.specs.StepWarnings.{step_warnings}
use Rattle.stream_record_warnings.specs.StreamWarnings.{stream_warnings}
use Rattle.stream_record_script.specs.declared.recording.Wishes.{Wishes}
use Rattle.stream_record_script.specs.declared.recording_fault.RecordingFault.{RecordingFault}
use Rattle.stream_record_script.specs.declared.recording_fault.RecordingFault.TheVariants as fault
use Rattle.stream_record_script.specs.Outputs.{output_warnings, script_outputs}
use Rattle.stream_record_script.specs.Runs.{steps_of_plan}
use Rattle.stream_record_script.specs.Steps.{script_of}

-- ---- what else is known

abbrev pub is_partial_note : PlanNote → Bool
is_partial_note Partial = true
is_partial_note Unfinished = false

abbrev pub is_unfinished_note : PlanNote → Bool
is_unfinished_note Partial = false
is_unfinished_note Unfinished = true

-- What is known of the apply besides its steps and diagnostics.
abbrev pub circumstances_of : Option PlanNote → StreamRead → Circumstances
circumstances_of note stream = record {
  is_default_form = stream.is_default_form;
  is_partial = option_map_or is_partial_note note false;
  is_errored = option_map_or is_unfinished_note note false;
  cut_off_at = cut_off_at stream;
}

-- The plan with what only Terraform's form needs of it: its note and its outputs.
pub record PlanRead : Type 0 where
  pub plan : SavedPlan
  pub note : Option PlanNote
  pub outputs : OutputsOfPlan

-- The outcomes of the steps, and the diagnostics of no step.
abbrev pub steps_in : PlanRead → StreamRead → List (Option RecordedStep)
steps_in read stream = recorded_steps (circumstances_of read.note stream) stream.begun stream.notes

abbrev pub notes_in : PlanRead → StreamRead → List Note
notes_in read stream = notes_of_no_step (circumstances_of read.note stream) stream.begun stream.notes

-- How waits are chosen. Without a graph one may be guessed where each error is of a step, and the
-- stream is not cut off.
abbrev pub choices_with : Wishes → (loose : List Note) → StreamRead → Choices
choices_with wishes loose stream = record {
  begins = wishes.begins;
  lanes = wishes.lanes;
  guesses = not (has_error loose) && is_none (cut_off_at stream);
}

abbrev pub choices_of : PlanRead → Wishes → StreamRead → Choices
choices_of read wishes stream = choices_with wishes (notes_in read stream) stream

-- ---- the recording

-- The text of the script with these waits.
abbrev pub text_with : PlanRead → StreamRead → (after : List (List ℕ)) → Result (List ℕ) ScriptFault
text_with read stream after =
    script_within read.plan.changes
    (script_of read.plan.changes (steps_in read stream) (states_of (steps_of_plan stream.begun (steps_in read stream)) after) after)
    (script_outputs read.outputs stream.outputs)
    (notes_in read stream)

-- The warnings, where these began too early for others.
abbrev pub warnings_with : PlanRead → Wishes → StreamRead → (early : List (List ℕ)) → List ℕ
warnings_with read wishes stream early =
    stream_warnings wishes.lanes stream ++ step_warnings stream.begun (steps_in read stream) early ++ output_warnings read.outputs stream.outputs

-- The text of the script or why there is none, and the warnings. `graph` has the waits of each step
-- by number, where there is a graph.
pub record IsRecorded (read : PlanRead) (graph : Option (List (List ℕ))) (wishes : Wishes) (stream : StreamRead)
    (made : Result (List ℕ) ScriptFault) (warnings : List ℕ) : Type 0 where
  pub after : List (List ℕ)
  pub early : List (List ℕ)
  pub waits : AreRecordedWaits (steps_of_plan stream.begun (steps_in read stream)) graph (choices_of read wishes stream) after early
  pub sound : AreSoundWaits (steps_of_plan stream.begun (steps_in read stream)) after
  pub few : count_of after early ≤ max_waits
  pub text : text_with read stream after ≡ made
  pub warned : warnings ≡ warnings_with read wishes stream early

-- Why there is no script. Refused memory is left open.
abbrev pub IsNotRecorded : PlanRead → (graph : Option (List (List ℕ))) → Wishes → StreamRead → RecordingFault → Type 0
IsNotRecorded read graph wishes stream fault.TooManyWaits =
    HasTooMany (steps_of_plan stream.begun (steps_in read stream)) graph (choices_of read wishes stream)
IsNotRecorded read graph wishes stream fault.TooLarge =
    (warnings : List ℕ) × IsRecorded read graph wishes stream (Err script.TooLarge) warnings
IsNotRecorded read graph wishes stream fault.Memory = ⊤
