-- A script may state the parts that a stream gives it.
use Rattle.std.proofs.Common.{◌≡◌, ℕ, List, Bool, Ok}
use Rattle.std.specs.List.{AllByRecursion}
use Rattle.apply_model.specs.Plan.SavedPlan.{SavedPlan}
use Rattle.stream_record_script.specs.Outputs.{script_outputs}
use Rattle.stream_record_script.specs.Recordings.{PlanRead, circumstances_of, notes_in, steps_in}
use Rattle.stream_record_stream.specs.Reading.{read_of}
use Rattle.stream_record_stream.specs.Streams.{StreamRead}
use Rattle.laws_recorded.specs.Texts.{IsWritableRecording}
use Rattle.laws_record.specs.Extras.{IsOfPlan}
use Rattle.laws_record.specs.Writable.{IsWritableNote, IsWritableOutput}
use Rattle.laws_recorded.proofs.Deeper.{note_of_no_step}
use Rattle.laws_recorded.proofs.EventTexts.{IsRecordedNote}
use Rattle.laws_recorded.proofs.Lists.{each_weaker}
use Rattle.laws_recorded.proofs.OutcomeTexts.{loose_sound}
use Rattle.laws_recorded.proofs.ScriptOutputs.{outputs_kept, outputs_of_plan}
use Rattle.laws_recorded.proofs.StreamTexts.{IsSoundStream, read_sound}
use Rattle.laws_recorded.proofs.WritableOutcomes.{steps_writable}

module _ (plan : SavedPlan) (find : Bool) (before : ℕ) (lines : List (List ℕ)) (stream : StreamRead) (is : read_of plan find before lines ≡ Ok stream) (read : PlanRead) where
  sound : IsSoundStream stream
  sound = read_sound plan find before lines stream is

  pub outcomes_of_script : AllByRecursion IsWritableRecording (steps_in read stream)
  outcomes_of_script = steps_writable (circumstances_of read.note stream) stream.begun stream.notes sound.begun sound.notes

  pub notes_of_script : AllByRecursion IsWritableNote (notes_in read stream)
  notes_of_script =
      each_weaker IsRecordedNote IsWritableNote (notes_in read stream) note_of_no_step (loose_sound (circumstances_of read.note stream) stream.begun stream.notes sound.notes)

  pub outputs_of_script : AllByRecursion IsWritableOutput (script_outputs read.outputs stream.outputs)
  outputs_of_script = outputs_kept read.outputs stream.outputs sound.outputs

  pub outputs_of_plan_of_script : AllByRecursion (IsOfPlan read.outputs) (script_outputs read.outputs stream.outputs)
  outputs_of_plan_of_script = outputs_of_plan read.outputs stream.outputs sound.outputs
