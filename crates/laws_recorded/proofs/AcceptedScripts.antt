-- A run accepts the script of a stream.
use Rattle.std.proofs.Common.{◌≡◌, ℕ, List, Bool, Option, None, Some, Ok, subst}
use Rattle.std.specs.Prelude.{IfSome}
use Rattle.std.specs.List.{AllByRecursion}
use Rattle.serde_json.specs.Data.{no_members}
use Rattle.apply_model.specs.declared.details.note.Note.{Note}
use Rattle.apply_model.specs.Plan.ResourceChange.{ResourceChange}
use Rattle.apply_model.specs.Plan.SavedPlan.{SavedPlan}
use Rattle.apply_model.specs.Script.OutcomeMap.{OutcomeMap}
use Rattle.apply_plan.specs.Script.OutcomeMap.{script_of}
use Rattle.apply_plan_terraform.specs.Extras.{extras_of_bytes, with_notes}
use Rattle.apply_plan_terraform.specs.Outputs.{OutputsOfPlan}
use Rattle.stream_lines.specs.Cut.{cut_lines}
use Rattle.stream_runs.specs.declared.choice.RunChoice.{RunChoice}
use Rattle.stream_record.specs.declared.output.Output.{Output}
use Rattle.stream_record.specs.ScriptText.{script_within}
use Rattle.stream_record_steps.specs.Steps.{planned_steps}
use Rattle.stream_record_stream.specs.Reading.{read_of}
use Rattle.stream_record_stream.specs.Streams.{StreamRead}
use Rattle.stream_record_script.specs.Outputs.{script_outputs}
use Rattle.stream_record_script.specs.Recordings.{PlanRead, choices_of, circumstances_of, notes_in}
use Rattle.stream_record_cli.specs.Graphs.{AreWaitsIn}
use Rattle.stream_record_cli.specs.Recorded.{IsRecording, IsScriptOfBytes}
use Rattle.stream_record_cli.specs.StreamsRead.{IsRead}
use Rattle.stream_record_cli.specs.declared.command.recording.StreamChoice.{StreamChoice}
use Rattle.laws_record.specs.Extras.{IsOfPlan, outputs_by_name}
use Rattle.laws_record.specs.Writable.{IsWritable, IsWritableChange, IsWritableNote, IsWritableOutput, NamesEachObjectOnce, written}
use Rattle.laws_recorded.specs.Accepted.{IsAccepted}
use Rattle.laws_recorded.specs.Graphs.{IsRankedGraph}
use Rattle.laws_recorded.specs.Scripts.{recorded_script, script_behind}
use Rattle.laws_recorded.proofs.GraphRanks.{graph_ranked}
use Rattle.laws_recorded.proofs.Scripts.{notes_of_script, outcomes_of_script, outputs_of_plan_of_script, outputs_of_script}
use Rattle.laws_recorded.proofs.StreamOrder.{stream_in_order}
use Rattle.laws_recorded.proofs.WholeScript.{may_be_written}

-- ---- what was read

-- The lines that the stream was read of.
record HasLines (plan : SavedPlan) (find : Bool) (stream : StreamRead) : Type 0 where
  before : ℕ
  lines : List (List ℕ)
  read : read_of plan find before lines ≡ Ok stream

lines_of : (plan : SavedPlan) (find : Bool) (run : Option RunChoice) (bytes : List ℕ) (stream : StreamRead) → IsRead plan find run bytes stream → HasLines plan find stream
lines_of plan find None bytes stream is = record { before = 0; lines = cut_lines bytes; read = is }
lines_of plan find (Some choice) bytes stream is = record { before = is.0.lines_before; lines = cut_lines is.0.bytes.items; read = is.2 }

graph_is : (changes : List ResourceChange) (graph : Option (List ℕ)) (waits : Option (List (List ℕ))) → AreWaitsIn changes graph waits
    → IfSome waits (IsRankedGraph (planned_steps changes))
graph_is changes None None are = tt
graph_is changes None (Some waits) are = absurd are
graph_is changes (Some bytes) None are = tt
graph_is changes (Some bytes) (Some waits) are = graph_ranked changes are.graph waits are.are are.ranked

-- ---- the laws of written scripts

-- A run reads the steps of each script that may be written.
abbrev pub ReadsSteps : Type 0
ReadsSteps = (plan : SavedPlan) (script : OutcomeMap) (outputs : List Output) (notes : List Note) (text : List ℕ)
    → IsWritable plan.changes script → AllByRecursion IsWritableOutput outputs → AllByRecursion IsWritableNote notes
    → script_within plan.changes script outputs notes ≡ Ok text → script_of plan text ≡ Ok (written plan.changes script)

-- Terraform's form reads the rest.
abbrev pub ReadsExtras : Type 0
ReadsExtras = (changes : List ResourceChange) (plan : OutputsOfPlan) (script : OutcomeMap) (outputs : List Output) (notes : List Note) (text : List ℕ)
    → IsWritable changes script → AllByRecursion IsWritableOutput outputs → AllByRecursion IsWritableNote notes
    → AllByRecursion (IsOfPlan plan) outputs → script_within changes script outputs notes ≡ Ok text
    → extras_of_bytes plan text ≡ Ok (with_notes (outputs_by_name outputs no_members) notes)

module _ (plan : List ℕ) (graph : Option (List ℕ)) (choice : StreamChoice) (stream text warnings : List ℕ)
    (of_bytes : IsScriptOfBytes plan graph choice stream text warnings)
    (each : AllByRecursion IsWritableChange of_bytes.saved.changes) (once : NamesEachObjectOnce of_bytes.saved.changes) where
  abbrev recording : IsRecording plan of_bytes.saved of_bytes.waits choice stream text warnings
  recording = of_bytes.is

  abbrev known : PlanRead
  known = record { plan = of_bytes.saved; note = recording.note; outputs = recording.outputs }

  abbrev has : HasLines of_bytes.saved choice.find recording.read
  has = lines_of of_bytes.saved choice.find choice.run stream recording.read recording.parts.was_read

  abbrev script : OutcomeMap
  script = recorded_script known recording.read recording.is.after

  writable : IsWritable of_bytes.saved.changes script
  writable =
      let order = stream_in_order of_bytes.saved choice.find has.before has.lines recording.read has.read in
      may_be_written (circumstances_of recording.note recording.read) recording.read.begun recording.read.notes of_bytes.saved.changes each once order.0 order.1
      (outcomes_of_script of_bytes.saved choice.find has.before has.lines recording.read has.read known)
      (choices_of known choice.wishes recording.read) recording.is.after recording.is.early recording.is.sound recording.is.few
      of_bytes.waits (graph_is of_bytes.saved.changes graph of_bytes.waits of_bytes.stated) recording.is.waits

  abbrev outputs : List Output
  outputs = script_outputs recording.outputs recording.read.outputs

  abbrev notes : List Note
  notes = notes_in known recording.read

  outputs_are : AllByRecursion IsWritableOutput outputs
  outputs_are = outputs_of_script of_bytes.saved choice.find has.before has.lines recording.read has.read known

  notes_are : AllByRecursion IsWritableNote notes
  notes_are = notes_of_script of_bytes.saved choice.find has.before has.lines recording.read has.read known

  pub is_read_back : ReadsSteps → script_of of_bytes.saved text ≡ Ok (written of_bytes.saved.changes (script_behind of_bytes))
  is_read_back reads_steps = reads_steps of_bytes.saved script outputs notes text writable outputs_are notes_are recording.is.text

  pub is_accepted : ReadsSteps → ReadsExtras → IsAccepted plan text
  is_accepted reads_steps reads_extras = record {
    saved = of_bytes.saved;
    plan_read = of_bytes.read;
    steps = written of_bytes.saved.changes script;
    steps_read = is_read_back reads_steps;
    details = recording.parts.details.details;
    details_read = recording.parts.details.read;
    extras = with_notes (outputs_by_name outputs no_members) notes;
    extras_read =
        subst (λ (of_plan : OutputsOfPlan). extras_of_bytes of_plan text ≡ Ok (with_notes (outputs_by_name outputs no_members) notes)) recording.parts.details.outputs_are
        (reads_extras of_bytes.saved.changes recording.outputs script outputs notes text writable outputs_are notes_are
        (outputs_of_plan_of_script of_bytes.saved choice.find has.before has.lines recording.read has.read known) recording.is.text);
  }
