-- A run in Terraform's form reads the outputs and diagnostics of the script of a stream.
use Rattle.std.proofs.Common.{◌≡◌, ℕ, List, Bool, Option, None, Some, Ok, subst}
use Rattle.std.specs.Prelude.{IfSome}
use Rattle.std.specs.List.{AllByRecursion}
use Rattle.serde_json.specs.Data.{no_members}
use Rattle.apply_model.specs.Plan.ResourceChange.{ResourceChange}
use Rattle.apply_model.specs.Plan.SavedPlan.{SavedPlan}
use Rattle.apply_plan_terraform.specs.Extras.{extras_of_bytes, with_notes}
use Rattle.apply_plan_terraform.specs.Outputs.{OutputsOfPlan}
use Rattle.stream_lines.specs.Cut.{cut_lines}
use Rattle.stream_runs.specs.declared.choice.RunChoice.{RunChoice}
use Rattle.stream_record_steps.specs.Steps.{planned_steps}
use Rattle.stream_record_stream.specs.Reading.{read_of}
use Rattle.stream_record_stream.specs.Streams.{StreamRead}
use Rattle.stream_record_script.specs.Outputs.{script_outputs}
use Rattle.stream_record_script.specs.Recordings.{PlanRead, choices_of, circumstances_of, notes_in}
use Rattle.stream_record_cli.specs.Graphs.{AreWaitsIn}
use Rattle.stream_record_cli.specs.Recorded.{IsScriptOfBytes}
use Rattle.stream_record_cli.specs.StreamsRead.{IsRead}
use Rattle.stream_record_cli.specs.declared.command.recording.StreamChoice.{StreamChoice}
use Rattle.laws_record.specs.Extras.{outputs_by_name}
use Rattle.laws_record.specs.Writable.{IsWritable, IsWritableChange, NamesEachObjectOnce}
use Rattle.laws_recorded.specs.Graphs.{IsRankedGraph}
use Rattle.laws_recorded.specs.Scripts.{script_behind}
use Rattle.laws_recorded.proofs.AcceptedScripts.{ReadsExtras}
use Rattle.laws_recorded.proofs.GraphRanks.{graph_ranked}
use Rattle.laws_recorded.proofs.Scripts.{notes_of_script, outcomes_of_script, outputs_of_plan_of_script, outputs_of_script}
use Rattle.laws_recorded.proofs.StreamOrder.{stream_in_order}
use Rattle.laws_recorded.proofs.WholeScript.{may_be_written}

-- The lines that the stream was read of.
record HasLines (plan : SavedPlan) (find : Bool) (stream : StreamRead) : Type 0 where
  before : ℕ
  lines : List (List ℕ)
  read : read_of plan find before lines ≡ Ok stream

lines_of : (plan : SavedPlan) (find : Bool) (run : Option RunChoice) (bytes : List ℕ) (stream : StreamRead) → IsRead plan find run bytes stream → HasLines plan find stream
lines_of plan find None bytes stream is = record { before = 0; lines = cut_lines bytes; read = is }
lines_of plan find (Some choice) bytes stream is = record { before = is.0.lines_before; lines = cut_lines is.0.bytes.items; read = is.2 }

graph_is : (changes : List ResourceChange) (graph : Option (List ℕ)) (waits : Option (List (List ℕ))) → AreWaitsIn changes graph waits
    → IfSome waits (IsRankedGraph (planned_steps changes))
graph_is changes None None are = tt
graph_is changes None (Some waits) are = absurd are
graph_is changes (Some bytes) None are = tt
graph_is changes (Some bytes) (Some waits) are = graph_ranked changes are.graph waits are.are are.ranked

module _ (plan : List ℕ) (graph : Option (List ℕ)) (choice : StreamChoice) (stream text warnings : List ℕ)
    (is : IsScriptOfBytes plan graph choice stream text warnings)
    (each : AllByRecursion IsWritableChange is.saved.changes) (once : NamesEachObjectOnce is.saved.changes) where
  abbrev known : PlanRead
  known = record { plan = is.saved; note = is.is.note; outputs = is.is.outputs }

  abbrev has : HasLines is.saved choice.find is.is.read
  has = lines_of is.saved choice.find choice.run stream is.is.read is.is.parts.was_read

  writable : IsWritable is.saved.changes (script_behind is)
  writable =
      let order = stream_in_order is.saved choice.find has.before has.lines is.is.read has.read in
      may_be_written (circumstances_of is.is.note is.is.read) is.is.read.begun is.is.read.notes is.saved.changes each once order.0 order.1
      (outcomes_of_script is.saved choice.find has.before has.lines is.is.read has.read known)
      (choices_of known choice.wishes is.is.read) is.is.is.after is.is.is.early is.is.is.sound is.is.is.few
      is.waits (graph_is is.saved.changes graph is.waits is.stated) is.is.is.waits

  pub extras_read_back : ReadsExtras → extras_of_bytes is.is.parts.details.details.outputs text
      ≡ Ok (with_notes (outputs_by_name (script_outputs is.is.outputs is.is.read.outputs) no_members) (notes_in known is.is.read))
  extras_read_back reads_extras =
      subst (λ (of_plan : OutputsOfPlan). extras_of_bytes of_plan text ≡ Ok (with_notes (outputs_by_name (script_outputs is.is.outputs is.is.read.outputs) no_members) (notes_in known is.is.read)))
      is.is.parts.details.outputs_are
      (reads_extras is.saved.changes is.is.outputs (script_behind is) (script_outputs is.is.outputs is.is.read.outputs) (notes_in known is.is.read) text writable
      (outputs_of_script is.saved choice.find has.before has.lines is.is.read has.read known)
      (notes_of_script is.saved choice.find has.before has.lines is.is.read has.read known)
      (outputs_of_plan_of_script is.saved choice.find has.before has.lines is.is.read has.read known) is.is.is.text)
