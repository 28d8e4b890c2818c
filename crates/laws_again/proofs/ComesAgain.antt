-- Streams by the bytes of what a run reads.
use Rattle.std.proofs.Common.{◌≡◌, ℕ, List, [], Option, Some, None, Bool, false, refl, subst}
use Rattle.std.specs.Io.KnownBytes.{Appends}
use Rattle.apply_model.specs.Plan.ResourceChange.{ResourceChange}
use Rattle.apply_model.specs.Plan.SavedPlan.{SavedPlan}
use Rattle.apply_model.specs.Script.OutcomeMap.{OutcomeMap}
use Rattle.apply_events.specs.declared.event.Event.{Event}
use Rattle.apply_run.specs.InForm.{WasAppliedInLanes}
use Rattle.apply_run.specs.Run.{SinkState}
use Rattle.apply_text.specs.declared.operation.Operation.{Operation}
use Rattle.apply_writer.specs.declared.report.Report.{Report}
use Rattle.apply_writer.specs.Stream.Form.{plain_form, stream_in}
use Rattle.stream_record_cli.specs.Graphs.{AreGraphWaits, AreWaitsIn}
use Rattle.stream_record_cli.specs.StreamsRead as reads
use Rattle.stream_record_cli.specs.declared.command.recording.StreamChoice.{StreamChoice}
use Rattle.stream_record_stream.specs.Answers.{IsReadOf}
use Rattle.stream_record_stream.specs.Streams.{StreamRead}
use Rattle.stream_runs.specs.declared.choice.RunChoice.{RunChoice}
use Rattle.std.specs.Prelude.{Ok}
use Rattle.laws_again.specs.Streams.{IsRunInLanes, IsStreamInLanes, IsToldWhole, ReadsAsItIs, inputs_of}

-- ---- what is read

-- A run of a plan that was read, whose stream these bytes are.
pub record HasStream (plan : List ℕ) (script : Option (List ℕ)) (saved : SavedPlan) (lanes start : ℕ) (operation : Operation) (stream : List ℕ) : Type 0 where
  pub steps : OutcomeMap
  pub events : List Event
  pub run : IsRunInLanes plan script saved steps lanes events
  pub stream_is : stream ≡ stream_in (plain_form saved steps start operation) events

-- The same, told whole.
pub record HasWholeStream (plan : List ℕ) (script : Option (List ℕ)) (graph : List ℕ) (saved : SavedPlan) (lanes start : ℕ) (operation : Operation)
    (stream : List ℕ) : Type 0 where
  pub has : HasStream plan script saved lanes start operation stream
  pub told : IsToldWhole saved has.steps lanes graph

-- A graph states waits.
pub graph_waits : (changes : List ResourceChange) (graph : List ℕ) (waits : Option (List (List ℕ))) → AreWaitsIn changes (Some graph) waits
    → (stated : List (List ℕ)) × ((waits ≡ Some stated) × AreGraphWaits changes graph stated)
graph_waits changes graph None are = absurd are
graph_waits changes graph (Some stated) are = (stated, (refl, are))

-- A stream that is read as it is, is read from its first line.
pub as_it_is : (saved : SavedPlan) (choice : StreamChoice) (stream : List ℕ) (read : StreamRead) → ReadsAsItIs choice
    → reads.IsRead saved choice.find choice.run stream read → IsReadOf saved false 0 stream (Ok read)
as_it_is saved choice stream read as_is was =
    subst (λ (r : Option RunChoice). reads.IsRead saved false r stream read) as_is.takes_no_run
    (subst (λ (f : Bool). reads.IsRead saved f choice.run stream read) as_is.finds_nothing was)

-- ---- what was written

pub appended : (before after : Option (List ℕ)) (bytes stream : List ℕ) → before ≡ Some [] → after ≡ Some stream → Appends before after bytes → stream ≡ bytes
appended before after bytes stream none all appends =
    subst (λ (o : Option (List ℕ)). Appends (Some []) o bytes) all (subst (λ (o : Option (List ℕ)). Appends o after bytes) none appends)

-- What a run in lanes wrote is its stream.
abbrev pub stream_written : (plan : List ℕ) (script : Option (List ℕ)) (lanes start : ℕ) (operation : Operation) (report : Report) (before after : SinkState)
    (stream : List ℕ) → WasAppliedInLanes (inputs_of plan script) lanes start operation report before after
    → before.bytes ≡ Some [] → after.bytes ≡ Some stream → IsStreamInLanes plan script lanes start operation stream
stream_written plan script lanes start operation report before after stream applied none all = record {
  saved = applied.read.plan;
  steps = applied.read.script;
  events = applied.streamed.events;
  run = record { read = applied.is_read; sizes = applied.sizes; time_line = applied.streamed.run };
  stream_is = appended before.bytes after.bytes _ stream none all applied.streamed.whole.delivered.appended;
}
