-- The streams of runs in lanes, without hooks, by the bytes of the plan and of the script.
use Rattle.std.specs.Prelude.{◌≡◌, ℕ, List, [], false, Option, None}
use Rattle.apply_model.specs.Plan.SavedPlan.{SavedPlan}
use Rattle.apply_model.specs.Script.Outcome.{is_warned}
use Rattle.apply_model.specs.Script.OutcomeMap.{OutcomeMap, outcome_of}
use Rattle.apply_events.specs.declared.event.Event.{Event}
use Rattle.apply_events.specs.Lanes.{AreLanes}
use Rattle.apply_events.specs.Waits.TimeLine.{IsTimeLine}
use Rattle.apply_text.specs.declared.operation.Operation.{Operation}
use Rattle.apply_run.specs.Bytes.{Inputs, IsRead}
use Rattle.apply_writer.specs.Stream.Form.{plain_form, stream_in}
use Rattle.stream_record_cli.specs.Graphs.{AreGraphWaits}
use Rattle.stream_record_cli.specs.declared.command.recording.StreamChoice.{StreamChoice}
use Rattle.laws_begun.specs.Followed.{HasAddressesApart}
use Rattle.laws_kept_waits.specs.InLines.{StatesWaits}
use Rattle.laws_own_streams.specs.Runs.{without_hooks}

-- The inputs of a run without hooks.
abbrev pub inputs_of : (plan : List ℕ) → (script : Option (List ℕ)) → Inputs
inputs_of plan script = record { plan = plan; script = script; hooks = [] }

-- A run reads the bytes as this plan and this script, and these are its events in so many lanes,
-- without hooks.
pub record IsRunInLanes (plan : List ℕ) (script : Option (List ℕ)) (saved : SavedPlan) (steps : OutcomeMap) (lanes : ℕ) (events : List Event) : Type 0 where
  pub read : IsRead (inputs_of plan script) saved steps
  pub sizes : AreLanes lanes
  pub time_line : IsTimeLine (without_hooks saved steps) lanes events

-- The bytes are the stream of a run in lanes, without hooks, in the default form.
pub record IsStreamInLanes (plan : List ℕ) (script : Option (List ℕ)) (lanes start : ℕ) (operation : Operation) (stream : List ℕ) : Type 0 where
  pub saved : SavedPlan
  pub steps : OutcomeMap
  pub events : List Event
  pub run : IsRunInLanes plan script saved steps lanes events
  pub stream_is : stream ≡ stream_in (plain_form saved steps start operation) events

-- ---- what `record` has to find

-- `record` reads the stream as it is, and pins no step behind the one it began after.
pub record ReadsAsItIs (choice : StreamChoice) : Type 0 where
  pub finds_nothing : choice.find ≡ false
  pub takes_no_run : choice.run ≡ None
  pub pins_nothing : choice.wishes.begins ≡ false

-- No address stands twice among changes with steps, each step that begins has its end in the
-- stream, and the graph has the waits that the script names for these steps.
pub record IsToldWhole (saved : SavedPlan) (steps : OutcomeMap) (lanes : ℕ) (graph : List ℕ) : Type 0 where
  pub addresses : HasAddressesApart saved
  pub ends : (c k : ℕ) → is_warned (outcome_of steps c k).result ≡ false
  pub waits : (waits : List (List ℕ)) → AreGraphWaits saved.changes graph waits → StatesWaits (without_hooks saved steps) lanes waits
