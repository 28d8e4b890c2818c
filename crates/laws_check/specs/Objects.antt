-- The JSON objects of a stream's lines.
use Rattle.std.specs.Prelude.{ℕ, ◌+◌, List, [], ◌∷◌, ◌++◌, codes, flat_map, length, slice_get}
use Rattle.std.specs.List.{enumerate_from}
use Rattle.std.specs.Option.{option_map_or}
use Rattle.serde_json.specs.Data.{Data}
use Rattle.apply_plan.specs.Plan.SavedPlan.{SavedPlan}
use Rattle.apply_plan.specs.Script.OutcomeMap.{OutcomeMap, outcome_of}
use Rattle.apply_events.specs.declared.event.Event.{Event}
use Rattle.apply_events.specs.Totals.{totals_of}
use Rattle.apply_text.specs.declared.operation.Operation.{Operation}
use Rattle.apply_text.specs.Latest.{latest_of}
use Rattle.apply_text.specs.Lines.{message_object, typed, version_members}
use Rattle.apply_text.specs.Message.{Message, event_message, summary_message}
use Rattle.apply_text.specs.UtcTimestamp.{timestamp_text}
use Rattle.apply_text.specs.Order.{as_written}

-- the object of a message with this text for its timestamp
abbrev pub object_at : (moment : List ℕ) → Message → Data
object_at moment message =
    message_object message.level message.text moment (typed message.name message.body message.type_name)

-- the object of a message at so many seconds after the start of 1970
abbrev pub object_of : (seconds : ℕ) → Message → Data
object_of seconds message = object_at (timestamp_text seconds) message

-- the object of the version, the first line of a stream
abbrev pub version_object : SavedPlan → (start : ℕ) → Data
version_object plan start =
    message_object (codes "info") (codes "Terraform " ++ plan.version) (timestamp_text start)
    (version_members plan.version)

-- the object of an event; none if the plan has no such step
abbrev pub objects_of : SavedPlan → OutcomeMap → (seconds : ℕ) → Event → List Data
objects_of plan script seconds event =
    option_map_or (λ change.
    option_map_or (λ step.
    object_of seconds (event_message change step (outcome_of script event.change event.step) event.what) ∷ [])
    (slice_get change.steps event.step) []) (slice_get plan.changes event.change) []

-- the objects of events, each with the latest time up to it
abbrev pub event_objects : SavedPlan → OutcomeMap → (start : ℕ) → List Event → List Data
event_objects plan script start events =
    flat_map (λ p. objects_of plan script (start + latest_of events (p.0 + 1)) p.1) (enumerate_from 0 events)

-- all objects of the stream of the events that were taken: the version, the events in the order in
-- which they are written, and the summary at the latest time
abbrev pub stream_objects : SavedPlan → OutcomeMap → (start : ℕ) → Operation → (taken : List Event) → List Data
stream_objects plan script start operation taken =
    version_object plan start
    ∷ (event_objects plan script start (as_written taken)
    ++ object_of (start + latest_of (as_written taken) (length (as_written taken)))
    (summary_message operation (totals_of plan taken)) ∷ [])
