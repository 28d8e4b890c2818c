-- The lines of a stream. Each line is one message.
use Rattle.std.specs.Prelude.{ℕ, ◌+◌, List, [], ◌∷◌, ◌++◌, codes, length, flat_map, slice_get}
use Rattle.std.specs.List.{enumerate_from}
use Rattle.std.specs.Option.{option_map_or}
use Rattle.serde_json.specs.Data.{Data, string, object, Members, no_members, member}
use Rattle.serde_json.specs.Written.{compact_text}
use Rattle.apply_model.specs.Plan.SavedPlan.{SavedPlan}
use Rattle.apply_model.specs.Script.OutcomeMap.{OutcomeMap, outcome_of}
use Rattle.apply_events.specs.declared.counts.Counts.{Counts}
use Rattle.apply_events.specs.declared.event.Event.{Event}
use Rattle.apply_events.specs.Totals.{totals_of}
use Rattle.apply_text.specs.declared.operation.Operation.{Operation}
use Rattle.apply_text.specs.Latest.{latest_of}
use Rattle.apply_text.specs.Message.{Message, event_message, summary_message}
use Rattle.apply_text.specs.UtcTimestamp.{timestamp_text}
use Rattle.apply_text.specs.Order.{as_written}

-- ---- one line

-- a message with its timestamp: the members that every message has, then others
unfoldable pub message_object : (level text timestamp : List ℕ) → Members → Data
message_object level text timestamp others =
    object
    (member (codes "@level") (string level)
    (member (codes "@message") (string text)
    (member (codes "@module") (string (codes "terraform.ui"))
    (member (codes "@timestamp") (string timestamp) others))))

-- a member whose value is an object, then the type
abbrev pub typed : (name : List ℕ) → Data → (type_name : List ℕ) → Members
typed name body type_name = member name body (member (codes "type") (string type_name) no_members)

-- a JSON object without spaces, and a line feed
abbrev pub line_of : Data → List ℕ
line_of d = compact_text d ++ 10 ∷ []

-- the line of a message; `seconds` counts from the start of 1970
abbrev pub message_line : (seconds : ℕ) → Message → List ℕ
message_line seconds message =
    line_of (message_object message.level message.text (timestamp_text seconds)
    (typed message.name message.body message.type_name))

-- the members of the version message: the Terraform version of the plan, and the version of the
-- interface
abbrev pub version_members : (version : List ℕ) → Members
version_members version =
    member (codes "terraform") (string version)
    (member (codes "type") (string (codes "version"))
    (member (codes "ui") (string (codes "1.0")) no_members))

abbrev pub version_text : SavedPlan → (start : ℕ) → List ℕ
version_text plan start =
    line_of (message_object (codes "info") (codes "Terraform " ++ plan.version) (timestamp_text start)
    (version_members plan.version))

-- the line of an event, `clock` seconds after the start
abbrev pub event_text : SavedPlan → OutcomeMap → (start clock : ℕ) → Event → List ℕ
event_text plan script start clock event =
    option_map_or (λ change.
    option_map_or (λ step.
    message_line (start + clock) (event_message change step (outcome_of script event.change event.step) event.what))
    (slice_get change.steps event.step) [])
    (slice_get plan.changes event.change) []

-- the last line, `clock` seconds after the start
abbrev pub summary_text : (start clock : ℕ) → Operation → Counts → List ℕ
summary_text start clock operation counts = message_line (start + clock) (summary_message operation counts)

-- ---- all lines

-- the version line, and the line of each written event; the timestamp of a line is the clock up to
-- its event
abbrev pub lines_of : SavedPlan → OutcomeMap → (start : ℕ) → (written : List Event) → List ℕ
lines_of plan script start written =
    version_text plan start
    ++ flat_map (λ p. event_text plan script start (latest_of written (p.0 + 1)) p.1) (enumerate_from 0 written)

-- the whole stream for events that were taken in this order: their lines in the order of writing,
-- and the summary of the changes that they completed
abbrev pub stream_of : SavedPlan → OutcomeMap → (start : ℕ) → Operation → (taken : List Event) → List ℕ
stream_of plan script start operation taken =
    lines_of plan script start (as_written taken)
    ++ summary_text start (latest_of (as_written taken) (length (as_written taken))) operation (totals_of plan taken)
