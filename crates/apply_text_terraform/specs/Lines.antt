-- The lines of a stream in Terraform's form. Each line is one message.
use Rattle.std.specs.Prelude.{ℕ, ◌+◌, List, [], ◌∷◌, ◌++◌, codes, slice_get, Option, if◌then◌else◌}
use Rattle.std.specs.Option.{option_map_or}
use Rattle.serde_json.specs.Data.{Data, string, Members, no_members, member}
use Rattle.serde_json.specs.Written.{compact_text}
use Rattle.apply_model.specs.declared.details.change_details.ChangeDetails.{ChangeDetails}
use Rattle.apply_model.specs.declared.details.note.Note.{Note}
use Rattle.apply_model.specs.declared.details.output.Output.{Output}
use Rattle.apply_model.specs.declared.plan.step_kind.StepKind.{StepKind}
use Rattle.apply_model.specs.declared.script.outcome.Outcome.{Outcome}
use Rattle.apply_model.specs.Plan.ResourceChange.{ResourceChange}
use Rattle.apply_model.specs.Plan.SavedPlan.{SavedPlan}
use Rattle.apply_model.specs.Script.OutcomeMap.{OutcomeMap, outcome_of}
use Rattle.apply_events.specs.declared.counts.Counts.{Counts}
use Rattle.apply_events.specs.declared.event.Event.{Event}
use Rattle.apply_events.specs.declared.what.What.{What}
use Rattle.apply_text.specs.declared.operation.Operation.{Operation}
use Rattle.apply_text.specs.Lines.{message_object, typed}
use Rattle.apply_text.specs.Message.{Message}
use Rattle.apply_text_terraform.specs.Details.{planned_word}
use Rattle.apply_text_terraform.specs.Escapes.{escaped}
use Rattle.apply_text_terraform.specs.Verbatim.{verbatim_members, diagnostic_with}
use Rattle.apply_text_terraform.specs.Message.{event_message, is_silent, verbatim_of, note_message, planned_message, summary_message}
use Rattle.apply_text_terraform.specs.UtcTimestamp.{precise_timestamp_text}
use Rattle.apply_text_terraform.specs.Outputs.{outputs_message}

-- ---- one line

-- JSON text with its escapes, and a line feed
abbrev pub line_of_text : List ℕ → List ℕ
line_of_text text = escaped text ++ 10 ∷ []

-- the line of a JSON object, written without spaces
abbrev pub line_of : Data → List ℕ
line_of d = line_of_text (compact_text d)

-- the line of a message; `seconds` counts from the start of 1970
abbrev pub message_line : (seconds : ℕ) → Message → List ℕ
message_line seconds message =
    line_of (message_object message.level message.text (precise_timestamp_text seconds)
    (typed message.name message.body message.type_name))

-- the line of a message about a diagnostic, with members that are copied verbatim
abbrev pub line_with_verbatim : (seconds : ℕ) → Message → (verbatim : List ℕ) → List ℕ
line_with_verbatim seconds message [] = message_line seconds message
line_with_verbatim seconds message (byte ∷ bytes) = line_of_text (diagnostic_with (precise_timestamp_text seconds) message (byte ∷ bytes))

-- the members of the version message: the Terraform version of the plan, and the version of the
-- interface
abbrev pub version_members : (version : List ℕ) → Members
version_members version =
    member (codes "terraform") (string version)
    (member (codes "type") (string (codes "version"))
    (member (codes "ui") (string (codes "1.2")) no_members))

abbrev pub version_text : SavedPlan → (start : ℕ) → List ℕ
version_text plan start =
    line_of (message_object (codes "info") (codes "Terraform " ++ plan.version) (precise_timestamp_text start)
    (version_members plan.version))

-- the line of a planned change, at the start; empty where nothing is planned
abbrev pub planned_text : (start : ℕ) → ResourceChange → ChangeDetails → List ℕ
planned_text start change details =
    option_map_or (λ word. message_line start (planned_message change word details))
    (planned_word change.steps details.forgets) []

-- the line of an event of a step with this outcome; `planned` is the id that the plan gives
abbrev pub event_line : (seconds : ℕ) → ResourceChange → StepKind → Outcome → (planned : Option (List ℕ)) → What → List ℕ
event_line seconds change step outcome planned what =
    line_with_verbatim seconds (event_message change step outcome planned what) (verbatim_of outcome what)

-- the line of an event, `clock` seconds after the start; empty where the event has no line
abbrev pub event_text : SavedPlan → OutcomeMap → (start clock : ℕ) → (planned : Option (List ℕ)) → Event → List ℕ
event_text plan script start clock planned event =
    option_map_or (λ change.
    option_map_or (λ step.
    if is_silent step event.what then []
    else event_line (start + clock) change step (outcome_of script event.change event.step) planned event.what)
    (slice_get change.steps event.step) [])
    (slice_get plan.changes event.change) []

-- the line of a diagnostic of no step, `clock` seconds after the start
abbrev pub note_text : (start clock : ℕ) → Note → List ℕ
note_text start clock note = line_with_verbatim (start + clock) (note_message note) (verbatim_members note.diag)

-- the line of the summary, `clock` seconds after the start
abbrev pub summary_text : (start clock : ℕ) → Operation → Counts → (imported : ℕ) → List ℕ
summary_text start clock operation counts imported =
    message_line (start + clock) (summary_message operation counts imported)

-- the line of the outputs in their order, `clock` seconds after the start
abbrev pub outputs_text : (start clock : ℕ) → List Output → List ℕ
outputs_text start clock outputs = line_of_text (outputs_message (precise_timestamp_text (start + clock)) outputs)
