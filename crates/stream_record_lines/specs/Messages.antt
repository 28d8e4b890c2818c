-- What a message states, by its text and the tree of its text (Machine-Readable UI, "Message
-- Types"). A member with another type counts as missing.
use Rattle.std.specs.Prelude.{ℕ, ℤ, List, codes, if◌then◌else◌, Option, Some, None, option_map, unwrap_or}
use Rattle.std.specs.Option.{option_map_or}
use Rattle.std.specs.Str.{bytes_eq}
use Rattle.serde_json.specs.Data.{Data}
use Rattle.apply_json.specs.Tree.{◌>>=◌, member_of, non_empty_text_of, text_of}
use Rattle.apply_model.specs.declared.plan.step_kind.StepKind.{StepKind}
use Rattle.apply_model.specs.declared.plan.step_kind.StepKind.TheVariants as step_kind
use Rattle.stream_message.specs.Members.{address_of, changes_text, diagnostic_text, hook_count, hook_text, kind_of, time_of}
use Rattle.stream_message.specs.declared.kind.Kind.{Kind}
use Rattle.stream_message.specs.declared.kind.Kind.TheVariants as kind
use Rattle.stream_message.specs.declared.stage.Stage.{Stage}
use Rattle.stream_message.specs.declared.stage.Stage.TheVariants as stage
use Rattle.apply_model.specs.declared.details.note.Note.{Note}
use Rattle.apply_model.specs.declared.details.note.Severity.{Severity}
use Rattle.apply_model.specs.declared.details.note.Severity.TheVariants as severity
use Rattle.stream_record_lines.specs.declared.event.Event.{Event}
use Rattle.stream_record_lines.specs.declared.event.Event.TheVariants as event
use Rattle.stream_record_lines.specs.declared.provisioner.ProvisionerStage.{ProvisionerStage}
use Rattle.stream_record_lines.specs.declared.provisioner.ProvisionerStage.TheVariants as provisioner_stage
use Rattle.stream_record_lines.specs.declared.stated_message.StatedMessage.{StatedMessage}
use Rattle.stream_record_lines.specs.declared.step.StepStage.{StepStage}
use Rattle.stream_record_lines.specs.declared.step.StepStage.TheVariants as step_stage
use Rattle.stream_record_lines.specs.declared.summary.Summary.{Summary}
use Rattle.stream_record_lines.specs.declared.summary.Summary.TheVariants as sums
use Rattle.stream_record_lines.specs.JsonMembers.{if_object, member_json}
use Rattle.stream_record_lines.specs.Outputs.{outputs_of}
use Rattle.stream_record_lines.specs.Seconds.{nearest_second}

-- ---- steps

-- the kind of step that a word names
abbrev pub kind_named : (word : List ℕ) → Option StepKind
kind_named word =
    if bytes_eq word (codes "create") then Some step_kind.Create
    else if bytes_eq word (codes "update") then Some step_kind.Update
    else if bytes_eq word (codes "delete") then Some step_kind.Delete
    else if bytes_eq word (codes "read") then Some step_kind.Read
    else None

abbrev pub seconds_of : Data → Option ℕ
seconds_of d = hook_count (codes "elapsed_seconds") d

abbrev pub completed_after : Data → (seconds : ℕ) → StepStage
completed_after d seconds = step_stage.Completed seconds (hook_text (codes "id_key") d) (hook_text (codes "id_value") d)

-- the stage of a step; none if the message lacks the seconds that it needs
abbrev pub stage_of_step : Stage → Data → Option StepStage
stage_of_step stage.Start d = Some (step_stage.Began (hook_text (codes "id_value") d))
stage_of_step stage.Progress d = option_map step_stage.Progress (seconds_of d)
stage_of_step stage.Complete d = option_map (completed_after d) (seconds_of d)
stage_of_step stage.Errored d = option_map step_stage.Failed (seconds_of d)

abbrev pub step_with : (address : List ℕ) → StepStage → StepKind → Event
step_with address stage kind = event.Step (record { address = address; kind = kind; stage = stage })

-- a stage of the action with this word at an address; only four actions are steps
abbrev pub step_at : (address word : List ℕ) → StepStage → Event
step_at address word stage = option_map_or (step_with address stage) (kind_named word) event.Other

-- a message about a step; none if it lacks the address, the action or the seconds
abbrev pub step_of : Stage → Data → Option Event
step_of stage d =
    address_of d >>= λ address. hook_text (codes "action") d
    >>= λ word. option_map (step_at address word) (stage_of_step stage d)

-- ---- provisioners

-- the name of a provisioner; a name that is missing or empty is `?`
abbrev pub provisioner_name : Data → List ℕ
provisioner_name d = unwrap_or (member_of (codes "hook") d >>= non_empty_text_of (codes "provisioner")) (codes "?")

-- the stage of a provisioner; none if the message lacks its output
abbrev pub stage_of_provisioner : Stage → Data → Option ProvisionerStage
stage_of_provisioner stage.Start d = Some provisioner_stage.Began
stage_of_provisioner stage.Progress d = option_map provisioner_stage.Wrote (hook_text (codes "output") d)
stage_of_provisioner stage.Complete d = Some provisioner_stage.Ended
stage_of_provisioner stage.Errored d = Some provisioner_stage.Failed

abbrev pub provisioner_with : (address name : List ℕ) → ProvisionerStage → Event
provisioner_with address name stage = event.Provisioner (record { address = address; name = name; stage = stage })

-- a message about a provisioner; none if it lacks the address or the output
abbrev pub provisioner_of : Stage → Data → Option Event
provisioner_of stage d =
    address_of d >>= λ address. option_map (provisioner_with address (provisioner_name d)) (stage_of_provisioner stage d)

-- ---- diagnostics

abbrev pub severity_named : (word : List ℕ) → Option Severity
severity_named word =
    if bytes_eq word (codes "error") then Some severity.Error
    else if bytes_eq word (codes "warning") then Some severity.Warning
    else None

-- a text of `diagnostic`; empty if it is missing
abbrev pub text_or_empty : (name : List ℕ) → Data → List ℕ
text_or_empty name d = unwrap_or (diagnostic_text name d) (codes "")

-- the JSON text of a member of `diagnostic` that is an object
abbrev pub object_json : (name text : List ℕ) → Option (List ℕ)
object_json name text = (member_json (codes "diagnostic") text >>= member_json name) >>= if_object

-- the address that a diagnostic is about; none if it is missing or empty
abbrev pub diagnostic_address : Data → Option (List ℕ)
diagnostic_address d = member_of (codes "diagnostic") d >>= non_empty_text_of (codes "address")

abbrev pub note_of : (text : List ℕ) → Data → Severity → Note
note_of text d severity = record {
  severity = severity;
  diag = record {
    summary = text_or_empty (codes "summary") d;
    detail = text_or_empty (codes "detail") d;
    range = object_json (codes "range") text;
    snippet = object_json (codes "snippet") text;
  };
  address = diagnostic_address d;
}

-- an error or a warning; none of any other severity
abbrev pub diagnostic_of : (text : List ℕ) → Data → Option Event
diagnostic_of text d =
    option_map (λ severity. event.Diagnostic (note_of text d severity)) (diagnostic_text (codes "severity") d >>= severity_named)

-- ---- summaries

abbrev pub summary_named : (operation : List ℕ) → Option Summary
summary_named operation =
    if bytes_eq operation (codes "plan") then Some sums.Plan
    else if bytes_eq operation (codes "apply") then Some sums.Apply
    else if bytes_eq operation (codes "destroy") then Some sums.Destroy
    else None

abbrev pub summary_of : Data → Option Event
summary_of d = option_map event.Summary (changes_text (codes "operation") d >>= summary_named)

-- ---- the message

abbrev pub event_of : (text : List ℕ) → Data → Kind → Event
event_of text d kind.Version = event.Version (text_of (codes "ui") d)
event_of text d (kind.Apply stage) = unwrap_or (step_of stage d) event.Malformed
event_of text d (kind.Refresh stage) = event.Other
event_of text d (kind.Provision stage) = unwrap_or (provisioner_of stage d) event.Malformed
event_of text d (kind.Ephemeral stage) = event.Ephemeral
event_of text d kind.Planned = event.Other
event_of text d kind.Summary = unwrap_or (summary_of d) event.Other
event_of text d kind.Diagnostic = unwrap_or (diagnostic_of text d) event.Other
event_of text d kind.Outputs = event.Outputs (outputs_of text)
event_of text d kind.Other = event.Other

-- the nearest second of the timestamp; none if there is no timestamp
abbrev pub second_of : Data → Option ℤ
second_of d = option_map nearest_second (time_of d)

-- the message; none if the tree lacks a text `type`
abbrev pub message_of : (text : List ℕ) → Data → Option StatedMessage
message_of text d = option_map (λ kind. record { second = second_of d; event = event_of text d kind }) (kind_of d)
