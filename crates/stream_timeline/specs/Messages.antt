-- What the messages of a stream state about steps (Machine-Readable UI, "Message Types").
use Rattle.std.specs.Prelude.{ℕ, ℤ, List, [], codes, Bool, true, false, ◌||◌, if◌then◌else◌, Option, Some, None, unwrap_or}
use Rattle.std.specs.Option.{option_map_or}
use Rattle.std.specs.Str.{bytes_eq}
use Rattle.serde_json.specs.Data.{Data}
use Rattle.apply_json.specs.Tree.{◌>>=◌, member_of, text_of, tree_of}
use Rattle.stream_message.specs.Members.{address_of, count_of, hook_text, text_or_empty, time_of}
use Rattle.stream_timeline.specs.declared.reading.totals.Totals.{Totals}
use Rattle.stream_timeline.specs.Details.{DiagnosticRead, diagnostic_of}

pub data Content : Type 0 where
  -- a step with this address and action begins, or ends
  begins : (address action : List ℕ) → Content
  ends : (address action : List ℕ) → (failed : Bool) → Content
  -- a provisioner begins or ends in the newest open step at this address
  begins_provisioner : (address name : List ℕ) → Content
  ends_provisioner : (address : List ℕ) → (failed : Bool) → Content
  -- an error, with an address or without one, or a warning
  error : (address : Option (List ℕ)) → DiagnosticRead → Content
  warning : DiagnosticRead → Content
  version : List ℕ → Content
  -- the summary of a plan, or another
  plan_summary : Totals → Content
  summary : Totals → Content
  -- a message that only contributes its timestamp
  other : Content
  -- a message about a step or a provisioner without its address or action, or a diagnostic of
  -- another severity
  unusable : Content

-- ---- the content of each type

abbrev pub begin_of : Data → Content
begin_of d =
    option_map_or (λ address. option_map_or (λ action. begins address action) (hook_text (codes "action") d) unusable)
    (address_of d) unusable

abbrev pub end_of : (failed : Bool) → Data → Content
end_of failed d =
    option_map_or (λ address. option_map_or (λ action. ends address action failed)
    (hook_text (codes "action") d) unusable)
    (address_of d) unusable

-- The messages of a refresh have no action, so `refresh` stands for it.
abbrev pub refresh_begin_of : Data → Content
refresh_begin_of d = option_map_or (λ address. begins address (codes "refresh")) (address_of d) unusable

abbrev pub refresh_end_of : Data → Content
refresh_end_of d = option_map_or (λ address. ends address (codes "refresh") false) (address_of d) unusable

abbrev pub provisioner_begin_of : Data → Content
provisioner_begin_of d =
    option_map_or (λ address. begins_provisioner address (unwrap_or (hook_text (codes "provisioner") d) []))
    (address_of d) unusable

abbrev pub provisioner_end_of : (failed : Bool) → Data → Content
provisioner_end_of failed d = option_map_or (λ address. ends_provisioner address failed) (address_of d) unusable

-- the content of a diagnostic, by its severity
abbrev pub diagnostic_with : (severity : List ℕ) → Data → Content
diagnostic_with severity members =
    if bytes_eq severity (codes "error") then error (text_of (codes "address") members) (diagnostic_of members)
    else if bytes_eq severity (codes "warning") then warning (diagnostic_of members)
    else unusable

abbrev pub diagnostic_content : Data → Content
diagnostic_content d =
    option_map_or (λ members. diagnostic_with (text_or_empty (codes "severity") members) members)
    (member_of (codes "diagnostic") d) unusable

-- a total that is missing or no whole number is `None`
abbrev pub totals_in : Data → Totals
totals_in changes = record {
  added = count_of (codes "add") changes;
  changed = count_of (codes "change") changes;
  removed = count_of (codes "remove") changes;
  imported = count_of (codes "import") changes;
}

abbrev pub no_totals : Totals
no_totals = record { added = None; changed = None; removed = None; imported = None }

abbrev pub summary_in : Data → Content
summary_in changes =
    if bytes_eq (text_or_empty (codes "operation") changes) (codes "plan") then plan_summary (totals_in changes)
    else summary (totals_in changes)

abbrev pub summary_of : Data → Content
summary_of d = option_map_or summary_in (member_of (codes "changes") d) (summary no_totals)

-- ---- the content by the type

abbrev pub general_content : (name : List ℕ) → Data → Content
general_content name d =
    if bytes_eq name (codes "diagnostic") then diagnostic_content d
    else if bytes_eq name (codes "version") then version (text_or_empty (codes "terraform") d)
    else if bytes_eq name (codes "change_summary") then summary_of d
    else other

abbrev pub provisioner_content : (name : List ℕ) → Data → Content
provisioner_content name d =
    if bytes_eq name (codes "provision_start") then provisioner_begin_of d
    else if bytes_eq name (codes "provision_complete") then provisioner_end_of false d
    else if bytes_eq name (codes "provision_errored") then provisioner_end_of true d
    else general_content name d

abbrev pub other_step_content : (name : List ℕ) → Data → Content
other_step_content name d =
    if bytes_eq name (codes "refresh_start") then refresh_begin_of d
    else if bytes_eq name (codes "refresh_complete") then refresh_end_of d
    else provisioner_content name d

abbrev pub content_of : (name : List ℕ) → Data → Content
content_of name d =
    if bytes_eq name (codes "apply_start") || bytes_eq name (codes "ephemeral_op_start") then begin_of d
    else if bytes_eq name (codes "apply_complete") || bytes_eq name (codes "ephemeral_op_complete") then end_of false d
    else if bytes_eq name (codes "apply_errored") || bytes_eq name (codes "ephemeral_op_errored") then end_of true d
    else other_step_content name d

-- ---- the message in a line

pub record Message : Type 0 where
  -- microseconds since the start of 1970
  pub time : ℤ
  pub content : Content

abbrev pub message_at : (name : List ℕ) → Data → ℤ → Message
message_at name d time = record { time = time; content = content_of name d }

-- the message in a tree, which needs a text `type` and a valid `@timestamp`
abbrev pub tree_message : Data → Option Message
tree_message d = text_of (codes "type") d >>= λ name. (time_of d >>= λ time. Some (message_at name d time))

-- The message in a line. A line is none if it is not an object (RFC 8259) that nests at most 127
-- deep, or if it lacks type or timestamp.
abbrev pub message_of : List ℕ → Option Message
message_of line = tree_of line >>= tree_message
