-- What the slots of a line state, for private clauses: as Messages.antt, by the kind of the message.
use Rattle.std.specs.Prelude.{ℕ, ℤ, List, [], codes, Bool, true, false, ◌-◌, if◌then◌else◌, length, map, take, option_map, Option, Some, None, unwrap_or}
use Rattle.std.specs.Option.{option_map_or}
use Rattle.std.specs.Str.{bytes_eq}
use Rattle.apply_json.specs.Tree.{◌>>=◌}
use Rattle.stream_message.specs.declared.changes_slots.ChangesSlots.{ChangesSlots}
use Rattle.stream_message.specs.declared.diagnostic_slots.DiagnosticSlots.{DiagnosticSlots}
use Rattle.stream_message.specs.declared.hook_slots.HookSlots.{HookSlots}
use Rattle.stream_message.specs.declared.kind.Kind.{Kind}
use Rattle.stream_message.specs.declared.kind.Kind.TheVariants as kind
use Rattle.stream_message.specs.declared.line_head.LineHead.{LineHead}
use Rattle.stream_message.specs.declared.line_slots.LineSlots.{LineSlots}
use Rattle.stream_message.specs.declared.stage.Stage.{Stage}
use Rattle.stream_message.specs.declared.stage.Stage.TheVariants as stage
use Rattle.stream_message.specs.SlotValues.{action_in, added_in, address_in, changed_in, detail_in, diagnostic_address_in, file_in, imported_in, kind_in, line_in, operation_in, provisioner_in, removed_in, severity_in, summary_in, time_in, version_in}
use Rattle.stream_timeline.specs.declared.reading.totals.Totals.{Totals}
use Rattle.stream_timeline.specs.Details.{DiagnosticRead, detail_lines, lines_of_detail, stored, trimmed_line}
use Rattle.stream_timeline.specs.Messages.{Content, Message, begins, begins_provisioner, ends, ends_provisioner, error, other, plan_summary, summary, unusable, version, warning}

-- ---- `hook`

abbrev pub begin_in : HookSlots → Content
begin_in hook =
    option_map_or (λ address. option_map_or (λ action. begins address action) (action_in hook) unusable)
    (address_in hook) unusable

abbrev pub end_in : (failed : Bool) → HookSlots → Content
end_in failed hook =
    option_map_or (λ address. option_map_or (λ action. ends address action failed) (action_in hook) unusable)
    (address_in hook) unusable

abbrev pub refresh_begin_in : HookSlots → Content
refresh_begin_in hook = option_map_or (λ address. begins address (codes "refresh")) (address_in hook) unusable

abbrev pub refresh_end_in : HookSlots → Content
refresh_end_in hook = option_map_or (λ address. ends address (codes "refresh") false) (address_in hook) unusable

abbrev pub provisioner_begin_in : HookSlots → Content
provisioner_begin_in hook =
    option_map_or (λ address. begins_provisioner address (unwrap_or (provisioner_in hook) [])) (address_in hook) unusable

abbrev pub provisioner_end_in : (failed : Bool) → HookSlots → Content
provisioner_end_in failed hook = option_map_or (λ address. ends_provisioner address failed) (address_in hook) unusable

abbrev pub step_content_in : Stage → HookSlots → Content
step_content_in stage.Start hook = begin_in hook
step_content_in stage.Progress hook = other
step_content_in stage.Complete hook = end_in false hook
step_content_in stage.Errored hook = end_in true hook

abbrev pub refresh_content_in : Stage → HookSlots → Content
refresh_content_in stage.Start hook = refresh_begin_in hook
refresh_content_in stage.Progress hook = other
refresh_content_in stage.Complete hook = refresh_end_in hook
refresh_content_in stage.Errored hook = other

abbrev pub provisioner_content_in : Stage → HookSlots → Content
provisioner_content_in stage.Start hook = provisioner_begin_in hook
provisioner_content_in stage.Progress hook = other
provisioner_content_in stage.Complete hook = provisioner_end_in false hook
provisioner_content_in stage.Errored hook = provisioner_end_in true hook

-- ---- `diagnostic`

abbrev pub diagnostic_in : DiagnosticSlots → DiagnosticRead
diagnostic_in slots = record {
  summary = stored (unwrap_or (summary_in slots) []);
  address = option_map stored (diagnostic_address_in slots);
  file = option_map stored (file_in slots);
  line = line_in slots;
  detail = map (λ line. stored (trimmed_line line)) (take detail_lines (lines_of_detail (unwrap_or (detail_in slots) [])));
  more = length (lines_of_detail (unwrap_or (detail_in slots) [])) - detail_lines;
}

abbrev pub severity_content_in : (severity : List ℕ) → DiagnosticSlots → Content
severity_content_in severity slots =
    if bytes_eq severity (codes "error") then error (diagnostic_address_in slots) (diagnostic_in slots)
    else if bytes_eq severity (codes "warning") then warning (diagnostic_in slots)
    else unusable

abbrev pub diagnostic_content_in : DiagnosticSlots → Content
diagnostic_content_in slots = option_map_or (λ severity. severity_content_in severity slots) (severity_in slots) unusable

-- ---- `changes`

abbrev pub totals_of : ChangesSlots → Totals
totals_of changes = record {
  added = added_in changes;
  changed = changed_in changes;
  removed = removed_in changes;
  imported = imported_in changes;
}

abbrev pub summary_content_in : ChangesSlots → Content
summary_content_in changes =
    if bytes_eq (unwrap_or (operation_in changes) []) (codes "plan") then plan_summary (totals_of changes) else summary (totals_of changes)

-- ---- the line

abbrev pub content_in : Kind → LineSlots → Content
content_in kind.Version line = version (unwrap_or (version_in line) [])
content_in (kind.Apply stage) line = step_content_in stage line.hook
content_in (kind.Refresh stage) line = refresh_content_in stage line.hook
content_in (kind.Provision stage) line = provisioner_content_in stage line.hook
content_in (kind.Ephemeral stage) line = step_content_in stage line.hook
content_in kind.Planned line = other
content_in kind.Summary line = summary_content_in line.changes
content_in kind.Diagnostic line = diagnostic_content_in line.diagnostic
content_in kind.Outputs line = other
content_in kind.Other line = other

-- the message in a line, which needs a text `type` and a valid `@timestamp`
abbrev pub message_in : LineSlots → Option Message
message_in line =
    kind_in line.head >>= λ kind. (time_in line.head >>= λ time. Some (let message : Message = record { time = time; content = content_in kind line } in message))

-- ---- messages that only contribute their timestamp

abbrev pub is_progress : Stage → Bool
is_progress stage.Start = false
is_progress stage.Progress = true
is_progress stage.Complete = false
is_progress stage.Errored = false

-- a message of this kind only contributes its timestamp
abbrev pub is_time_only : Kind → Bool
is_time_only kind.Version = false
is_time_only (kind.Apply stage) = is_progress stage
is_time_only (kind.Refresh stage) = false
is_time_only (kind.Provision stage) = is_progress stage
is_time_only (kind.Ephemeral stage) = is_progress stage
is_time_only kind.Planned = true
is_time_only kind.Summary = false
is_time_only kind.Diagnostic = false
is_time_only kind.Outputs = true
is_time_only kind.Other = true

abbrev pub time_only : ℤ → Message
time_only time = record { time = time; content = other }

-- the timestamp of such a message
abbrev pub time_only_in : LineHead → Option ℤ
time_only_in head = kind_in head >>= λ kind. (if is_time_only kind then time_in head else None)
