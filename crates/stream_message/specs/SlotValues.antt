-- The values of slots. A member with another type counts as missing.
use Rattle.std.specs.Prelude.{ℕ, ℤ, List, Option, option_map}
use Rattle.std.specs.Option.{option_and_then}
use Rattle.apply_json.specs.ShallowView.{ShallowView, shallow_view, shallow_text, shallow_whole}
use Rattle.apply_json.specs.Tree.{◌>>=◌}
use Rattle.stream_message.specs.declared.changes_slots.ChangesSlots.{ChangesSlots}
use Rattle.stream_message.specs.declared.diagnostic_slots.DiagnosticSlots.{DiagnosticSlots}
use Rattle.stream_message.specs.declared.hook_slots.HookSlots.{HookSlots}
use Rattle.stream_message.specs.declared.inner_slot.InnerSlot.{InnerSlot}
use Rattle.stream_message.specs.declared.kind.Kind.{Kind}
use Rattle.stream_message.specs.declared.line_head.LineHead.{LineHead}
use Rattle.stream_message.specs.declared.line_slots.LineSlots.{LineSlots}
use Rattle.stream_message.specs.Kinds.{kind_named}
use Rattle.stream_message.specs.Timestamp.{instant_of}

abbrev pub text_of_slot : Option ShallowView → Option (List ℕ)
text_of_slot value = option_and_then shallow_text value

abbrev pub whole_of_slot : Option ShallowView → Option ℕ
whole_of_slot value = option_and_then shallow_whole value

abbrev pub text_in_inner : InnerSlot → Option (List ℕ)
text_in_inner slot = text_of_slot (option_map shallow_view slot.value)

abbrev pub whole_in_inner : InnerSlot → Option ℕ
whole_in_inner slot = whole_of_slot (option_map shallow_view slot.value)

-- ---- `hook`

abbrev pub address_in : HookSlots → Option (List ℕ)
address_in hook = text_in_inner hook.resource

abbrev pub action_in : HookSlots → Option (List ℕ)
action_in hook = text_of_slot (option_map shallow_view hook.action)

abbrev pub provisioner_in : HookSlots → Option (List ℕ)
provisioner_in hook = text_of_slot (option_map shallow_view hook.provisioner)

abbrev pub seconds_in : HookSlots → Option ℕ
seconds_in hook = whole_of_slot (option_map shallow_view hook.seconds)

-- ---- `changes`

abbrev pub operation_in : ChangesSlots → Option (List ℕ)
operation_in changes = text_of_slot (option_map shallow_view changes.operation)

abbrev pub added_in : ChangesSlots → Option ℕ
added_in changes = whole_of_slot (option_map shallow_view changes.added)

abbrev pub changed_in : ChangesSlots → Option ℕ
changed_in changes = whole_of_slot (option_map shallow_view changes.changed)

abbrev pub removed_in : ChangesSlots → Option ℕ
removed_in changes = whole_of_slot (option_map shallow_view changes.removed)

abbrev pub imported_in : ChangesSlots → Option ℕ
imported_in changes = whole_of_slot (option_map shallow_view changes.imported)

-- ---- `diagnostic`

abbrev pub severity_in : DiagnosticSlots → Option (List ℕ)
severity_in diagnostic = text_of_slot (option_map shallow_view diagnostic.severity)

-- the address of the resource that the diagnostic is about
abbrev pub diagnostic_address_in : DiagnosticSlots → Option (List ℕ)
diagnostic_address_in diagnostic = text_of_slot (option_map shallow_view diagnostic.address)

abbrev pub summary_in : DiagnosticSlots → Option (List ℕ)
summary_in diagnostic = shallow_text (shallow_view diagnostic.summary)

abbrev pub detail_in : DiagnosticSlots → Option (List ℕ)
detail_in diagnostic = shallow_text (shallow_view diagnostic.detail)

abbrev pub file_in : DiagnosticSlots → Option (List ℕ)
file_in diagnostic = shallow_text (shallow_view diagnostic.range.filename)

abbrev pub line_in : DiagnosticSlots → Option ℕ
line_in diagnostic = whole_in_inner diagnostic.range.start

-- ---- the line

abbrev pub type_in : LineHead → Option (List ℕ)
type_in head = shallow_text (shallow_view head.type_name)

abbrev pub kind_in : LineHead → Option Kind
kind_in head = option_map kind_named (type_in head)

abbrev pub time_in : LineHead → Option ℤ
time_in head = type_in head >>= λ name. (shallow_text (shallow_view head.timestamp) >>= instant_of)

abbrev pub version_in : LineSlots → Option (List ℕ)
version_in line = shallow_text (shallow_view line.terraform)
