-- What the slots of a line hold.
use Rattle.std.specs.Prelude.{◌≡◌, ℕ, List, codes, Bool, true, Option, Some, None, option_map}
use Rattle.serde_json.specs.Data.{Data, null, boolean, number, string, array, object, Members, no_members}
use Rattle.serde_json.specs.Find.{get_member}
use Rattle.apply_json.specs.ShallowView.{ShallowView, members_in, shallow_view, shallow_of}
use Rattle.stream_message.specs.declared.changes_slots.ChangesSlots.{ChangesSlots}
use Rattle.stream_message.specs.declared.diagnostic_slots.DiagnosticSlots.{DiagnosticSlots}
use Rattle.stream_message.specs.declared.hook_slots.HookSlots.{HookSlots}
use Rattle.stream_message.specs.declared.inner_slot.InnerSlot.{InnerSlot}
use Rattle.stream_message.specs.declared.line_head.LineHead.{LineHead}
use Rattle.stream_message.specs.declared.line_slots.LineSlots.{LineSlots}
use Rattle.stream_message.specs.declared.presence.Presence.{Presence}
use Rattle.stream_message.specs.declared.presence.Presence.TheVariants.{Missing, NoObject, Object}
use Rattle.stream_message.specs.declared.range_slots.RangeSlots.{RangeSlots}
use Rattle.stream_message.specs.declared.selection.Selection.{Selection}

-- the members of an optional value; only an object has any
abbrev pub inside : Option Data → Members
inside None = no_members
inside (Some d) = members_in d

-- an optional value without its inner values; it may be `null`
abbrev pub shallow_value : Option Data → Option ShallowView
shallow_value value = option_map (λ d. shallow_of (Some d)) value

-- the presence of an object
abbrev pub presence_of : Option Data → Presence
presence_of None = Missing
presence_of (Some null) = NoObject
presence_of (Some (boolean b)) = NoObject
presence_of (Some (number n)) = NoObject
presence_of (Some (string s)) = NoObject
presence_of (Some (array ds)) = NoObject
presence_of (Some (object ms)) = Object

-- the presence of an object, and its member of that name without inner values
abbrev pub inner_of : (name : List ℕ) → Option Data → Presence × Option ShallowView
inner_of name value = (presence_of value, shallow_value (get_member name (inside value)))

abbrev pub inner_view : InnerSlot → Presence × Option ShallowView
inner_view slot = (slot.is, option_map shallow_view slot.value)

pub record HoldsHook (slots : HookSlots) (ms : Members) : Type 0 where
  pub resource : inner_view slots.resource ≡ inner_of (codes "addr") (get_member (codes "resource") ms)
  pub action : option_map shallow_view slots.action ≡ shallow_value (get_member (codes "action") ms)
  pub seconds : option_map shallow_view slots.seconds ≡ shallow_value (get_member (codes "elapsed_seconds") ms)
  pub provisioner : option_map shallow_view slots.provisioner ≡ shallow_value (get_member (codes "provisioner") ms)

pub record HoldsChanges (slots : ChangesSlots) (ms : Members) : Type 0 where
  pub operation : option_map shallow_view slots.operation ≡ shallow_value (get_member (codes "operation") ms)
  pub added : option_map shallow_view slots.added ≡ shallow_value (get_member (codes "add") ms)
  pub changed : option_map shallow_view slots.changed ≡ shallow_value (get_member (codes "change") ms)
  pub removed : option_map shallow_view slots.removed ≡ shallow_value (get_member (codes "remove") ms)
  pub imported : option_map shallow_view slots.imported ≡ shallow_value (get_member (codes "import") ms)

pub record HoldsRange (slots : RangeSlots) (ms : Members) : Type 0 where
  pub filename : shallow_view slots.filename ≡ shallow_of (get_member (codes "filename") ms)
  pub start : inner_view slots.start ≡ inner_of (codes "line") (get_member (codes "start") ms)

-- the slots of a range that may be missing
abbrev pub IsRange : RangeSlots → Option Data → Type 0
IsRange slots value = HoldsRange slots (inside value)

-- `texts`: whether summary, detail and range are selected
pub record HoldsDiagnostic (texts : Bool) (slots : DiagnosticSlots) (ms : Members) : Type 0 where
  pub severity : option_map shallow_view slots.severity ≡ shallow_value (get_member (codes "severity") ms)
  pub address : option_map shallow_view slots.address ≡ shallow_value (get_member (codes "address") ms)
  pub summary : texts ≡ true → shallow_view slots.summary ≡ shallow_of (get_member (codes "summary") ms)
  pub detail : texts ≡ true → shallow_view slots.detail ≡ shallow_of (get_member (codes "detail") ms)
  pub range : texts ≡ true → IsRange slots.range (get_member (codes "range") ms)

-- the slots of an object that may be missing
abbrev pub IsHook : HookSlots → Option Data → Type 0
IsHook slots value = (slots.is ≡ presence_of value) × HoldsHook slots (inside value)

abbrev pub AreChanges : ChangesSlots → Option Data → Type 0
AreChanges slots value = (slots.is ≡ presence_of value) × HoldsChanges slots (inside value)

abbrev pub IsDiagnostic : (texts : Bool) → DiagnosticSlots → Option Data → Type 0
IsDiagnostic texts slots value = (slots.is ≡ presence_of value) × HoldsDiagnostic texts slots (inside value)

pub record HoldsHead (slots : LineHead) (ms : Members) : Type 0 where
  pub type_name : shallow_view slots.type_name ≡ shallow_of (get_member (codes "type") ms)
  pub timestamp : shallow_view slots.timestamp ≡ shallow_of (get_member (codes "@timestamp") ms)

-- the slots hold the selected members
pub record HoldsLine (selection : Selection) (slots : LineSlots) (ms : Members) : Type 0 where
  pub selection_is : slots.selection ≡ selection
  pub head : HoldsHead slots.head ms
  pub terraform : selection.version ≡ true → shallow_view slots.terraform ≡ shallow_of (get_member (codes "terraform") ms)
  pub hook : selection.hook ≡ true → IsHook slots.hook (get_member (codes "hook") ms)
  pub change : selection.change ≡ true → IsHook slots.change (get_member (codes "change") ms)
  pub changes : selection.changes ≡ true → AreChanges slots.changes (get_member (codes "changes") ms)
  pub diagnostic : selection.diagnostic ≡ true
      → IsDiagnostic selection.diagnostic_texts slots.diagnostic (get_member (codes "diagnostic") ms)
