-- The values of slots are the members of the tree: for tools that read by slots, and prove by trees.
use Rattle.std.proofs.Common.{◌≡◌, arith, length, ℕ, List, codes, true, Option, Some, None, refl, sym, ap, ◌∙◌}
use Rattle.std.specs.Prelude.{option_map}
use Rattle.serde_json.specs.Data.{Data, null, boolean, number, string, array, object}
use Rattle.serde_json.specs.Find.{get_member}
use Rattle.apply_json.specs.declared.json_fault.JsonFault.{JsonFault}
use Rattle.apply_json.specs.declared.json_fault.JsonFault.TheVariants.{TooLarge, NotJson, Memory}
use Rattle.apply_json.specs.Parsed.{IsNoTree}
use Rattle.apply_json.specs.ShallowView.{ShallowView, members_in, shallow_view, shallow_of, shallow_text, shallow_whole}
use Rattle.apply_json.specs.Tree.{◌>>=◌, member_of, text_of, tree_of, unless_null}
use Rattle.apply_json.proofs.Held.{member_in, text_in, whole_in}
use Rattle.stream_message.specs.declared.hook_slots.HookSlots.{HookSlots}
use Rattle.stream_message.specs.declared.inner_slot.InnerSlot.{InnerSlot}
use Rattle.stream_message.specs.declared.line_head.LineHead.{LineHead}
use Rattle.stream_message.specs.declared.line_slots.LineSlots.{LineSlots}
use Rattle.stream_message.specs.declared.presence.Presence.{Presence}
use Rattle.stream_message.specs.declared.selection.Selection.{Selection}
use Rattle.stream_message.specs.Kinds.{kind_named}
use Rattle.stream_message.specs.Members.{address_of, changes_count, changes_text, count_of, diagnostic_file, diagnostic_line, diagnostic_text, file_of, hook_count, hook_text, kind_of, line_of, message_time, type_of, version_of}
use Rattle.stream_message.specs.Slots.{HoldsHead, HoldsHook, HoldsLine, inner_of, inner_view, inside, shallow_value}
use Rattle.stream_message.specs.SlotValues.{action_in, added_in, address_in, changed_in, detail_in, file_in, imported_in, kind_in, line_in, operation_in, diagnostic_address_in, provisioner_in, removed_in, seconds_in, severity_in, summary_in, text_of_slot, time_in, type_in, version_in, whole_of_slot}
use Rattle.stream_message.specs.Timestamp.{instant_of}

-- ---- a member of a value that was read

-- a text and a number that may be there
pub slot_text : (name : List ℕ) (d : Data) (v : Option ShallowView) → v ≡ shallow_value (get_member name (members_in d)) → text_of_slot v ≡ text_of name d
slot_text name d v is = ap text_of_slot is ∙ each (get_member name (members_in d)) ∙ sym (text_in name d) where
  each : (o : Option Data) → text_of_slot (shallow_value o) ≡ shallow_text (shallow_of o)
  each None = refl
  each (Some d) = refl

pub slot_count : (name : List ℕ) (d : Data) (v : Option ShallowView) → v ≡ shallow_value (get_member name (members_in d)) → whole_of_slot v ≡ count_of name d
slot_count name d v is = ap whole_of_slot is ∙ each (get_member name (members_in d)) ∙ sym (whole_in name d) where
  each : (o : Option Data) → whole_of_slot (shallow_value o) ≡ shallow_whole (shallow_of o)
  each None = refl
  each (Some d) = refl

-- ---- a member of an object that may be missing

-- the object `o`, as it was read: `null` counts as missing
inner_text : (name : List ℕ) (o : Option Data) (v : Option ShallowView) → v ≡ shallow_value (get_member name (inside o)) → text_of_slot v ≡ ((o >>= unless_null) >>= text_of name)
inner_text name None v is = ap text_of_slot is
inner_text name (Some null) v is = ap text_of_slot is
inner_text name (Some (boolean b)) v is = slot_text name (boolean b) v is
inner_text name (Some (number n)) v is = slot_text name (number n) v is
inner_text name (Some (string s)) v is = slot_text name (string s) v is
inner_text name (Some (array ds)) v is = slot_text name (array ds) v is
inner_text name (Some (object ms)) v is = slot_text name (object ms) v is

inner_count : (name : List ℕ) (o : Option Data) (v : Option ShallowView) → v ≡ shallow_value (get_member name (inside o)) → whole_of_slot v ≡ ((o >>= unless_null) >>= count_of name)
inner_count name None v is = ap whole_of_slot is
inner_count name (Some null) v is = ap whole_of_slot is
inner_count name (Some (boolean b)) v is = slot_count name (boolean b) v is
inner_count name (Some (number n)) v is = slot_count name (number n) v is
inner_count name (Some (string s)) v is = slot_count name (string s) v is
inner_count name (Some (array ds)) v is = slot_count name (array ds) v is
inner_count name (Some (object ms)) v is = slot_count name (object ms) v is

inner_shallow : (name : List ℕ) (o : Option Data) (v : ShallowView) → v ≡ shallow_of (get_member name (inside o)) → shallow_text v ≡ ((o >>= unless_null) >>= text_of name)
inner_shallow name None v is = ap shallow_text is
inner_shallow name (Some null) v is = ap shallow_text is
inner_shallow name (Some (boolean b)) v is = ap shallow_text is
inner_shallow name (Some (number n)) v is = ap shallow_text is
inner_shallow name (Some (string s)) v is = ap shallow_text is
inner_shallow name (Some (array ds)) v is = ap shallow_text is
inner_shallow name (Some (object ms)) v is = ap shallow_text is ∙ sym (text_in name (object ms))

-- the object `name` in the object `o`
inner_object : (name : List ℕ) (o : Option Data) → (get_member name (inside o) >>= unless_null) ≡ ((o >>= unless_null) >>= member_of name)
inner_object name None = refl
inner_object name (Some null) = refl
inner_object name (Some (boolean b)) = refl
inner_object name (Some (number n)) = refl
inner_object name (Some (string s)) = refl
inner_object name (Some (array ds)) = refl
inner_object name (Some (object ms)) = refl

inner_slot : (name : List ℕ) (o : Option Data) (slot : InnerSlot) → inner_view slot ≡ inner_of name o → option_map shallow_view slot.value ≡ shallow_value (get_member name (inside o))
inner_slot name o slot is = ap (λ (p : Presence × Option ShallowView). p.1) is

then_then : {A B C : Type 0} (o : Option A) (f : A → Option B) (g : B → Option C) → ((o >>= f) >>= g) ≡ (o >>= λ x. (f x >>= g))
then_then None f g = refl
then_then (Some x) f g = refl

-- ---- the head of a line

module _ (head : LineHead) (d : Data) (holds : HoldsHead head (members_in d)) where
  pub type_is : type_in head ≡ type_of d
  type_is = ap shallow_text holds.type_name ∙ sym (text_in (codes "type") d)

  pub kind_is : kind_in head ≡ kind_of d
  kind_is = ap (option_map kind_named) type_is

  pub time_is : time_in head ≡ message_time d
  time_is =
      ap (λ (o : Option (List ℕ)). o >>= λ name. (shallow_text (shallow_view head.timestamp) >>= instant_of)) type_is
      ∙ ap (λ (o : Option (List ℕ)). type_of d >>= λ name. (o >>= instant_of)) (ap shallow_text holds.timestamp ∙ sym (text_in (codes "@timestamp") d))

-- ---- the address in `hook`, or in `change`

pub slots_address : (slots : HookSlots) (o : Option Data) → HoldsHook slots (inside o) → address_in slots ≡ (((o >>= unless_null) >>= member_of (codes "resource")) >>= text_of (codes "addr"))
slots_address slots o holds =
    inner_text (codes "addr") (get_member (codes "resource") (inside o)) _
    (inner_slot (codes "addr") _ slots.resource holds.resource)
    ∙ ap (λ (p : Option Data). p >>= text_of (codes "addr")) (inner_object (codes "resource") o)

-- ---- the members of a line

module _ (selection : Selection) (line : LineSlots) (d : Data) (holds : HoldsLine selection line (members_in d)) where
  pub version_is : selection.version ≡ true → version_in line ≡ version_of d
  version_is selected = ap shallow_text (holds.terraform selected) ∙ sym (text_in (codes "terraform") d)

  -- ---- `hook`

  module _ (selected : selection.hook ≡ true) where
    hook_text_is : (name : List ℕ) (v : Option ShallowView) → v ≡ shallow_value (get_member name (inside (get_member (codes "hook") (members_in d)))) → text_of_slot v ≡ hook_text name d
    hook_text_is name v is = inner_text name (get_member (codes "hook") (members_in d)) v is ∙ sym (ap (λ (o : Option Data). o >>= text_of name) (member_in (codes "hook") d))

    pub address_is : address_in line.hook ≡ address_of d
    address_is =
        slots_address line.hook (get_member (codes "hook") (members_in d)) (holds.hook selected).1
        ∙ sym (ap (λ (o : Option Data). (o >>= member_of (codes "resource")) >>= text_of (codes "addr")) (member_in (codes "hook") d))

    pub action_is : action_in line.hook ≡ hook_text (codes "action") d
    action_is = hook_text_is (codes "action") _ (holds.hook selected).1.action

    pub provisioner_is : provisioner_in line.hook ≡ hook_text (codes "provisioner") d
    provisioner_is = hook_text_is (codes "provisioner") _ (holds.hook selected).1.provisioner

    pub seconds_is : seconds_in line.hook ≡ hook_count (codes "elapsed_seconds") d
    seconds_is =
        inner_count (codes "elapsed_seconds") (get_member (codes "hook") (members_in d)) _ (holds.hook selected).1.seconds
        ∙ sym (ap (λ (o : Option Data). o >>= count_of (codes "elapsed_seconds")) (member_in (codes "hook") d))

  -- ---- `changes`

  module _ (selected : selection.changes ≡ true) where
    changes_count_is : (name : List ℕ) (v : Option ShallowView) → v ≡ shallow_value (get_member name (inside (get_member (codes "changes") (members_in d)))) → whole_of_slot v ≡ changes_count name d
    changes_count_is name v is = inner_count name (get_member (codes "changes") (members_in d)) v is ∙ sym (ap (λ (o : Option Data). o >>= count_of name) (member_in (codes "changes") d))

    pub operation_is : operation_in line.changes ≡ changes_text (codes "operation") d
    operation_is =
        inner_text (codes "operation") (get_member (codes "changes") (members_in d)) _ (holds.changes selected).1.operation
        ∙ sym (ap (λ (o : Option Data). o >>= text_of (codes "operation")) (member_in (codes "changes") d))

    pub added_is : added_in line.changes ≡ changes_count (codes "add") d
    added_is = changes_count_is (codes "add") _ (holds.changes selected).1.added

    pub changed_is : changed_in line.changes ≡ changes_count (codes "change") d
    changed_is = changes_count_is (codes "change") _ (holds.changes selected).1.changed

    pub removed_is : removed_in line.changes ≡ changes_count (codes "remove") d
    removed_is = changes_count_is (codes "remove") _ (holds.changes selected).1.removed

    pub imported_is : imported_in line.changes ≡ changes_count (codes "import") d
    imported_is = changes_count_is (codes "import") _ (holds.changes selected).1.imported

  -- ---- `diagnostic`

  module _ (selected : selection.diagnostic ≡ true) where
    diagnostic_text_is : (name : List ℕ) (v : Option ShallowView) → v ≡ shallow_value (get_member name (inside (get_member (codes "diagnostic") (members_in d)))) → text_of_slot v ≡ diagnostic_text name d
    diagnostic_text_is name v is = inner_text name (get_member (codes "diagnostic") (members_in d)) v is ∙ sym (ap (λ (o : Option Data). o >>= text_of name) (member_in (codes "diagnostic") d))

    diagnostic_shallow_is : (name : List ℕ) (v : ShallowView) → v ≡ shallow_of (get_member name (inside (get_member (codes "diagnostic") (members_in d)))) → shallow_text v ≡ diagnostic_text name d
    diagnostic_shallow_is name v is = inner_shallow name (get_member (codes "diagnostic") (members_in d)) v is ∙ sym (ap (λ (o : Option Data). o >>= text_of name) (member_in (codes "diagnostic") d))

    pub severity_is : severity_in line.diagnostic ≡ diagnostic_text (codes "severity") d
    severity_is = diagnostic_text_is (codes "severity") _ (holds.diagnostic selected).1.severity

    -- the address of the resource that the diagnostic is about
    pub diagnostic_address_is : diagnostic_address_in line.diagnostic ≡ diagnostic_text (codes "address") d
    diagnostic_address_is = diagnostic_text_is (codes "address") _ (holds.diagnostic selected).1.address

    module _ (texts : selection.diagnostic_texts ≡ true) where
      pub summary_is : summary_in line.diagnostic ≡ diagnostic_text (codes "summary") d
      summary_is = diagnostic_shallow_is (codes "summary") _ ((holds.diagnostic selected).1.summary texts)

      pub detail_is : detail_in line.diagnostic ≡ diagnostic_text (codes "detail") d
      detail_is = diagnostic_shallow_is (codes "detail") _ ((holds.diagnostic selected).1.detail texts)

      pub file_is : file_in line.diagnostic ≡ diagnostic_file d
      file_is =
          inner_shallow (codes "filename") (get_member (codes "range") (inside (get_member (codes "diagnostic") (members_in d)))) _ ((holds.diagnostic selected).1.range texts).filename
          ∙ ap (λ (o : Option Data). o >>= text_of (codes "filename")) (inner_object (codes "range") (get_member (codes "diagnostic") (members_in d)))
          ∙ then_then (get_member (codes "diagnostic") (members_in d) >>= unless_null) (member_of (codes "range")) (text_of (codes "filename"))
          ∙ sym (ap (λ (o : Option Data). o >>= file_of) (member_in (codes "diagnostic") d))

      pub line_is : line_in line.diagnostic ≡ diagnostic_line d
      line_is =
          inner_count (codes "line") (get_member (codes "start") (inside (get_member (codes "range") (inside (get_member (codes "diagnostic") (members_in d)))))) _
          (inner_slot (codes "line") _ line.diagnostic.range.start ((holds.diagnostic selected).1.range texts).start)
          ∙ ap (λ (o : Option Data). o >>= count_of (codes "line")) (inner_object (codes "start") (get_member (codes "range") (inside (get_member (codes "diagnostic") (members_in d)))))
          ∙ ap (λ (o : Option Data). (o >>= member_of (codes "start")) >>= count_of (codes "line")) (inner_object (codes "range") (get_member (codes "diagnostic") (members_in d)))
          ∙ each (get_member (codes "diagnostic") (members_in d) >>= unless_null)
          ∙ sym (ap (λ (o : Option Data). o >>= line_of) (member_in (codes "diagnostic") d)) where
            each : (o : Option Data) → (((o >>= member_of (codes "range")) >>= member_of (codes "start")) >>= count_of (codes "line")) ≡ (o >>= line_of)
            each None = refl
            each (Some m) = refl

-- ---- texts

-- a text with a fault that is not want of memory has no tree
pub no_tree : (fault : JsonFault) (text : List ℕ) → (fault ≡ Memory → ⊥) → IsNoTree (length text) fault text → tree_of text ≡ None
no_tree TooLarge text never is = absurd (omega (arith, is))
no_tree NotJson text never is = is.1
no_tree Memory text never is = absurd (never refl)

-- the timestamp of the message in a text that was read
pub text_time_is : (head : LineHead) (text : List ℕ) → (d : Data) × (tree_of text ≡ Some d) × HoldsHead head (members_in d) → time_in head ≡ (tree_of text >>= message_time)
text_time_is head text read = time_is head read.0 read.2 ∙ sym (ap (λ (o : Option Data). o >>= message_time) read.1)
