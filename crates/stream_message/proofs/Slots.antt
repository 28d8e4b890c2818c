-- The contents of the slots after one more member, which has a slot or has none.
use Rattle.std.proofs.Common.{◌≡◌, ℕ, List, Bool, true, false, codes, Option, option_map, refl, subst}
use Rattle.std.specs.Str.{bytes_eq}
use Rattle.serde_json.specs.Data.{Data, Members, put}
use Rattle.serde_json.specs.Find.{get_member}
use Rattle.apply_json.specs.ShallowView.{shallow_view, shallow_of}
use Rattle.apply_json.proofs.Held.{left}
use Rattle.apply_json.proofs.OneMember.{after_member, located_after}
use Rattle.stream_message.specs.declared.changes_slots.ChangesSlots.{ChangesSlots}
use Rattle.stream_message.specs.declared.diagnostic_slots.DiagnosticSlots.{DiagnosticSlots}
use Rattle.stream_message.specs.declared.hook_slots.HookSlots.{HookSlots}
use Rattle.stream_message.specs.declared.line_head.LineHead.{LineHead}
use Rattle.stream_message.specs.declared.line_slots.LineSlots.{LineSlots}
use Rattle.stream_message.specs.declared.range_slots.RangeSlots.{RangeSlots}
use Rattle.stream_message.specs.declared.selection.Selection.{Selection}
use Rattle.stream_message.specs.Selected.{is_selected}
use Rattle.stream_message.specs.Slots.{AreChanges, HoldsChanges, HoldsDiagnostic, HoldsHead, HoldsHook, HoldsLine, HoldsRange, IsDiagnostic, IsHook, IsRange, inner_of, inner_view, shallow_value}

-- ---- the test of a name

pub selected_name : (selected : Bool) (k q : List ℕ) → is_selected selected k q ≡ true → bytes_eq k q ≡ true
selected_name true k q is = is
selected_name false k q is = absurd cc

pub other_name : (selected : Bool) (k q : List ℕ) → is_selected selected k q ≡ false → selected ≡ true → bytes_eq k q ≡ false
other_name true k q is asked = is
other_name false k q is asked = absurd cc

-- ---- a relation between slots and a member

all_after : (P : Option Data → Type 0) (q k name : List ℕ) (d : Data) (ms : Members) → bytes_eq k name ≡ true → P (located_after name d ms q) → P (get_member q (put k d ms))
all_after P q k name d ms here holds = subst P (after_member (λ o. o) q k name d ms (located_after name d ms q) here refl) holds

pub all_left : (P : Option Data → Type 0) (q k : List ℕ) (d : Data) (ms : Members) → bytes_eq k q ≡ false → P (get_member q ms) → P (get_member q (put k d ms))
all_left P q k d ms apart holds = subst P (left (λ o. o) q k d ms (get_member q ms) apart refl) holds

-- ---- a member with a slot

module _ (k q : List ℕ) (d : Data) (ms : Members) (here : bytes_eq k q ≡ true) where
  pub hook_after : (slots : HookSlots) → inner_view slots.resource ≡ inner_of (codes "addr") (located_after q d ms (codes "resource"))
      → option_map shallow_view slots.action ≡ shallow_value (located_after q d ms (codes "action"))
      → option_map shallow_view slots.seconds ≡ shallow_value (located_after q d ms (codes "elapsed_seconds"))
      → option_map shallow_view slots.provisioner ≡ shallow_value (located_after q d ms (codes "provisioner")) → HoldsHook slots (put k d ms)
  hook_after slots resource action seconds provisioner = record {
    resource = after_member (inner_of (codes "addr")) (codes "resource") k q d ms _ here resource;
    action = after_member shallow_value (codes "action") k q d ms _ here action;
    seconds = after_member shallow_value (codes "elapsed_seconds") k q d ms _ here seconds;
    provisioner = after_member shallow_value (codes "provisioner") k q d ms _ here provisioner;
  }

  pub changes_after : (slots : ChangesSlots) → option_map shallow_view slots.operation ≡ shallow_value (located_after q d ms (codes "operation"))
      → option_map shallow_view slots.added ≡ shallow_value (located_after q d ms (codes "add"))
      → option_map shallow_view slots.changed ≡ shallow_value (located_after q d ms (codes "change"))
      → option_map shallow_view slots.removed ≡ shallow_value (located_after q d ms (codes "remove"))
      → option_map shallow_view slots.imported ≡ shallow_value (located_after q d ms (codes "import")) → HoldsChanges slots (put k d ms)
  changes_after slots operation added changed removed imported = record {
    operation = after_member shallow_value (codes "operation") k q d ms _ here operation;
    added = after_member shallow_value (codes "add") k q d ms _ here added;
    changed = after_member shallow_value (codes "change") k q d ms _ here changed;
    removed = after_member shallow_value (codes "remove") k q d ms _ here removed;
    imported = after_member shallow_value (codes "import") k q d ms _ here imported;
  }

  pub range_after : (slots : RangeSlots) → shallow_view slots.filename ≡ shallow_of (located_after q d ms (codes "filename"))
      → inner_view slots.start ≡ inner_of (codes "line") (located_after q d ms (codes "start")) → HoldsRange slots (put k d ms)
  range_after slots filename start = record {
    filename = after_member shallow_of (codes "filename") k q d ms _ here filename;
    start = after_member (inner_of (codes "line")) (codes "start") k q d ms _ here start;
  }

  pub diagnostic_after : (texts : Bool) (slots : DiagnosticSlots) → option_map shallow_view slots.severity ≡ shallow_value (located_after q d ms (codes "severity"))
      → option_map shallow_view slots.address ≡ shallow_value (located_after q d ms (codes "address"))
      → (texts ≡ true → shallow_view slots.summary ≡ shallow_of (located_after q d ms (codes "summary")))
      → (texts ≡ true → shallow_view slots.detail ≡ shallow_of (located_after q d ms (codes "detail")))
      → (texts ≡ true → IsRange slots.range (located_after q d ms (codes "range"))) → HoldsDiagnostic texts slots (put k d ms)
  diagnostic_after texts slots severity address summary detail range = record {
    severity = after_member shallow_value (codes "severity") k q d ms _ here severity;
    address = after_member shallow_value (codes "address") k q d ms _ here address;
    summary = λ asked. after_member shallow_of (codes "summary") k q d ms _ here (summary asked);
    detail = λ asked. after_member shallow_of (codes "detail") k q d ms _ here (detail asked);
    range = λ asked. all_after (IsRange slots.range) (codes "range") k q d ms here (range asked);
  }

  pub head_after : (slots : LineHead) → shallow_view slots.type_name ≡ shallow_of (located_after q d ms (codes "type"))
      → shallow_view slots.timestamp ≡ shallow_of (located_after q d ms (codes "@timestamp")) → HoldsHead slots (put k d ms)
  head_after slots type_name timestamp = record {
    type_name = after_member shallow_of (codes "type") k q d ms _ here type_name;
    timestamp = after_member shallow_of (codes "@timestamp") k q d ms _ here timestamp;
  }

  pub line_after : (selection : Selection) (slots : LineSlots) → slots.selection ≡ selection
      → shallow_view slots.head.type_name ≡ shallow_of (located_after q d ms (codes "type"))
      → shallow_view slots.head.timestamp ≡ shallow_of (located_after q d ms (codes "@timestamp"))
      → (selection.version ≡ true → shallow_view slots.terraform ≡ shallow_of (located_after q d ms (codes "terraform")))
      → (selection.hook ≡ true → IsHook slots.hook (located_after q d ms (codes "hook")))
      → (selection.change ≡ true → IsHook slots.change (located_after q d ms (codes "change")))
      → (selection.changes ≡ true → AreChanges slots.changes (located_after q d ms (codes "changes")))
      → (selection.diagnostic ≡ true → IsDiagnostic selection.diagnostic_texts slots.diagnostic (located_after q d ms (codes "diagnostic")))
      → HoldsLine selection slots (put k d ms)
  line_after selection slots selection_is type_name timestamp terraform hook change changes diagnostic = record {
    selection_is = selection_is;
    head = head_after slots.head type_name timestamp;
    terraform = λ asked. after_member shallow_of (codes "terraform") k q d ms _ here (terraform asked);
    hook = λ asked. all_after (IsHook slots.hook) (codes "hook") k q d ms here (hook asked);
    change = λ asked. all_after (IsHook slots.change) (codes "change") k q d ms here (change asked);
    changes = λ asked. all_after (AreChanges slots.changes) (codes "changes") k q d ms here (changes asked);
    diagnostic = λ asked. all_after (IsDiagnostic selection.diagnostic_texts slots.diagnostic) (codes "diagnostic") k q d ms here (diagnostic asked);
  }
