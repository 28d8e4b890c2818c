-- What slots hold while they are read.
use Rattle.std.specs.Prelude.{◌≡◌, ℕ, List, Bool, false, if◌then◌else◌, option_map}
use Rattle.std.specs.Str.{bytes_eq}
use Rattle.serde_json.specs.Data.{Members}
use Rattle.serde_json.specs.Find.{get_member}
use Rattle.apply_json.specs.ShallowView.{shallow_view}
use Rattle.stream_message.specs.declared.named_slot.NamedSlot.{NamedSlot}
use Rattle.stream_message.specs.declared.selected_diagnostic.SelectedDiagnostic.{SelectedDiagnostic}
use Rattle.stream_message.specs.Slots.{HoldsDiagnostic, shallow_value}

abbrev pub is_selected : (selected : Bool) → (name member : List ℕ) → Bool
is_selected selected name member = if selected then bytes_eq name member else false

pub record HoldsNamed (name : List ℕ) (slot : NamedSlot) (ms : Members) : Type 0 where
  pub named : slot.name.now ≡ name
  pub value : option_map shallow_view slot.value ≡ shallow_value (get_member name ms)

pub record HoldsSelectedDiagnostic (texts : Bool) (now : SelectedDiagnostic) (ms : Members) : Type 0 where
  pub texts_are : now.texts ≡ texts
  pub holds : HoldsDiagnostic now.texts now.slots ms
