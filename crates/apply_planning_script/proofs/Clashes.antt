-- Members of an item that do not go together.
use Rattle.std.proofs.Common.{◌≡◌, ℕ, Bool, true, false, List, [], Option, Some, None, option_map, refl, sym, ap}
use Rattle.std.specs.Prelude.{is_some, unwrap_or}
use Rattle.std.specs.Borrow.{Bor}
use Rattle.std.specs.Option.{option_copied, option_zip}
use Rattle.apply_json.specs.ShallowView.{shallow_text_or, shallow_view}
use Rattle.apply_json.specs.Tree.{unless_empty}
use Rattle.apply_plan.specs.FilledText.{filled_read}
use Rattle.apply_plan.specs.declared.script.raw_failure.RawFailure.{RawFailure}
use Rattle.apply_plan.specs.Script.Entry.{Failure}
use Rattle.apply_plan.specs.Script.Members.{flag_read, number_read}
use Rattle.apply_plan.specs.Script.RawView.{failure_view}
use Rattle.apply_planning_script.specs.declared.item_slots.ItemSlots.{ItemSlots}
use Rattle.apply_planning_script.specs.ItemSlots.{item_read}
use Rattle.apply_planning_script.specs.Items.{Item, do_clash, item_with}

-- the same of borrowed members
pub clash_is : (id : Option (Bor (List ℕ))) (failure : Option RawFailure) (seconds : Option ℕ) (is_gone is_skipped has_id fails result : Bool) → has_id ≡ is_some id → fails ≡ is_some failure
    → result ≡ do_clash seconds has_id fails is_gone is_skipped → result ≡ do_clash seconds (is_some (option_copied id)) (is_some (option_map failure_view failure)) is_gone is_skipped
clash_is None None seconds is_gone is_skipped has_id fails result a b is = rw (a, b) at is
clash_is None (Some f) seconds is_gone is_skipped has_id fails result a b is = rw (a, b) at is
clash_is (Some i) None seconds is_gone is_skipped has_id fails result a b is = rw (a, b) at is
clash_is (Some i) (Some f) seconds is_gone is_skipped has_id fails result a b is = rw (a, b) at is

abbrev item_made : (address : List ℕ) (deposed id : Option (List ℕ)) (seconds : ℕ) (is_gone is_skipped : Bool) (failure : Option Failure) → Item
item_made address deposed id seconds is_gone is_skipped failure = record {
  address = address;
  deposed = deposed;
  seconds = seconds;
  id = id;
  failure = failure;
  is_gone = is_gone;
  is_skipped = is_skipped;
}

module _ (address : List ℕ) (deposed id : Option (List ℕ)) (seconds : Option ℕ) (is_gone is_skipped : Bool) (failure : Option Failure) where
  pub clashed : do_clash seconds (is_some id) (is_some failure) is_gone is_skipped ≡ true → None ≡ item_with address deposed id seconds is_gone is_skipped failure
  clashed is = rw is refl

  pub made : (n : ℕ) → do_clash seconds (is_some id) (is_some failure) is_gone is_skipped ≡ false → n ≡ unwrap_or seconds 0
      → Some (item_made address deposed id n is_gone is_skipped failure) ≡ item_with address deposed id seconds is_gone is_skipped failure
  made n is time = rw (is, time) refl

-- ---- members that are all valid

pub zip_some : {A B : Type 0} (o : Option A) (p : Option B) (x : A) (y : B) → Some (x, y) ≡ option_zip o p → (o ≡ Some x) × (p ≡ Some y)
zip_some None p x y is = absurd cc
zip_some (Some a) None x y is = absurd cc
zip_some {A} {B} (Some a) (Some b) x y is =
    let same : (x, y) ≡ (a, b) = inside is in
    (ap (λ (q : A × B). Some q.0) (sym same), ap (λ (q : A × B). Some q.1) (sym same))
  where
    inside : {C : Type 0} {u v : C} → Some u ≡ Some v → u ≡ v
    inside e = cc

pub members_are : (slots : ItemSlots) (address deposed id : List ℕ) (seconds : Option ℕ) (is_gone is_skipped : Bool) (failure : Option RawFailure)
    → filled_read (shallow_view slots.address) ≡ Some address → shallow_text_or [] (shallow_view slots.deposed) ≡ Some deposed → shallow_text_or [] (shallow_view slots.id) ≡ Some id
    → number_read (shallow_view slots.seconds) ≡ Some seconds → flag_read (shallow_view slots.gone) ≡ Some is_gone → flag_read (shallow_view slots.skipped) ≡ Some is_skipped → slots.failed ≡ Some failure
    → item_with address (unless_empty deposed) (unless_empty id) seconds is_gone is_skipped (option_map failure_view failure) ≡ item_read slots
members_are slots address deposed id seconds is_gone is_skipped failure a d i s g k f = rw (a, d, i, s, g, k, f) refl
