-- The members of an item as slots store them, for private types.
use Rattle.std.specs.Prelude.{◌≡◌, [], codes, Option, option_map}
use Rattle.std.specs.Option.{option_copied}
use Rattle.serde_json.specs.Data.{Members}
use Rattle.serde_json.specs.Find.{get_member}
use Rattle.apply_json.specs.ShallowView.{shallow_of, shallow_text_or, shallow_view}
use Rattle.apply_json.specs.Tree.{◌>>=◌, unless_empty}
use Rattle.apply_plan.specs.FilledText.{filled_read}
use Rattle.apply_plan.specs.Script.Members.{failure_member, failure_option_view, flag_read, number_read}
use Rattle.apply_plan.specs.Script.RawView.{failure_view}
use Rattle.apply_planning_script.specs.declared.item_slots.ItemSlots.{ItemSlots}
use Rattle.apply_planning_script.specs.declared.raw_item.RawItem.{RawItem}
use Rattle.apply_planning_script.specs.Items.{Item, item_with, object_of_item}
use Rattle.apply_planning_script.specs.Objects.{ObjectName}

-- the slots hold what the members state
pub record HoldsItem (slots : ItemSlots) (ms : Members) : Type 0 where
  pub address : shallow_view slots.address ≡ shallow_of (get_member (codes "address") ms)
  pub deposed : shallow_view slots.deposed ≡ shallow_of (get_member (codes "deposed") ms)
  pub seconds : shallow_view slots.seconds ≡ shallow_of (get_member (codes "seconds") ms)
  pub id : shallow_view slots.id ≡ shallow_of (get_member (codes "id") ms)
  pub failed : failure_option_view slots.failed ≡ failure_member (get_member (codes "failed") ms)
  pub gone : shallow_view slots.gone ≡ shallow_of (get_member (codes "gone") ms)
  pub skipped : shallow_view slots.skipped ≡ shallow_of (get_member (codes "skipped") ms)

-- the item of the slots; none if a member is invalid or missing
abbrev pub item_read : ItemSlots → Option Item
item_read slots = do
  address ← filled_read (shallow_view slots.address)
  deposed ← shallow_text_or [] (shallow_view slots.deposed)
  id ← shallow_text_or [] (shallow_view slots.id)
  seconds ← number_read (shallow_view slots.seconds)
  is_gone ← flag_read (shallow_view slots.gone)
  is_skipped ← flag_read (shallow_view slots.skipped)
  failure ← failure_option_view slots.failed
  item_with address (unless_empty deposed) (unless_empty id) seconds is_gone is_skipped failure

-- contracts see a borrowed item as the item that it states
abbrev pub item_view : RawItem → Item
item_view item = record {
  address = item.address.now;
  deposed = option_copied item.deposed;
  seconds = item.seconds;
  id = option_copied item.id;
  failure = option_map failure_view item.failure;
  is_gone = item.is_gone;
  is_skipped = item.is_skipped;
}

-- the object that a borrowed item is about
abbrev pub object_of_raw : RawItem → ObjectName
object_of_raw item = object_of_item (item_view item)
