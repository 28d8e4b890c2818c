-- What a reader has stored of the items of `planning`, for private types.
use Rattle.std.specs.Prelude.{◌≡◌, codes, map}
use Rattle.serde_json.specs.Data.{Members}
use Rattle.serde_json.specs.Find.{get_member}
use Rattle.apply_plan.specs.Script.EntriesView.{entries_in, kind_of}
use Rattle.apply_planning_script.specs.declared.planning_slots.PlanningSlots.{PlanningSlots}
use Rattle.apply_planning_script.specs.declared.raw_items.RawItems.{RawItems}
use Rattle.apply_planning_script.specs.ItemSlots.{item_view}
use Rattle.apply_planning_script.specs.Planning.{ReadItems, items_in}

-- contracts see borrowed items as the items that they state
abbrev pub read_view : RawItems → ReadItems
read_view items_read = record { items = map item_view items_read.items.items; fault = items_read.fault }

-- the slots of the top level hold what the members state
pub record HoldsPlanning (slots : PlanningSlots) (ms : Members) : Type 0 where
  pub kind : slots.planning ≡ kind_of (get_member (codes "planning") ms)
  pub items : read_view slots.items ≡ items_in (entries_in (get_member (codes "planning") ms))
