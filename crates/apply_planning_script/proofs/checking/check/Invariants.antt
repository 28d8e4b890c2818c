use Rattle.std.proofs.Common.{◌≡◌, [], drop, map, take}
use Rattle.apply_planning_script.specs.ItemSlots.{item_view, object_of_raw}
use Rattle.apply_planning_script.specs.Planning.{first_fault, is_known}
use Rattle.apply_planning_script.specs.SeenItems.{HaveSeen}
use Rattle.apply_planning_script.proofs.checking.check.Given as goal

abbrev pub invariant-loop-number : goal.invariant-loop-number
invariant-loop-number l = record {
  known_are : l.known.items ≡ map (λ item. is_known l.objects (object_of_raw item)) (take l.number l.items);
  seen_are : HaveSeen l.seen (map item_view (take l.number l.items));
  so_far : first_fault l.objects [] (map item_view l.items) ≡ first_fault l.objects (map item_view (take l.number l.items)) (map item_view (drop l.number l.items));
}
