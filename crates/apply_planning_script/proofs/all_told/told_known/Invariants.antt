use Rattle.std.proofs.Common.{◌≡◌, ◌+◌, ◌++◌, drop, length, map}
use Rattle.std.specs.List.{flat_map, zip}
use Rattle.std.specs.Vec.Iter.{into_iter_items, into_iter_len}
use Rattle.apply_planning_script.specs.Decisions.{told_decided}
use Rattle.apply_planning_script.specs.ItemSlots.{item_view}
use Rattle.apply_planning_script.specs.Told.{object_view, told_view}
use Rattle.apply_planning_script.proofs.all_told.told_known.Given as goal

abbrev pub invariant-loop-object : goal.invariant-loop-object
invariant-loop-object l = record {
  told_are : map told_view l.told.items ++ flat_map (λ p. told_decided (map item_view l.items) (object_view p.0) p.1) (zip (into_iter_items l.object-iterator) (drop l.number l.decisions))
      ≡ flat_map (λ p. told_decided (map item_view l.items) (object_view p.0) p.1) (zip l.fn.objects.items l.decisions);
  left : l.number + length (into_iter_items l.object-iterator) ≡ length l.decisions;
  counted : into_iter_len l.object-iterator ≡ length (into_iter_items l.object-iterator);
}
