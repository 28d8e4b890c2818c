use Rattle.std.proofs.Common.{◌≡◌, ◌++◌, map, take}
use Rattle.std.specs.List.{flat_map, zip}
use Rattle.apply_planning_script.specs.ItemSlots.{item_view}
use Rattle.apply_planning_script.specs.Told.{told_unless, told_view}
use Rattle.apply_planning_script.proofs.all_told.add_unknown.Given as goal

abbrev pub invariant-loop-number : goal.invariant-loop-number
invariant-loop-number l =
    map told_view l.told.items ≡ map told_view l.fn.told.items ++ flat_map (λ p. told_unless p.1 (item_view p.0)) (zip (take l.number l.items) (take l.number l.known))
