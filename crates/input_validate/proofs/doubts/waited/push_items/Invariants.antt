use Rattle.std.proofs.Common.{◌≡◌, ◌++◌, drop, map, option_map}
use Rattle.serde_json.specs.View.{view}
use Rattle.input_validate.specs.AgainstPlan.{object_named}
use Rattle.input_validate.specs.ObjectNames.{name_view}
use Rattle.input_validate.proofs.doubts.waited.push_items.Given as goal

abbrev pub invariant-loop-item : goal.invariant-loop-item
invariant-loop-item l =
    map (option_map name_view) l.names.items ++ map object_named (map view (drop l.item-index l.items))
    ≡ map (option_map name_view) l.initial.names.items ++ map object_named (map view l.items)
