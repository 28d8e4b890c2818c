use Rattle.std.proofs.Common.{◌≡◌, drop, map}
use Rattle.std.specs.List.{list_any}
use Rattle.std.specs.Option.{option_copied}
use Rattle.serde_json.specs.View.{view}
use Rattle.input_validate.specs.AgainstPlan.{is_waited_for}
use Rattle.input_validate.proofs.against_plan.waiting.is_any_waited_for.Given as goal

abbrev pub invariant-loop-item : goal.invariant-loop-item
invariant-loop-item l =
    list_any (is_waited_for (option_copied l.planned)) (map view l.items)
    ≡ list_any (is_waited_for (option_copied l.planned)) (map view (drop l.item-index l.items))
