use Rattle.std.proofs.Common.{◌≡◌, drop, map}
use Rattle.std.specs.List.{position_from}
use Rattle.std.specs.Option.{option_copied}
use Rattle.serde_json.specs.View.{view}
use Rattle.input_validate.specs.AgainstPlan.{is_waiting}
use Rattle.input_validate.proofs.against_plan.waiting.first_of.Given as goal

abbrev pub invariant-loop-number : goal.invariant-loop-number
invariant-loop-number l =
    position_from (is_waiting (option_copied l.planned)) 0 (map view l.steps)
    ≡ position_from (is_waiting (option_copied l.planned)) l.number (map view (drop l.number l.steps))
