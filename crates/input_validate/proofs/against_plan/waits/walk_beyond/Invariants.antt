use Rattle.std.proofs.Common.{◌≡◌, drop, map}
use Rattle.serde_json.specs.View.{view}
use Rattle.input_validate.specs.AgainstPlan.{waits_beyond}
use Rattle.input_validate.proofs.against_plan.waits.walk_beyond.Given as goal

abbrev pub invariant-loop-number : goal.invariant-loop-number
invariant-loop-number l = waits_beyond l.most 0 (map view l.steps) ≡ waits_beyond l.left l.number (map view (drop l.number l.steps))
