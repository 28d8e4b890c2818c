use Rattle.std.proofs.Common.{◌≡◌, Bool}
use Rattle.apply_planning_failures.specs.LostObjects.{HasLost}
use Rattle.apply_planning_failures.specs.Planning.{Planning}
use Rattle.apply_planning_failures.proofs.ToldChanges.{first_kept}
use Rattle.apply_planning_failures.proofs.kept.kept_changes.Given as goal

abbrev pub invariant-loop-number : goal.invariant-loop-number
invariant-loop-number l = (failed : Bool) (planning : Planning) → HasLost failed planning l.lost → l.numbers.items ≡ first_kept failed planning l.plan.changes l.number
