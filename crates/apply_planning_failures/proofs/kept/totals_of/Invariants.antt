use Rattle.std.proofs.Common.{◌≡◌, ◌*◌, Bool}
use Rattle.std.specs.List.{filter_map}
use Rattle.apply_text_planning.specs.Totals.{IsAtMost, planned_totals}
use Rattle.apply_planning_failures.specs.LostObjects.{HasLost}
use Rattle.apply_planning_failures.specs.Planning.{Planning}
use Rattle.apply_planning_failures.specs.PlansPart.{details_at}
use Rattle.apply_planning_failures.proofs.ToldChanges.{first_kept}
use Rattle.apply_planning_failures.proofs.kept.totals_of.Given as goal

abbrev pub invariant-loop-number : goal.invariant-loop-number
invariant-loop-number l = IsAtMost (l.number * 2) l.totals × ((failed : Bool) (planning : Planning) → HasLost failed planning l.lost
    → l.totals ≡ planned_totals (filter_map (details_at l.plan.changes l.details) (first_kept failed planning l.plan.changes l.number)))
