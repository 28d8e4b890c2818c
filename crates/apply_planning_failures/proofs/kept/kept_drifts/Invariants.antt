use Rattle.std.proofs.Common.{◌≡◌, Bool, map}
use Rattle.apply_prior.specs.declared.drift.Drift.{Drift}
use Rattle.apply_planning_failures.specs.LostObjects.{HasLost}
use Rattle.apply_planning_failures.specs.Planning.{Planning}
use Rattle.apply_planning_failures.proofs.ToldChanges.{first_kept}
use Rattle.apply_planning_failures.proofs.kept.kept_drifts.Given as goal

abbrev pub invariant-loop-number : goal.invariant-loop-number
invariant-loop-number l = (failed : Bool) (planning : Planning) → HasLost failed planning l.lost → l.numbers.items ≡ first_kept failed planning (map (λ (d : Drift). d.change) l.drifts) l.number
