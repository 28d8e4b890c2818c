use Rattle.std.proofs.Common.{◌≡◌, sum_by, take}
use Rattle.apply_planning.specs.declared.told.Told.{Told}
use Rattle.apply_planning_tests.proofs.tests.takes_little.Given as goal

abbrev pub invariant-loop-one : goal.invariant-loop-one
invariant-loop-one g l = l.seconds ≡ sum_by (λ (x : Told). x.seconds) (take l.one-index l.told)
