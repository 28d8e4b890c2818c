use Rattle.std.proofs.Common.{length}
use Rattle.apply_plan_terraform.specs.InOrder.{IsAscending}
use Rattle.apply_plan_terraform.proofs.written.is_ascending.Given as goal

abbrev pub invariant-loop-rest : goal.invariant-loop-rest
invariant-loop-rest l = IsAscending l.rest → IsAscending l.outputs

abbrev pub decreases-loop-rest : goal.decreases-loop-rest
decreases-loop-rest l = length l.rest
