use Rattle.std.proofs.Common.{◌≡◌, ◌++◌, length}
use Rattle.apply_plan_terraform.specs.StoredOutputs.{members_view}
use Rattle.apply_plan_terraform.specs.Outputs.{as_outputs}
use Rattle.apply_plan_terraform.proofs.written.as_outputs.Given as goal

abbrev pub invariant-loop-name : goal.invariant-loop-name
invariant-loop-name l = as_outputs (members_view l.initial.collected.entries) ≡ l.outputs.items ++ as_outputs (members_view l.collected.entries)

abbrev pub decreases-loop-name : goal.decreases-loop-name
decreases-loop-name l = length l.collected.entries
