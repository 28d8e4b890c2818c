use Rattle.std.proofs.Common.{◌≡◌, ◌-◌, ◌≤◌, length}
use Rattle.apply_plan_terraform.specs.StoredOutputs.{members_view}
use Rattle.apply_plan_terraform.specs.Outputs.{fault_of, outputs_view}
use Rattle.apply_plan_terraform.proofs.script_outputs.first_fault.Given as goal

abbrev pub invariant-loop-name : goal.invariant-loop-name
invariant-loop-name l =
    (l.left ≡ length l.name-iterator) × (l.left ≤ l.count)
    × (fault_of (outputs_view l.plan) 0 (members_view l.outputs.entries) ≡ fault_of (outputs_view l.plan) (l.count - l.left) (members_view l.name-iterator))
