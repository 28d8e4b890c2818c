use Rattle.std.proofs.Common.{◌≡◌, ◌++◌, drop, length}
use Rattle.stream_record_steps.specs.Steps.{planned_from, planned_steps}
use Rattle.stream_record_steps.proofs.planned_step.planned_steps.Given as goal

abbrev pub invariant-loop-change_number : goal.invariant-loop-change_number
invariant-loop-change_number l =
    l.steps.items ++ planned_from l.change_number (length l.steps.items) (drop l.change_number l.plan.changes) ≡ planned_steps l.plan.changes
