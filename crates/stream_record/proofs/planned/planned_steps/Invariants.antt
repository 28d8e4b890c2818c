use Rattle.std.proofs.Common.{◌≡◌, ◌++◌, drop}
use Rattle.stream_record.specs.EvenScript.{planned_from, planned_steps}
use Rattle.stream_record.proofs.planned.planned_steps.Given as goal

abbrev pub invariant-loop-number : goal.invariant-loop-number
invariant-loop-number l = l.steps.items ++ planned_from l.number (drop l.number l.plan.changes) ≡ planned_steps l.plan.changes
