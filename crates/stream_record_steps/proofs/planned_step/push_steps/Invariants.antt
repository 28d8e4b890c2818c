use Rattle.std.proofs.Common.{◌≡◌, ◌++◌, drop, length}
use Rattle.stream_record_steps.specs.Steps.{steps_from}
use Rattle.stream_record_steps.proofs.planned_step.push_steps.Given as goal

abbrev pub invariant-loop-number : goal.invariant-loop-number
invariant-loop-number l =
    l.steps.items ++ steps_from l.change l.change_number l.number (length l.steps.items) (drop l.number l.kind-items)
    ≡ l.initial.steps.items ++ steps_from l.change l.change_number 0 (length l.initial.steps.items) l.kind-items
