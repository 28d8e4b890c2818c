use Rattle.std.proofs.Common.{◌≡◌, ◌++◌, drop}
use Rattle.stream_record_script.specs.Steps.{by_change}
use Rattle.stream_record_script.proofs.steps.by_change.Given as goal

abbrev pub invariant-loop-number : goal.invariant-loop-number
invariant-loop-number l =
    l.script.items ++ by_change (drop l.number l.plan.changes) l.steps.items ≡ by_change l.plan.changes l.initial.steps.items
