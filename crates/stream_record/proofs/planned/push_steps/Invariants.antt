use Rattle.std.proofs.Common.{◌≡◌, ◌++◌, drop}
use Rattle.stream_record.specs.EvenScript.{steps_from}
use Rattle.stream_record.proofs.planned.push_steps.Given as goal

abbrev pub invariant-loop-step : goal.invariant-loop-step
invariant-loop-step l =
    l.steps.items ++ steps_from l.change l.step (drop l.step l.kinds) ≡ l.initial.steps.items ++ steps_from l.change 0 l.kinds
