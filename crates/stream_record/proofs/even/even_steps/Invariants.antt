use Rattle.std.proofs.Common.{◌≡◌, ◌+◌, ◌++◌, drop, map}
use Rattle.stream_record.specs.EvenScript.{even_steps}
use Rattle.stream_record.proofs.even.even_steps.Given as goal

abbrev pub invariant-loop-step : goal.invariant-loop-step
invariant-loop-step l =
    l.steps.items ++ even_steps l.planned (map (λ numbers. numbers.items) l.waits) (l.first + l.step) (drop l.step l.kinds)
    ≡ even_steps l.planned (map (λ numbers. numbers.items) l.waits) l.first l.kinds
