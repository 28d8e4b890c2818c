use Rattle.std.proofs.Common.{ap}
use Rattle.apply_bus.specs.declared.bus_rule.Knowledge.{Knowledge}
use Rattle.apply_bus.proofs.BusSteps.{begins, adds}
use Rattle.apply_bus.proofs.opening.open.Goals as goal

pub bounded_with-requires-clause-rule : goal.bounded_with-requires-clause-rule
bounded_with-requires-clause-rule c = begins

pub another-theirs-requires-clause-rule : goal.another-theirs-requires-clause-rule
another-theirs-requires-clause-rule c = adds _ _ (ap (λ (v : Knowledge). v.receives) c.loop-worker.invariant.seen)
