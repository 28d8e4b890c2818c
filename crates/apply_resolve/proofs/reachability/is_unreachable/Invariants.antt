use Rattle.std.proofs.Common.{◌≡◌, false}
use Rattle.apply_resolve.specs.VisitStates.{AreSettled}
use Rattle.apply_resolve.proofs.Unreachable.{unreachable_below}
use Rattle.apply_resolve.proofs.reachability.is_unreachable.Given as goal

abbrev pub invariant-loop-step : goal.invariant-loop-step
invariant-loop-step l = AreSettled l.script l.states × (unreachable_below l.script l.change l.step ≡ false)
