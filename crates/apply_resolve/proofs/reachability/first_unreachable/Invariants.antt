use Rattle.std.proofs.Common.{◌≡◌}
use Rattle.std.specs.List.{position_from}
use Rattle.apply_resolve.specs.VisitStates.{AreSettled}
use Rattle.apply_resolve.specs.Unreachable.{is_unreachable_at}
use Rattle.apply_resolve.proofs.Unreachable.{unreachable_from}
use Rattle.apply_resolve.proofs.reachability.first_unreachable.Given as goal

abbrev pub invariant-loop-number : goal.invariant-loop-number
invariant-loop-number l = AreSettled l.script l.states × (unreachable_from l.script l.number l.entries ≡ position_from (is_unreachable_at l.script) 0 l.entries)
