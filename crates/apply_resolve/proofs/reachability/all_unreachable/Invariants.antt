use Rattle.std.proofs.Common.{◌≡◌}
use Rattle.apply_resolve.specs.VisitStates.{AreSettled}
use Rattle.apply_resolve.specs.Unreachable.{is_unreachable_at, numbers_from}
use Rattle.apply_resolve.proofs.Unreachable.{with_rest}
use Rattle.apply_resolve.proofs.reachability.all_unreachable.Given as goal

abbrev pub invariant-loop-number : goal.invariant-loop-number
invariant-loop-number l = AreSettled l.script l.states × (with_rest l.script l.unreachable.items l.number l.entries ≡ numbers_from 0 (is_unreachable_at l.script) l.entries)
