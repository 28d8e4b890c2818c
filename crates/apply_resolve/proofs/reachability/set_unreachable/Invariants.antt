use Rattle.std.proofs.Common.{◌≡◌, length}
use Rattle.apply_resolve.specs.VisitStates.{with_unreachable}
use Rattle.apply_resolve.proofs.Marked.{steps_left}
use Rattle.apply_resolve.proofs.reachability.set_unreachable.Given as goal

abbrev pub invariant-loop-visit : goal.invariant-loop-visit
invariant-loop-visit l = (length l.states ≡ length l.fn.states) × (with_unreachable l.states (steps_left l.visit-index l.path) ≡ with_unreachable l.fn.states (steps_left 0 l.path))
