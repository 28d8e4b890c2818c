use Rattle.std.proofs.Common.{◌≡◌}
use Rattle.apply_bus_tests.proofs.tests.drawing_in_threads.draw_all.Given as goal

-- The drawer stays one of these claims, and the same worker's.
abbrev pub invariant-loop : goal.invariant-loop
invariant-loop g l = (l.drawer.claims ≡ l.claims) × (l.drawer.claims ≡ l.fn.drawer.claims) × (l.drawer.worker ≡ l.fn.drawer.worker)
