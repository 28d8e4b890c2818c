use Rattle.std.proofs.Common.{◌≡◌, ◌-◌, []}
use Rattle.apply_bus.specs.Claims.{new_drawers}
use Rattle.apply_bus.specs.ClaimsRule.{hand, new_shares}
use Rattle.apply_bus.proofs.claims.Claims.open.Given as goal

abbrev pub invariant-loop-worker : goal.invariant-loop-worker
invariant-loop-worker l = record {
  at : l.seat.table_id ≡ l.table.shared.table_id;
  left : l.seat.me ≡ (hand (new_shares l.n l.workers l.worker (l.workers - l.worker)), []);
  made : l.drawers.items ≡ new_drawers (record { table = l.table.shared.table_id; limit = l.n; workers = l.workers }) l.worker;
}
