use Rattle.std.proofs.Common.{◌≡◌, ◌<◌, arith, subst, sym}
use Rattle.apply_bus.specs.Bus.{Receiver}
use Rattle.apply_bus.specs.Items.{close_count, closes}
use Rattle.apply_bus.proofs.Items.{close_le}
use Rattle.apply_bus.proofs.Taking.{counts_on, no_sent_lists_yet, receives_on}
use Rattle.apply_bus.proofs.rx.Rx.take.Goals as goal

pub invariant_of-self : goal.invariant_of-self
invariant_of-self g c =
    let missing = c.self.invariant.1.missing in
    let some = subst (λ (r : Receiver). closes r.taken < r.workers) (sym c.self.view_is) c.requires in
    let one = close_le c.in-Ok.item in
    let same : c.close_count.result ≡ close_count c.in-Ok.item = c.close_count.ensures in (
      c.take_item.ensures.seat,
      receives_on _ _ _ _ _ c.self.invariant.1 c.in-Ok.ensures.taken (omega arith),
      counts_on _ _ _ _ c.self.invariant.2 c.in-Ok.ensures.taken c.if-self-ge-MAX_TAKEN.false,
      no_sent_lists_yet _ _ _ c.self.invariant.3 c.in-Ok.ensures.taken,
    )
