use Rattle.std.proofs.Common.{List, ap, ◌∙◌}
use Rattle.apply_events.specs.declared.event.Event.{Event}
use Rattle.apply_bus.specs.Bus.{Sender}
use Rattle.apply_bus.specs.contracts.tx.Tx.{the_view}
use Rattle.apply_bus.proofs.Sent.{after_close}
use Rattle.apply_bus.proofs.tx.Tx.close.Goals as goal

pub invariant_of-result : goal.invariant_of-result
invariant_of-result g c = (c.send_item.ensures.seat, (after_close _ _ _ c.self.invariant.1 c.if-send_item.ensures.sent).0)

pub returns-then-send_item-clause-ok : goal.returns-then-send_item-clause-ok
returns-then-send_item-clause-ok g c =
    let was : Sender = the_view c.self.inside in
    ap (λ (l : List Event). record was { sent = l }) (after_close _ _ _ c.self.invariant.1 c.if-send_item.ensures.sent).1 ∙ c.self.view_is
