use Rattle.std.proofs.Common.{◌++◌, ◌∷◌, [], List, ap, sym, ◌∙◌, subst}
use Rattle.apply_events.specs.declared.event.Event.{Event}
use Rattle.apply_bus.specs.Bus.{Sender}
use Rattle.apply_bus.specs.BusEnds.{IsOpen}
use Rattle.apply_bus.specs.contracts.tx.Tx.{the_view}
use Rattle.apply_bus.proofs.Sent.{after_event}
use Rattle.apply_bus.proofs.tx.Tx.send.Goals as goal
use Rattle.apply_bus.proofs.tx.Tx.send.Goals.{then-send_item, else-send_item}

pub invariant_of-self : goal.invariant_of-self
invariant_of-self g c = (
  c.send_item.ensures.seat,
  elim c.if-send_item.branch [
    | then-send_item w ↦ (after_event _ _ _ _ c.self.invariant.1 w.if-send_item.ensures.sent).0
    | else-send_item w ↦ subst (IsOpen c.self.inside.worker) (sym w.if-send_item.ensures.sent) c.self.invariant.1
  ],
)

pub returns-clause-ok : goal.returns-clause-ok
returns-clause-ok g c = elim c.if-send_item.branch [
  | then-send_item w ↦ rw w.result-is (
      let was : Sender = the_view c.self.inside in
      ap (λ (l : List Event). record was { sent = l }) (after_event _ _ _ _ c.self.invariant.1 w.if-send_item.ensures.sent).1 ∙ ap (λ (s : Sender). record s { sent = s.sent ++ c.args.event ∷ [] }) c.self.view_is
      )
  | else-send_item w ↦ rw w.result-is tt
]
