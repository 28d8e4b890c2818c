use Rattle.std.proofs.Common.{sym, ap, ◌∙◌, subst}
use Rattle.apply_bus.specs.declared.bus_rule.Knowledge.{Knowledge}
use Rattle.apply_bus.specs.BusEnds.{IsOpen}
use Rattle.apply_bus.specs.BusRule.{after_send}
use Rattle.apply_bus.specs.Items.{worker_of}
use Rattle.apply_bus.proofs.Sent.{sends_item}
use Rattle.apply_bus.proofs.sending.send_item.Goals as goal

pub try_send_as-requires-clause-rule : goal.try_send_as-requires-clause-rule
try_send_as-requires-clause-rule g c = (sends_item _ _ _ _ (subst (IsOpen (worker_of c.args.item)) (sym c.loop.invariant.same) c.requires.sender), λ items views h at. tt)

-- the item was sent once
pub returns-in-Ok-clause-sent : goal.returns-in-Ok-clause-sent
returns-in-Ok-clause-sent g c = c.in-Ok.ensures.rule ∙ ap (λ (v : Knowledge). after_send v c.args.item) c.loop.invariant.same
