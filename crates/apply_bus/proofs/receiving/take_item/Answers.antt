use Rattle.std.proofs.Common.{◌≡◌, true, sym, subst, ◌∙◌}
use Rattle.apply_bus.specs.declared.bus_rule.Knowledge.{Knowledge}
use Rattle.apply_bus.proofs.BusSteps.{takes}
use Rattle.apply_bus.proofs.receiving.take_item.Goals as goal

pub try_recv_as-requires-clause-rule : goal.try_recv_as-requires-clause-rule
try_recv_as-requires-clause-rule g c = (takes _ _ (subst (λ (v : Knowledge). v.receives ≡ true) (sym c.loop-pauses.invariant.same) c.requires.receiver), λ x items views h. tt)

pub recv_as-requires-clause-rule : goal.recv_as-requires-clause-rule
recv_as-requires-clause-rule g c = (takes _ _ (subst (λ (v : Knowledge). v.receives ≡ true) (sym c.loop-pauses.invariant.same) c.requires.receiver), λ x items views h. tt)

-- where the senders are gone nothing was taken
pub returns-in-Err-clause-taken : goal.returns-in-Err-clause-taken
returns-in-Err-clause-taken g c = c.in-Err.ensures.rule.0 ∙ c.loop-pauses.invariant.same
