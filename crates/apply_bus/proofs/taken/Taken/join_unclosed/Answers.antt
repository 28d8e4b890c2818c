use Rattle.std.proofs.Common.{ap, ◌∙◌, subst₂}
use Rattle.apply_bus.specs.declared.bus_rule.Knowledge.{Knowledge}
use Rattle.apply_bus.specs.Bus.{Account, Sender, sent_list_of, IsTakenInPart}
use Rattle.apply_bus.proofs.BusSteps.{joins, looks}
use Rattle.apply_bus.proofs.Settling.{open_part}
use Rattle.apply_bus.proofs.taken.Taken.join_unclosed.Goals as goal

pub absorb-requires-clause-rule : goal.absorb-requires-clause-rule
absorb-requires-clause-rule c = joins _ _ _ _

pub learn_as-requires-clause-rule : goal.learn_as-requires-clause-rule
learn_as-requires-clause-rule c = looks _ _ (ap (λ (v : Knowledge). v.receives) c.absorb.ensures.rule ∙ c.self.invariant.0.receives)

pub returns-clause-part : goal.returns-clause-part
returns-clause-part c = subst₂ (λ (a : Account) (s : Sender). IsTakenInPart a.taken (sent_list_of s)) c.self.view_is c.tx.view_is
    (open_part _ _ _ c.learn_as.ensures.rule.0 _ c.absorb.ensures.rule c.tx.invariant.1 c.learn_as.ensures.rule.1)
