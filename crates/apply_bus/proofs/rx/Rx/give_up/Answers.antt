use Rattle.std.proofs.Common.{subst}
use Rattle.apply_bus.specs.Bus.{Receiver, NamesWorkersBelow}
use Rattle.apply_bus.proofs.Items.{events_named}
use Rattle.apply_bus.proofs.rx.Rx.give_up.Goals as goal

pub returns-clause-named : goal.returns-clause-named
returns-clause-named c = subst (λ (r : Receiver). NamesWorkersBelow r.workers r.taken) c.self.view_is (events_named _ _ c.self.invariant.1.named)
