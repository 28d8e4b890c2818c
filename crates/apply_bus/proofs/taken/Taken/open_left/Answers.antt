use Rattle.std.proofs.Common.{subst}
use Rattle.apply_bus.specs.Bus.{Account, NamesWorkersBelow}
use Rattle.apply_bus.proofs.Items.{events_named}
use Rattle.apply_bus.proofs.taken.Taken.open_left.Goals as goal

pub returns-clause-named : goal.returns-clause-named
returns-clause-named c = subst (λ (a : Account). NamesWorkersBelow a.workers a.taken) c.self.view_is (events_named _ _ c.self.invariant.0.named)
