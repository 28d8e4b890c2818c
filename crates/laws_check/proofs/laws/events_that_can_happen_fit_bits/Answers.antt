use Rattle.laws_check.proofs.SmallNumbers.{fit_bits}
use Rattle.laws_check.proofs.laws.events_that_can_happen_fit_bits.Goals as goal

pub returns : goal.returns
returns c plan script events bounded fit few = fit_bits plan script events bounded fit few
