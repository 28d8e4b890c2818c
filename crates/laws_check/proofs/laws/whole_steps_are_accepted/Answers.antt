use Rattle.laws_check.proofs.Tallies.{whole_steps_accepted}
use Rattle.laws_check.proofs.laws.whole_steps_are_accepted.Goals as goal

pub returns : goal.returns
returns c plans work events ordinary provisioned reads steps = whole_steps_accepted plans work events ordinary provisioned reads steps
