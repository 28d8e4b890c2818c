use Rattle.laws_steps_again.proofs.Followable.{followable}
use Rattle.laws_steps_again.proofs.a_run_of_our_own_can_be_followed.Goals as goal

pub returns : goal.returns
returns _ work n events own = followable work n events own
