use Rattle.laws_steps_again.proofs.AllSteps.{completed}
use Rattle.laws_steps_again.proofs.a_recorded_step_that_does_not_fail_completed.Goals as goal

pub returns : goal.returns
returns _ work n c k begun recorded id run again less ran goes_on = completed work n begun recorded id again c k run less ran goes_on
