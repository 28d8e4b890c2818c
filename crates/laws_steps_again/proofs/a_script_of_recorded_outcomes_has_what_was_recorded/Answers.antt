use Rattle.laws_steps_again.proofs.Retold.{has_recorded}
use Rattle.laws_steps_again.proofs.a_script_of_recorded_outcomes_has_what_was_recorded.Goals as goal

pub returns : goal.returns
returns c = λ work n begun recorded id other again states. has_recorded work n begun recorded id again other states
