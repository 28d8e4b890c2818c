use Rattle.laws_steps_again.proofs.ReadBack.{is_followed}
use Rattle.laws_steps_again.proofs.what_was_read_back_is_followed.Goals as goal

pub returns : goal.returns
returns c = λ work n events reading begun loose notes recorded left read.
    is_followed work n events reading begun loose notes recorded left read c.each_step_is_known_by_its_own_lines.ensures
