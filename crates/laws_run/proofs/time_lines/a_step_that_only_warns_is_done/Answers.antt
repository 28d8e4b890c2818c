use Rattle.laws_run.proofs.OnlyWarning.{is_done}
use Rattle.laws_run.proofs.time_lines.a_step_that_only_warns_is_done.Goals as goal

pub returns : goal.returns
returns c = is_done
