use Rattle.stream_check.proofs.Accepted.{is_whole}
use Rattle.stream_check.proofs.verdict.laws.each_step_ends_once.Goals as goal

pub returns : goal.returns
returns c = λ mode texts whole accepted. is_whole mode texts whole accepted
