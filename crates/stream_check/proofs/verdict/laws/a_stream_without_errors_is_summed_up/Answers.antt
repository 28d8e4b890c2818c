use Rattle.stream_check.proofs.Accepted.{is_summed}
use Rattle.stream_check.proofs.verdict.laws.a_stream_without_errors_is_summed_up.Goals as goal

pub returns : goal.returns
returns c = λ mode texts whole accepted none no_plan. is_summed mode texts whole accepted none no_plan
