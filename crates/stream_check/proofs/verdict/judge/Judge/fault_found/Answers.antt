use Rattle.std.proofs.Common.{◌≡◌}
use Rattle.stream_check.proofs.Judging.{fault_stays}
use Rattle.stream_check.proofs.verdict.judge.Judge.fault_found.Goals as goal

pub returns-in-Some : goal.returns-in-Some
returns-in-Some c = λ mode texts judged. record { answer = fault_stays mode c.args.self texts _ judged c.in-Some.is; text = tt }
