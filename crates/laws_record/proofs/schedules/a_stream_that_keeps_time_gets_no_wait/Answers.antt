use Rattle.laws_record.proofs.Pinless.{no_pins}
use Rattle.laws_record.proofs.schedules.a_stream_that_keeps_time_gets_no_wait.Goals as goal

pub returns : goal.returns
returns c = λ basis lanes keeps. no_pins basis lanes keeps
