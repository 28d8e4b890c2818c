use Rattle.laws_waits.proofs.KeptWaits.{none_early, waits_again}
use Rattle.laws_waits.proofs.kept.waits_that_a_stream_kept_come_again.Goals as goal

pub returns : goal.returns
returns c = record {
  waits = λ steps graph choices after early begins kept are. waits_again steps graph kept choices after early begins are;
  early = λ steps graph choices after early begins kept are. none_early steps graph kept choices after early begins are;
}
