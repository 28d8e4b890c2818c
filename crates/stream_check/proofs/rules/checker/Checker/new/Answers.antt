use Rattle.stream_check.specs.AddressState.{state_of}
use Rattle.stream_check.specs.Unbegun.{unbegun_at}
use Rattle.stream_check.proofs.rules.checker.Checker.new.Goals as goal

pub returns : goal.returns
unfolding state_of unbegun_at
returns c = record { tally = c.new.ensures.value; state = λ a. c.new-2.ensures a; unbegun = λ a. c.new-3.ensures a }
