use Rattle.laws_queue.proofs.Rounds.{as_in_run}
use Rattle.laws_queue.proofs.each_turn_starts_as_in_the_run.Goals as goal

pub returns : goal.returns
returns c = λ work lanes steps found behind rounds some of none. as_in_run work lanes steps of found none rounds
