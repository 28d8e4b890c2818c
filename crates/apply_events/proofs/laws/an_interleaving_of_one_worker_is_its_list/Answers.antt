use Rattle.apply_events.proofs.Interleaved.{one_worker}
use Rattle.apply_events.proofs.laws.an_interleaving_of_one_worker_is_its_list.Goals as goal

pub returns : goal.returns
returns c list events h = one_worker list events h
