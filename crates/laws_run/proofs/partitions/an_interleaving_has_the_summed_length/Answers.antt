use Rattle.apply_events.proofs.Interleaved.{summed_length}
use Rattle.laws_run.proofs.partitions.an_interleaving_has_the_summed_length.Goals as goal

pub returns : goal.returns
returns c workers list events h = summed_length workers list events h
