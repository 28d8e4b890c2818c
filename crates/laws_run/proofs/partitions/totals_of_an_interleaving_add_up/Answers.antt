use Rattle.apply_events.proofs.Interleaved.{summed_totals}
use Rattle.laws_run.proofs.partitions.totals_of_an_interleaving_add_up.Goals as goal

pub returns : goal.returns
returns c plan workers list events h = summed_totals plan workers list events h
