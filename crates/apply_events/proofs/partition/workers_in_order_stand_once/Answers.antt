use Rattle.apply_events.proofs.Dealing.{all_named}
use Rattle.apply_events.proofs.partition.workers_in_order_stand_once.Goals as goal

pub returns : goal.returns
returns c workers = all_named workers
