use Rattle.apply_events.proofs.Joined.{own-worker}
use Rattle.laws_run.proofs.events.each_event_of_a_worker_names_it.Goals as goal

pub returns : goal.returns
returns c work worker changes = own-worker work worker changes
