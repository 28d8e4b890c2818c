use Rattle.apply_events.proofs.WorkerLists.{worker_applied}
use Rattle.apply_events.proofs.laws.no_event_is_of_a_skipped_step.Goals as goal

pub returns : goal.returns
returns c = worker_applied
