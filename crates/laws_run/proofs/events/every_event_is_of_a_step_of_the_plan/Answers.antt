use Rattle.apply_events.proofs.WorkerLists.{worker_planned}
use Rattle.laws_run.proofs.events.every_event_is_of_a_step_of_the_plan.Goals as goal

pub returns : goal.returns
returns c work worker changes = worker_planned work worker changes
