use Rattle.apply_events.proofs.Joined.{of_worker-append}
use Rattle.laws_run.proofs.events.events_of_a_worker_concatenate.Goals as goal

pub returns : goal.returns
returns c worker first second = of_worker-append worker first second
