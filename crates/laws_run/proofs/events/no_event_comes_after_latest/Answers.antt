use Rattle.apply_events.proofs.Moments.{worker_in_time}
use Rattle.laws_run.proofs.events.no_event_comes_after_latest.Goals as goal

pub returns : goal.returns
returns c work worker changes read named = worker_in_time work worker changes read named
