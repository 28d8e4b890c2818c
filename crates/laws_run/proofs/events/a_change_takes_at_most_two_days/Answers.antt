use Rattle.apply_events.proofs.Moments.{span_short}
use Rattle.laws_run.proofs.events.a_change_takes_at_most_two_days.Goals as goal

pub returns : goal.returns
returns c work change read = span_short work change read
