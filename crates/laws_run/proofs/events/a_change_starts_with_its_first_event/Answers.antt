use Rattle.apply_events.proofs.Moments.{change_first}
use Rattle.laws_run.proofs.events.a_change_starts_with_its_first_event.Goals as goal

pub returns : goal.returns
returns c work worker change at = change_first work worker change at
