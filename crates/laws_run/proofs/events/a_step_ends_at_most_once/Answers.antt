use Rattle.laws_run.proofs.Ends.{ends_once}
use Rattle.laws_run.proofs.events.a_step_ends_at_most_once.Goals as goal

pub returns : goal.returns
returns c work worker change at k = ends_once work worker change at k
