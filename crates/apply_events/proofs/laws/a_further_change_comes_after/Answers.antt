use Rattle.apply_events.proofs.WorkerLists.{worker-push}
use Rattle.apply_events.proofs.laws.a_further_change_comes_after.Goals as goal

pub returns : goal.returns
returns c work worker change changes = worker-push work worker change changes
