use Rattle.laws_run.proofs.EventsFit.{change_fits, worker_fits}
use Rattle.laws_run.proofs.events.every_event_can_happen.Goals as goal

pub returns-clause-of_change : goal.returns-clause-of_change
returns-clause-of_change c work worker change at read few early = change_fits work worker change at read few early

pub returns-clause-of_worker : goal.returns-clause-of_worker
returns-clause-of_worker c work worker changes read few named = worker_fits work worker changes read few named
