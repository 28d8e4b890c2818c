-- What is known of a worker after its drawer and sender were joined.
use Rattle.std.specs.Prelude.{◌≡◌, ℕ, List, All, true}
use mathlib.Core.List.{IsPrefix}
use Rattle.apply_events.specs.OfWorker.{of_worker}
use Rattle.apply_events.specs.Step.{Work}
use Rattle.apply_events.specs.WorkerEvents.{worker_events}
use Rattle.apply_bus.specs.declared.item.Item.{Item}
use Rattle.apply_bus.specs.Claims.{Drawing}
use Rattle.apply_bus.specs.Items.{events}
use Rattle.apply_events.specs.Fits.{IsOfPlan}

-- no number is left for the worker; the events taken from it are a prefix of the events of its
-- changes, and events of the plan
pub record IsReconciled (work : Work) (taken : List Item) (worker : ℕ) (drawing : Drawing) : Type 0 where
  pub worker_is : drawing.worker ≡ worker
  pub met_none : drawing.met_none ≡ true
  pub part : IsPrefix (of_worker worker (events taken)) (worker_events work worker drawing.drawn)
  pub fits : All (IsOfPlan work.plan) (of_worker worker (events taken))

-- all of its events were taken
abbrev pub IsReconciledWhole : Work → List Item → ℕ → Drawing → Type 0
IsReconciledWhole work taken worker drawing = of_worker worker (events taken) ≡ worker_events work worker drawing.drawn
