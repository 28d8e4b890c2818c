-- What a worker has done when it stops.
use Rattle.std.specs.Prelude.{◌≡◌, ℕ, All, Bool, true, false}
use mathlib.Core.List.{IsPrefix}
use Rattle.apply_events.specs.Step.{Work}
use Rattle.apply_events.specs.WorkerEvents.{worker_events}
use Rattle.apply_bus.specs.Bus as bus
use Rattle.apply_bus.specs.Claims.{ClaimsName}
use Rattle.apply_run.specs.Worker.Drawn.{IsDrawn}
use Rattle.apply_events.specs.Fits.{IsOfPlan}
use Rattle.apply_run.specs.declared.worker.SenderEnd.{SenderEnd}
use Rattle.apply_run.specs.declared.worker.SenderEnd.TheVariants.{Closed, Open}
use Rattle.apply_run.specs.declared.worker.StoppedWorker.{StoppedWorker}

-- the sender of a worker that has stopped, as the bus sees it
abbrev pub sender_of : SenderEnd → bus.Sender
sender_of (Closed closed) = closed
sender_of (Open tx) = tx

abbrev pub is_closed : SenderEnd → Bool
is_closed (Closed closed) = true
is_closed (Open tx) = false

-- the worker of these claims and this bus has sent a prefix of the events of the changes that it
-- drew, each an event of the plan. If it closed its sender, no change was left, and it has sent all
-- of their events
pub record IsStoppedWorker (work : Work) (claims : ClaimsName) (bus : bus.BusName) (worker : ℕ)
    (stopped : StoppedWorker) : Type 0 where
  pub drawer_claims : stopped.drawer.claims ≡ claims
  pub drawer_worker : stopped.drawer.worker ≡ worker
  pub sender_bus : (sender_of stopped.sender).bus ≡ bus
  pub sender_worker : (sender_of stopped.sender).worker ≡ worker
  pub drawn : IsDrawn claims.limit stopped.drawer.drawn
  pub fits : All (IsOfPlan work.plan) (sender_of stopped.sender).sent
  pub part : IsPrefix (sender_of stopped.sender).sent (worker_events work worker stopped.drawer.drawn)
  pub whole : is_closed stopped.sender ≡ true → (stopped.drawer.met_none ≡ true)
      × ((sender_of stopped.sender).sent ≡ worker_events work worker stopped.drawer.drawn)
