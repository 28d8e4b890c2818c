-- What workers and the collector hold before a run begins.
use Rattle.std.specs.Prelude.{◌≡◌, ◌<◌, ◌≤◌, [], length, vec_capacity}
use Rattle.apply_bus.specs.Bus.{BusName}
use Rattle.apply_bus.specs.Claims.{ClaimsName}
use Rattle.apply_run.specs.declared.run.prepared.Endpoints.{Endpoints}
use Rattle.apply_run.specs.Run.Threads.{EachAt, IsNewDrawer, IsNewSender}

-- a new drawer and a new sender for each worker, in their order; a new receiver; and room for what
-- the workers return
pub record AreReady (claims : ClaimsName) (bus : BusName) (endpoints : Endpoints) : Type 0 where
  pub some : 0 < claims.workers
  pub drawers : EachAt (IsNewDrawer claims) endpoints.drawers.items
  pub senders : EachAt (IsNewSender bus) endpoints.senders.items
  pub count : length endpoints.drawers.items ≡ claims.workers
  pub rx_bus : endpoints.rx.bus ≡ bus
  pub rx_workers : endpoints.rx.workers ≡ claims.workers
  pub rx_taken : endpoints.rx.taken ≡ []
  pub none_stopped : endpoints.stopped.items ≡ []
  pub room : claims.workers ≤ vec_capacity endpoints.stopped
