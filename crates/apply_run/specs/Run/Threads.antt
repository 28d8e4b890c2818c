-- The workers of a run, before they start and while they run.
use Rattle.std.specs.Prelude.{◌≡◌, ℕ, ◌<◌, ◌≤◌, List, [], length, get_or, false}
use Rattle.std.specs.declared.thread.PromisedHandle.{PromisedHandle}
use Rattle.apply_bus.specs.Bus.{BusName, Sender}
use Rattle.apply_bus.specs.Claims.{ClaimsName, Drawing}
use Rattle.apply_events.specs.Step.{Work}
use Rattle.apply_hooks.specs.declared.rule.Rule.{Rule}
use Rattle.apply_plan.specs.Plan.SavedPlan.{SavedPlan, max_changes}
use Rattle.apply_plan.specs.Script.OutcomeMap.{OutcomeMap}
use Rattle.apply_run.specs.declared.run.threads.WorkerPromise.{WorkerPromise}
use Rattle.apply_run.specs.declared.worker.StoppedWorker.{StoppedWorker}

-- the fact holds of each item of the list, with its index
abbrev pub EachAt : {X : Type 0} → (ℕ → X → Type 0) → List X → Type 0
EachAt {X} F xs = (k : ℕ) (x : X) → k < length xs → F k (get_or xs k x)

-- the work is this plan, this script and these hooks, and the claims are on the plan's changes
pub record IsRun (work : Work) (name : ClaimsName) (plan : SavedPlan) (script : OutcomeMap) (hooks : List (List Rule))
    (claims : ClaimsName) : Type 0 where
  pub work_is : record { plan = plan; script = script; hooks = hooks } ≡ work
  pub claims_is : claims ≡ name
  pub limit : claims.limit ≡ length plan.changes
  pub few : claims.limit ≤ max_changes

abbrev pub IsNewDrawer : ClaimsName → ℕ → Drawing → Type 0
IsNewDrawer claims worker drawer = drawer ≡ record { claims = claims; worker = worker; drawn = []; met_none = false }

abbrev pub IsNewSender : BusName → ℕ → Sender → Type 0
IsNewSender bus worker sender = (sender.bus ≡ bus) × (sender.worker ≡ worker) × (sender.sent ≡ [])

-- the thread is that of this worker
abbrev pub IsThreadOf : {K : Type 0} → ℕ → PromisedHandle StoppedWorker (WorkerPromise K) → Type 0
IsThreadOf worker thread = thread.promise.worker ≡ worker
