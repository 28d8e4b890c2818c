use Rattle.std.proofs.Common.{◌≡◌, ◌*◌, ◌-◌, ◌≤◌, All, length, sum_by}
use Rattle.apply_events.specs.ChangeEvents.{span_of}
use Rattle.apply_events.specs.WorkerEvents.{worker_events}
use Rattle.apply_run.specs.Worker.Drawn.{IsDrawn}
use Rattle.apply_events.specs.Fits.{IsOfPlan}
use Rattle.apply_run.specs.Worker.WorkerJob.{work_of}
use Rattle.apply_run.proofs.worker.apply_all.Given as goal

-- the events of all changes that were drawn were sent, and each of the changes took two days at
-- most
abbrev pub invariant-loop-change : goal.invariant-loop-change
invariant-loop-change g l = record {
  bus : l.tx.bus ≡ l.fn.tx.bus;
  sender : l.tx.worker ≡ l.fn.tx.worker;
  claims : l.drawer.claims ≡ l.fn.drawer.claims;
  drawer : l.drawer.worker ≡ l.fn.drawer.worker;
  drawn : IsDrawn l.job.claims.now.limit l.drawer.drawn;
  sent : l.tx.sent ≡ worker_events (work_of l.job) l.fn.tx.worker l.drawer.drawn;
  fits : All (IsOfPlan l.job.plan.now) l.tx.sent;
  time : l.at ≡ sum_by (span_of (work_of l.job)) l.drawer.drawn;
  soon : l.at ≤ 172800 * length l.drawer.drawn;
}

-- fewer numbers are left to draw
abbrev pub decreases-loop-change : goal.decreases-loop-change
decreases-loop-change g l = l.job.claims.now.limit - length l.drawer.drawn
