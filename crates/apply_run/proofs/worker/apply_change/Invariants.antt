use Rattle.std.proofs.Common.{◌≡◌, length}
use Rattle.apply_events.specs.ChangeEvents.{change_events}
use Rattle.apply_events.specs.Runner.{course_of, to_come}
use Rattle.apply_run.specs.Worker.WorkerJob.{work_of}
use Rattle.apply_run.proofs.Workers.Sent.{IsSentBefore}
use Rattle.apply_run.proofs.worker.apply_change.Given as goal

-- what was sent, and then what is still to come, is all of the change
abbrev pub invariant-loop-step : goal.invariant-loop-step
invariant-loop-step g l = record {
  course : course_of l.runner ≡ record { work = work_of l.job; worker = l.worker; change = l.change; begin = l.at };
  bus : l.tx.bus ≡ l.fn.tx.bus;
  worker : l.tx.worker ≡ l.fn.tx.worker;
  same : l.worker ≡ l.fn.tx.worker;
  sent : IsSentBefore l.job.plan.now l.fn.tx.sent l.tx.sent (to_come l.runner) (change_events (work_of l.job) l.fn.tx.worker l.change l.at);
}

-- what is still to come becomes less
abbrev pub decreases-loop-step : goal.decreases-loop-step
decreases-loop-step g l = length (to_come l.runner)
