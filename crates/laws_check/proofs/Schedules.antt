-- A schedule with sizes in range can run what was read.
use Rattle.std.proofs.Common.{arith}
use Rattle.apply_events.specs.Step.{Work}
use Rattle.apply_run.specs.Schedule.{ByWorkers, InLanes, IsOfSize, Schedule}
use Rattle.laws_check.specs.WholeSteps.{CanRun}
use Rattle.laws_run.specs.WaitingSteps.{HasFewSteps}

pub can_run : (schedule : Schedule) (work : Work) → IsOfSize schedule → HasFewSteps work → CanRun schedule work
can_run (ByWorkers workers capacity) work sizes few = tt
can_run (InLanes lanes) work sizes few = ((let low = sizes.some in omega arith), few)
