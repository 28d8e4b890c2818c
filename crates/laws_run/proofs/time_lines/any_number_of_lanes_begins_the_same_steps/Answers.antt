use Rattle.apply_events.specs.Waits.Schedule.{schedule}
use Rattle.apply_events.proofs.Waits.StartedTurns.{were_started}
use Rattle.laws_run.specs.WaitingSteps.{has_events}
use Rattle.laws_run.proofs.ByAnyLanes.{has_too}
use Rattle.laws_run.proofs.LeftOut.{begin_where_all_is_done, same_tests}
use Rattle.laws_run.proofs.time_lines.any_number_of_lanes_begins_the_same_steps.Goals as goal

pub returns : goal.returns
returns c w n m events others some many few line other name =
    let up = were_started w n some in let up' = were_started w m many in
    same_tests (has_events events name) (has_events others name)
    (has_too w n (schedule w n) events up line.interleaved few others (begin_where_all_is_done w m (schedule w m) others up' other.interleaved few) name)
    (has_too w m (schedule w m) others up' other.interleaved few events (begin_where_all_is_done w n (schedule w n) events up line.interleaved few) name)
