use Rattle.laws_queue.proofs.NoWaits.{none_recorded}
use Rattle.laws_queue.proofs.Told.{of_lanes}
use Rattle.laws_queue.proofs.steps_of_a_run_without_waits_get_no_waits.Goals as goal

pub returns-clause-by_lanes : goal.returns-clause-by_lanes
returns-clause-by_lanes c = λ work lanes steps choices after early some of same are step began.
    none_recorded work lanes steps of some choices after early same are step began

pub returns-clause-by_events : goal.returns-clause-by_events
returns-clause-by_events c = λ work lanes events line steps choices after early some unnamed time_line of same are step began.
    none_recorded work lanes steps (of_lanes work lanes some unnamed events time_line line steps of) some choices after early same are step began
