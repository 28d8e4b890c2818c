use Rattle.laws_queue.proofs.Keeps.{keeps}
use Rattle.laws_queue.proofs.Told.{of_lanes}
use Rattle.laws_queue.proofs.the_stream_of_a_run_without_waits_keeps_time.Goals as goal

pub returns-clause-by_lanes : goal.returns-clause-by_lanes
returns-clause-by_lanes c = λ work lanes steps found behind some of none are. keeps work lanes some steps of found none behind are

pub returns-clause-by_events : goal.returns-clause-by_events
returns-clause-by_events c = λ work lanes events line steps found behind some unnamed time_line of none are.
    keeps work lanes some steps (of_lanes work lanes some unnamed events time_line line steps of) found none behind are
