use Rattle.laws_queue.proofs.Told.{of_lanes}
use Rattle.laws_queue.proofs.steps_of_a_run_are_those_of_its_lanes.Goals as goal

pub returns : goal.returns
returns c = λ work lanes events line steps some none time_line of. of_lanes work lanes some none events time_line line steps of
