use Rattle.apply_events.specs.Waits.Merging.{time_line}
use Rattle.apply_planning.specs.PlanningWork.{planning_work}
use Rattle.laws_command.proofs.ToldSteps.{run_once}
use Rattle.laws_command.proofs.plannings.each_object_is_refreshed_or_read_once.Goals as goal

pub returns : goal.returns
returns c told lanes some =
    let events = time_line (planning_work told) lanes in
    run_once told events (c.steps_are_whole.ensures (planning_work told) lanes events some (c.there_is_a_time_line.ensures (planning_work told) lanes some))
