use Rattle.apply_events.specs.Waits.Merging.{time_line}
use Rattle.apply_planning.specs.PlanningWork.{planning_work}
use Rattle.laws_command.proofs.ToldSteps.{begin_where_all_is_done, few_steps}
use Rattle.laws_command.proofs.plannings.what_waits_for_a_failure_is_left_out.Goals as goal

pub returns : goal.returns
returns c told lanes some =
    let events = time_line (planning_work told) lanes in
    begin_where_all_is_done told events
    (c.a_step_begins_exactly_where_its_waits_are_done.ensures.begins (planning_work told) lanes events some (few_steps told) (c.there_is_a_time_line.ensures (planning_work told) lanes some))
