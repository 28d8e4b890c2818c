use Rattle.apply_events.specs.Waits.Merging.{time_line}
use Rattle.apply_planning.specs.PlanningWork.{planning_work}
use Rattle.laws_command.proofs.ToldSteps.{come_after, few_steps}
use Rattle.laws_command.proofs.plannings.a_refresh_comes_after_what_it_waits_for.Goals as goal

pub returns : goal.returns
returns c told lanes some =
    let events = time_line (planning_work told) lanes in
    let line = c.there_is_a_time_line.ensures (planning_work told) lanes some in
    come_after told events
    (c.a_step_comes_after_what_it_waits_for.ensures (planning_work told) lanes events some (few_steps told) line)
    (c.a_step_begins_exactly_where_its_waits_are_done.ensures.applied (planning_work told) lanes events some line)
