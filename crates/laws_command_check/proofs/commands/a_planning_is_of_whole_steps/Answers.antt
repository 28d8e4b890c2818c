use Rattle.apply_events.specs.Waits.Merging.{time_line}
use Rattle.apply_planning.specs.PlanningWork.{planning_work}
use Rattle.apply_run.specs.Schedule.{InLanes}
use Rattle.laws_command_check.proofs.CommandRead.{told_in_one_step}
use Rattle.laws_command_check.proofs.commands.a_planning_is_of_whole_steps.Goals as goal

pub returns : goal.returns
returns c told lanes some =
    let work = planning_work told in
    c.a_run_is_of_whole_steps.ensures (InLanes lanes) work (time_line work lanes) (some, told_in_one_step told) (c.there_is_a_time_line.ensures work lanes some)
