use Rattle.std.proofs.Common.{subst}
use Rattle.apply_events.specs.Waits.TimeLine.{IsTimeLine}
use Rattle.apply_planning.specs.PlanningWork.{planning_work}
use Rattle.laws_command.proofs.plannings.no_more_objects_are_under_way_than_lanes.Goals as goal

pub returns : goal.returns
returns c told lanes front rest some split =
    c.no_more_steps_are_under_way_than_lanes.ensures.changes_at_a_place (planning_work told) lanes front rest
    (subst (IsTimeLine (planning_work told) lanes) split (c.there_is_a_time_line.ensures (planning_work told) lanes some))
