use Rattle.std.proofs.Common.{◌≡◌, length}
use Rattle.apply_events.specs.Waits.Merging.{time_line}
use Rattle.apply_planning.specs.PlanningWork.{planning_work}
use Rattle.apply_planning.specs.ToCome.{to_come, told_of}
use Rattle.apply_planning_failures.proofs.Courses.{IsMidway}
use Rattle.apply_planning_failures.proofs.course.course_of.Given as goal

abbrev pub invariant-loop-event : goal.invariant-loop-event
invariant-loop-event l = record {
  told : told_of l.events ≡ l.told;
  met : IsMidway l.told (time_line (planning_work l.told) l.schedule.lanes) (to_come l.events) l.notes.items l.begun.items l.event_count;
}

abbrev pub decreases-loop-event : goal.decreases-loop-event
decreases-loop-event l = length (to_come l.events)
