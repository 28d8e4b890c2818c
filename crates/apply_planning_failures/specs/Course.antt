-- What a planning meets.
use Rattle.std.specs.Prelude.{◌≡◌, length}
use Rattle.apply_planning_failures.specs.declared.met.Course.{Course}
use Rattle.apply_planning_failures.specs.Planning.{AreBegun, Planning, planning_notes}

-- this is what the planning met
pub record IsCourseOf (planning : Planning) (course : Course) : Type 0 where
  pub notes : course.notes.items ≡ planning_notes planning
  pub begun : AreBegun planning course.begun.items
  pub count : course.event_count ≡ length planning.events
