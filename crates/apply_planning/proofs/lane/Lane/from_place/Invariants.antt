use Rattle.std.proofs.Common.{◌≡◌, drop}
use Rattle.apply_events.specs.Lanes.LaneState.{emitted_by}
use Rattle.apply_planning.specs.PlanningWork.{planning_work}
use Rattle.apply_planning.proofs.lane.Lane.from_place.Given as goal

-- the lane has no event of the objects so far
abbrev pub invariant-loop-next : goal.invariant-loop-next
invariant-loop-next l = emitted_by (planning_work l.told) l.number (drop l.next l.started) ≡ emitted_by (planning_work l.told) l.number (drop l.place l.started)
