use Rattle.std.proofs.Common.{map}
use Rattle.apply_events.specs.Lanes.LaneState.{HaveGoneOn}
use Rattle.apply_planning.specs.Lane.{state_of}
use Rattle.apply_planning.specs.PlanningWork.{planning_work}
use Rattle.apply_planning.proofs.planning_events.start_lanes.Given as goal

abbrev pub invariant-loop-lane : goal.invariant-loop-lane
invariant-loop-lane l = HaveGoneOn (planning_work l.told) l.started l.lane (map state_of l.lanes.items)
