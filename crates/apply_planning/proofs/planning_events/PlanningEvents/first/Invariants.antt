use Rattle.std.proofs.Common.{◌≡◌, get_or}
use Rattle.apply_events.specs.Waits.LaneTime.{first_lane_time}
use Rattle.apply_events.proofs.Waits.Earliest.{IsFirstEarliest}
use Rattle.apply_planning.specs.ToCome.{lane_times_of}
use Rattle.apply_planning.proofs.planning_events.PlanningEvents.first.Given as goal

-- the first lane so far, and its time
abbrev pub invariant-loop-lane : goal.invariant-loop-lane
invariant-loop-lane l = IsFirstEarliest (lane_times_of l.self) l.lane l.first × (l.least ≡ get_or (lane_times_of l.self) l.first first_lane_time)
