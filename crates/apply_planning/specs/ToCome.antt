-- What contracts see of the events of a planning: the events still to come.
use Rattle.std.specs.Prelude.{List, length, map}
use Rattle.apply_events.specs.declared.event.Event.{Event}
use Rattle.apply_events.specs.declared.lanes.lane_time.LaneTime.{LaneTime}
use Rattle.apply_events.specs.Lanes.LaneState.{LaneState, left, next_lane_time}
use Rattle.apply_events.specs.Lanes.Steady.{when}
use Rattle.apply_events.specs.Waits.Merging.{merged}
use Rattle.apply_planning.specs.declared.planning_events.PlanningEvents.{PlanningEvents}
use Rattle.apply_planning.specs.declared.told.Told.{Told}
use Rattle.apply_planning.specs.Lane.{state_of}
use Rattle.apply_planning.specs.PlanningWork.{planning_work}

-- The state of each lane.
abbrev pub states_of : PlanningEvents → List LaneState
states_of events = map state_of events.lanes.items

-- The events still to come.
abbrev pub to_come : PlanningEvents → List Event
to_come events = merged (when events.started.now) (length (states_of events)) (left (planning_work events.told.now) events.started.now (states_of events))

-- The time of each lane's next event.
abbrev pub lane_times_of : PlanningEvents → List LaneTime
lane_times_of events = map next_lane_time (states_of events)

-- The told objects.
abbrev pub told_of : PlanningEvents → List Told
told_of events = events.told.now
