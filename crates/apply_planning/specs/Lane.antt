-- What contracts see of a lane.
use Rattle.std.specs.Prelude.{List, [], ◌∷◌, Option, Some, None}
use Rattle.apply_events.specs.declared.event.Event.{Event}
use Rattle.apply_events.specs.declared.lanes.lane_time.LaneTime.{LaneTime}
use Rattle.apply_events.specs.Lanes.LaneState.{LaneState}
use Rattle.apply_events.specs.Waits.LaneTime.{first_lane_time}
use Rattle.apply_planning.specs.declared.lane.Lane.{Lane}
use Rattle.apply_planning.specs.declared.lane.UnderWay.{UnderWay}
use Rattle.apply_planning.specs.ToldEvents.{left}

-- The events still to come of the object under way.
abbrev pub events_under_way : Option UnderWay → List Event
events_under_way None = []
events_under_way (Some object) = object.next_event ∷ left object.later_events

-- The begin of the object under way.
abbrev pub begin_of : Option UnderWay → LaneTime
begin_of None = first_lane_time
begin_of (Some object) = object.begin

-- The state of a lane, by its fields.
abbrev pub state_of : Lane → LaneState
state_of lane = record {
  number = lane.number;
  events = events_under_way lane.under_way;
  begin = begin_of lane.under_way;
  place = lane.place;
}
