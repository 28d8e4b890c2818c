-- What contracts see of a lane.
use Rattle.std.specs.Prelude.{◌≡◌, List, [], ◌∷◌, Option, Some, None}
use Rattle.apply_events.specs.declared.event.Event.{Event}
use Rattle.apply_events.specs.declared.lanes.lane.Lane.{Lane}
use Rattle.apply_events.specs.declared.lanes.lane.UnderWay.{UnderWay}
use Rattle.apply_events.specs.declared.lanes.lane_time.LaneTime.{LaneTime}
use Rattle.apply_events.specs.declared.lanes.turn.StartedTurn.{StartedTurn}
use Rattle.apply_events.specs.Lanes.LaneState.{LaneState}
use Rattle.apply_events.specs.Step.{Work}
use Rattle.apply_events.specs.TurnRunner.{to_come}
use Rattle.apply_events.specs.Waits.LaneTime.{first_lane_time}
use Rattle.apply_events.specs.Waits.TimeLine.{turn_events}

-- The events still to come of the turn under way.
abbrev pub events_of : {a b : _} {g : _} → Option (UnderWay a b g) → List Event
events_of None = []
events_of (Some turn) = turn.next_event ∷ to_come turn.later_events

-- The begin of the turn under way.
abbrev pub begin_of : {a b : _} {g : _} → Option (UnderWay a b g) → LaneTime
begin_of None = first_lane_time
begin_of (Some turn) = turn.begin

-- The state of a lane, by its fields.
abbrev pub state_of : {a b : _} {g : _} → Lane a b g → LaneState
state_of lane = record {
  number = lane.number;
  events = events_of lane.under_way;
  begin = begin_of lane.under_way;
  place = lane.place;
}

-- All events of the started turn are still to come. Without events the turn is not under way.
abbrev pub IsBegun : {a b : _} {g : _} → Work → StartedTurn → Option (UnderWay a b g) → Type 0
IsBegun work started None = turn_events work started ≡ []
IsBegun work started (Some turn) = (turn.begin ≡ started.begin) × (turn_events work started ≡ turn.next_event ∷ to_come turn.later_events)
