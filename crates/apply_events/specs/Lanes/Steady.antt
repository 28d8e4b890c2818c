-- The state of lanes between two events.
use Rattle.std.specs.Prelude.{◌≡◌, ℕ, ◌<◌, ◌≤◌, All, List, [], ◌∷◌, get_or, length, reverse}
use Rattle.apply_events.specs.declared.event.Event.{Event}
use Rattle.apply_events.specs.declared.lanes.lane_time.LaneTime.{LaneTime}
use Rattle.apply_events.specs.declared.lanes.turn.StartedTurn.{StartedTurn}
use Rattle.apply_events.specs.Fits.{IsOfPlan}
use Rattle.apply_events.specs.Lanes.LaneState.{LaneState, line, unused}
use Rattle.apply_events.specs.Step.{Work}
use Rattle.apply_events.specs.Waits.LaneTime.{IsNoLater}
use Rattle.apply_events.specs.Waits.TimeLine.{lane_time_from, lane_time_of, turn_events}

-- The time of an event, where these turns were started. The turns are listed in the order of their
-- starts.
abbrev pub when : List StartedTurn → Event → LaneTime
when started = lane_time_of (reverse started)

-- Events of the lane whose times never fall.
abbrev pub Rises : (at : Event → LaneTime) → (lane : ℕ) → List Event → Type 0
Rises at lane [] = Unit {0}
Rises at lane (e ∷ es) = (e.worker ≡ lane) × All (λ f. IsNoLater (at e) (at f)) es × Rises at lane es

-- The event has the round that a turn with that begin gives it.
abbrev pub IsTimed : (at : Event → LaneTime) → (begin : LaneTime) → Event → Type 0
IsTimed at begin e = (at e).round ≡ (lane_time_from begin e).round

-- All events of the started turn have the rounds that its begin gives them.
abbrev pub IsTimedTurn : Work → (at : Event → LaneTime) → StartedTurn → Type 0
IsTimedTurn work at one = All (IsTimed at one.begin) (turn_events work one)

-- The events that the lane still has to emit are of the plan and in time, and their times never
-- fall. If no turn is under way, no turn is left.
pub record IsSteadyLane (work : Work) (started : List StartedTurn) (lane : ℕ) (s : LaneState) : Type 0 where
  pub number : s.number ≡ lane
  pub rises : Rises (when started) lane (line work started s)
  pub timed : All (IsTimed (when started) s.begin) s.events
  pub over : s.events ≡ [] → length started ≤ s.place
  pub of_plan : All (IsOfPlan work.plan) (line work started s)

-- Each lane is steady.
abbrev pub AreSteady : Work → List StartedTurn → List LaneState → Type 0
AreSteady work started states = (lane : ℕ) → lane < length states → IsSteadyLane work started lane (get_or states lane unused)
