-- The events that a lane still has to emit.
use Rattle.std.specs.Prelude.{◌≡◌, ◌⊎◌, ℕ, ◌==◌, ◌<◌, ◌≤◌, List, [], ◌∷◌, ◌++◌, Option, Some, None, drop, get_or, length, if◌then◌else◌}
use Rattle.std.specs.List.{Contains}
use Rattle.apply_events.specs.declared.event.Event.{Event}
use Rattle.apply_events.specs.declared.lanes.lane_time.LaneTime.{LaneTime}
use Rattle.apply_events.specs.declared.lanes.turn.StartedTurn.{StartedTurn}
use Rattle.apply_events.specs.Step.{Work}
use Rattle.apply_events.specs.Waits.LaneTime.{first_lane_time}
use Rattle.apply_events.specs.Waits.TimeLine.{lane_time_from, turn_events}

-- The events that a lane emits of some started turns, which are listed in the order of their
-- starts.
abbrev pub emitted_by : Work → (lane : ℕ) → List StartedTurn → List Event
emitted_by work lane [] = []
emitted_by work lane (one ∷ started) = (if one.lane == lane then turn_events work one else []) ++ emitted_by work lane started

-- The state of a lane. `events` are still to come of its current turn, which began at `begin`. The
-- search for its next turn begins at `place` of the started turns.
pub record LaneState : Type 0 where
  pub number : ℕ
  pub events : List Event
  pub begin : LaneTime
  pub place : ℕ

-- A state that stands for lanes that do not exist.
abbrev pub unused : LaneState
unused = record { number = 0; events = []; begin = first_lane_time; place = 0 }

-- The events that a lane still has to emit.
abbrev pub line : Work → List StartedTurn → LaneState → List Event
line work started s = s.events ++ emitted_by work s.number (drop s.place started)

-- The events that each lane still has to emit.
abbrev pub left : Work → List StartedTurn → List LaneState → (lane : ℕ) → List Event
left work started states lane = line work started (get_or states lane unused)

-- How many events a lane still has to emit.
abbrev pub count_left : Work → List StartedTurn → LaneState → ℕ
count_left work started s = length (line work started s)

-- ---- when a lane comes next

-- A time after every event.
abbrev pub never : LaneTime
never = record { second = 18446744073709551615; round = 0 }

-- The time of the first event, or `never`.
abbrev pub lane_time_in : (begin : LaneTime) → List Event → LaneTime
lane_time_in begin [] = never
lane_time_in begin (e ∷ es) = lane_time_from begin e

-- The time of the lane's next event, if it has one.
abbrev pub next_lane_time : LaneState → LaneTime
next_lane_time s = lane_time_in s.begin s.events

-- ---- what a lane does

-- The events are all events of a started turn, from its begin on.
abbrev pub IsUnderWay : Work → List StartedTurn → LaneState → Type 0
IsUnderWay work started s = (one : StartedTurn) × Contains started one × (s.begin ≡ one.begin) × (s.events ≡ turn_events work one)

-- The lane is at the first of its turns from a position on that has events, or at its end.
pub record HasGoneOn (work : Work) (started : List StartedTurn) (lane place : ℕ) (s : LaneState) : Type 0 where
  pub number : s.number ≡ lane
  pub left : emitted_by work lane (drop place started) ≡ line work started s
  pub over : s.events ≡ [] → length started ≤ s.place
  pub turn : (s.events ≡ []) ⊎ IsUnderWay work started s

-- The lane goes on after an event: to the rest of its turn, or from the last event to its next
-- turn.
abbrev pub GoesOn : Work → List StartedTurn → (before : LaneState) → (rest : List Event) → (after : LaneState) → Type 0
GoesOn work started before [] after = HasGoneOn work started before.number before.place after
GoesOn work started before (e ∷ es) after =
    after ≡ record { number = before.number; events = e ∷ es; begin = before.begin; place = before.place }

-- The lane emits the next event of its turn, and goes to its next turn after the last event.
abbrev pub EmitsNext : Work → List StartedTurn → (before : LaneState) → Option Event → (after : LaneState) → Type 0
EmitsNext work started before None after = (before.events ≡ []) × (after ≡ before)
EmitsNext work started before (Some event) after =
    (rest : List Event) × (before.events ≡ event ∷ rest) × GoesOn work started before rest after

-- Each of so many lanes is at its first turn that has events.
pub record HaveGoneOn (work : Work) (started : List StartedTurn) (count : ℕ) (states : List LaneState) : Type 0 where
  pub all : length states ≡ count
  pub each : (lane : ℕ) → lane < count → HasGoneOn work started lane 0 (get_or states lane unused)
