-- The events of lanes in the order of time, in a work with waits.
use Rattle.std.specs.Prelude.{◌≡◌, ◌≤◌, ℕ, ◌+◌, ◌==◌, ◌&&◌, Bool, All, List, [], ◌∷◌, ◌++◌, nat_le, nat_lt, if◌then◌else◌}
use Rattle.apply_events.specs.Step.{Work}
use Rattle.apply_events.specs.declared.event.Event.{Event}
use Rattle.apply_events.specs.ChangeEvents.{in_turn}
use Rattle.apply_events.specs.Interleaving.{IsInterleaving}
use Rattle.apply_events.specs.StepEvents.{step_events, step_time}
use Rattle.apply_events.specs.declared.lanes.turn.StartedTurn.{StartedTurn}
use Rattle.apply_events.specs.declared.lanes.lane_time.LaneTime.{LaneTime}
use Rattle.apply_events.specs.Waits.LaneTime.{IsNoLater}
use Rattle.apply_events.specs.Waits.Schedule.{schedule}
use Rattle.apply_events.specs.declared.lanes.turn.Turn.{Turn}
use Rattle.apply_events.specs.Waits.Turn.{begun_steps}

-- ---- what lanes report

-- The events of a started turn.
abbrev pub turn_events : Work → StartedTurn → List Event
turn_events work started = in_turn (step_events started.lane) step_time (begun_steps work started.turn) started.begin.second

-- The events of the turns that a lane started. The last start is the head of the list.
abbrev pub lane_turns : Work → List StartedTurn → (lane : ℕ) → List Event
lane_turns work [] lane = []
lane_turns work (started ∷ others) lane =
    lane_turns work others lane ++ (if started.lane == lane then turn_events work started else [])

-- ---- when

-- The event is of a step of the turn.
abbrev pub is_of_turn : Turn → Event → Bool
is_of_turn turn event =
    turn.change == event.change && nat_le turn.first event.step && nat_lt event.step (turn.first + turn.count)

-- The time of an event of a turn that begins at `begin`. Within the second of the begin it has the
-- round of the begin.
abbrev pub lane_time_from : (begin : LaneTime) → Event → LaneTime
lane_time_from begin event = record { second = event.at; round = if event.at == begin.second then begin.round else 0 }

-- The time of an event, in view of these started turns.
abbrev pub lane_time_of : List StartedTurn → Event → LaneTime
lane_time_of [] event = record { second = event.at; round = 0 }
lane_time_of (started ∷ others) event =
    if is_of_turn started.turn event then lane_time_from started.begin event else lane_time_of others event

-- The first event may stand before the second. It is no later, and at the same time its lane is no
-- higher.
abbrev pub Precedes : (when : Event → LaneTime) → Event → Event → Type 0
Precedes when first second = IsNoLater (when first) (when second) × (when first ≡ when second → first.worker ≤ second.worker)

-- Each event may stand before all events after it.
abbrev pub InOrder : (when : Event → LaneTime) → List Event → Type 0
InOrder when [] = Unit {0}
InOrder when (event ∷ events) = All (Precedes when event) events × InOrder when events

-- ---- the time line

-- The interleaving of the events of n lanes in the order of time. At the same time the lower lane
-- comes first.
pub record IsTimeLine (work : Work) (n : ℕ) (events : List Event) : Type 0 where
  pub interleaved : IsInterleaving n (lane_turns work (schedule work n)) events
  pub in_order : InOrder (lane_time_of (schedule work n)) events
