-- The events of lanes in the order of time, in a work without waits.
use Rattle.std.specs.Prelude.{◌≡◌, ℕ, ◌≤◌, All, List, [], ◌∷◌, get_or}
use Rattle.apply_events.specs.Interleaving.{IsInterleaving}
use Rattle.apply_events.specs.declared.event.Event.{Event}
use Rattle.apply_events.specs.Step.{Work}
use Rattle.apply_events.specs.WorkerEvents.{worker_events}
use Rattle.apply_events.specs.Lanes.Dealing.{lanes}

-- The first event may stand before the second. It is no later, and in the same second its lane is
-- no higher.
abbrev pub Precedes : Event → Event → Type 0
Precedes first second = (first.at ≤ second.at) × (first.at ≡ second.at → first.worker ≤ second.worker)

-- Each event may stand before all events after it.
abbrev pub InOrder : List Event → Type 0
InOrder [] = Unit {0}
InOrder (event ∷ events) = All (Precedes event) events × InOrder events

-- The events of a lane.
abbrev pub lane_events : Work → (n lane : ℕ) → List Event
lane_events work n lane = worker_events work lane (get_or (lanes work n) lane [])

-- The interleaving of the events of n lanes in the order of time. In the same second the lower lane
-- comes first.
pub record IsTimeLine (work : Work) (n : ℕ) (events : List Event) : Type 0 where
  pub interleaved : IsInterleaving n (lane_events work n) events
  pub in_order : InOrder events
