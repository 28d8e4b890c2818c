-- The events of a told object.
use Rattle.std.specs.Prelude.{ℕ, ◌+◌, Bool, List, [], ◌∷◌, ◌++◌, is_some, map, if◌then◌else◌}
use Rattle.apply_events.specs.declared.event.Event.{Event}
use Rattle.apply_events.specs.declared.lanes.turn.StartedTurn.{StartedTurn}
use Rattle.apply_events.specs.declared.what.What.{What}
use Rattle.apply_events.specs.declared.what.What.TheVariants.{Start, Complete, Errored, ErrorNote, WarnNote}
use Rattle.apply_events.specs.Provisions.{progress}
use Rattle.apply_planning.specs.declared.told.Told.{Told}
use Rattle.apply_planning.specs.declared.told_events.Stage.{Stage}
use Rattle.apply_planning.specs.declared.told_events.Stage.TheVariants.{Before, Running, Noting, Over}
use Rattle.apply_planning.specs.declared.told_events.ToldEvents.{ToldEvents}
use Rattle.apply_planning.specs.PlanningWork.{is_error}

-- An event of the object's only step, at that second.
abbrev pub told_event : StartedTurn → (at : ℕ) → What → Event
told_event turn at what = record { worker = turn.lane; change = turn.turn.change; step = 0; what = what; at = at }

-- The events at the end of an object that takes so many seconds.
abbrev pub ends : (seconds : ℕ) → (fails warns : Bool) → List What
ends seconds fails warns =
    if fails then Errored seconds ∷ ErrorNote ∷ [] else if warns then WarnNote ∷ [] else Complete seconds ∷ []

-- The events of an object that runs, where its progress up to `after` seconds was emitted.
abbrev pub running : StartedTurn → (seconds : ℕ) → (fails warns : Bool) → (after : ℕ) → List Event
running turn seconds fails warns after =
    map (λ p. told_event turn (turn.begin.second + p.0) p.1) (progress seconds after seconds)
    ++ map (λ what. told_event turn (turn.begin.second + seconds) what) (ends seconds fails warns)

-- The events still to come at each stage.
abbrev pub from_stage : StartedTurn → (seconds : ℕ) → (fails warns : Bool) → Stage → List Event
from_stage turn seconds fails warns Before = told_event turn (turn.begin.second + 0) Start ∷ running turn seconds fails warns 0
from_stage turn seconds fails warns (Running after) = running turn seconds fails warns after
from_stage turn seconds fails warns Noting = told_event turn (turn.begin.second + seconds) ErrorNote ∷ []
from_stage turn seconds fails warns Over = []

-- The events still to come.
abbrev pub left : ToldEvents → List Event
left events = from_stage events.turn events.seconds events.fails events.warns events.stage

-- All events of an object that begins.
abbrev pub events_of : Told → StartedTurn → List Event
events_of one turn = from_stage turn one.seconds (is_error one.failure) (is_some one.failure) Before
