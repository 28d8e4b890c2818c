-- What contracts see of lanes: the events still to come.
use Rattle.std.specs.Prelude.{ℕ, List, length, map}
use Rattle.apply_hooks.specs.Registry.{rules_of}
use Rattle.apply_events.specs.declared.event.Event.{Event}
use Rattle.apply_events.specs.declared.lanes.Lanes.{Lanes}
use Rattle.apply_events.specs.declared.lanes.lane_time.LaneTime.{LaneTime}
use Rattle.apply_events.specs.Lanes.Lane.{state_of}
use Rattle.apply_events.specs.Lanes.LaneState.{LaneState, left, next_lane_time}
use Rattle.apply_events.specs.Lanes.Steady.{when}
use Rattle.apply_events.specs.Step.{Work}
use Rattle.apply_events.specs.Waits.Merging.{merged}

-- The work that the lanes apply.
abbrev pub work_of : {a b : _} {g : _} → Lanes a b g → Work
work_of l = record { plan = l.plan.now; script = l.script.now; hooks = rules_of l.registry.now }

-- The state of each lane.
abbrev pub states_of : {a b : _} {g : _} → Lanes a b g → List LaneState
states_of l = map state_of l.lanes.items

-- The events still to come.
abbrev pub to_come : {a b : _} {g : _} → Lanes a b g → List Event
to_come l = merged (when l.started.items) (length (states_of l)) (left (work_of l) l.started.items (states_of l))

-- The time of each lane's next event.
abbrev pub lane_times_of : {a b : _} {g : _} → Lanes a b g → List LaneTime
lane_times_of l = map next_lane_time (states_of l)

-- How many events were emitted.
abbrev pub emitted_count : {a b : _} {g : _} → Lanes a b g → ℕ
emitted_count l = l.emitted

-- The most events of a change: two steps of 9,459 each. A step has 1 start, 8,639 of progress, 1
-- end, 1 error or warning, 1 halt and 8 provisioners. A provisioner has 1 start, 100 outputs and 1
-- end.
abbrev pub max_of_change : ℕ
max_of_change = 18918

-- The most events of 10,000 changes.
abbrev pub max_events : ℕ
max_events = 189180000
