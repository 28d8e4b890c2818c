-- Steps that wait for others: their events, how long they take, and which steps have none.
use Rattle.std.specs.Prelude.{◌≡◌, ◌<◌, ◌≤◌, ◌↔◌, ◌⊎◌, ℕ, ◌+◌, ◌++◌, ◌==◌, ◌&&◌, ◌∷◌, All, Bool, true, false, List, None, Some, get_or, length, not, slice_get, sum_by}
use Rattle.std.specs.List.{Contains, filter, list_all, list_any}
use Rattle.std.specs.Option.{option_map_or}
use Rattle.apply_hooks.specs.declared.phase.Phase.TheVariants.{Pre, PostDone}
use Rattle.apply_events.specs.declared.event.Event.{Event}
use Rattle.apply_events.specs.declared.lanes.turn.StartedTurn.{StartedTurn}
use Rattle.apply_events.specs.Fits.{HasStep, IsApplied}
use Rattle.apply_events.specs.Step.{Step, Work, kinds_of, steps_of}
use Rattle.apply_events.specs.declared.lanes.lane_time.LaneTime.{LaneTime}
use Rattle.apply_events.specs.Waits.Done.{end_of_turn, ready_at}
use Rattle.apply_events.specs.Waits.LaneTime.{IsNoLater, first_lane_time, is_earlier, later_of}
use Rattle.apply_events.specs.Waits.Schedule.{free_after, is_started}
use Rattle.apply_events.specs.Waits.Turn.{begun_steps, turns}
use Rattle.apply_events.specs.StepEvents.{goes_on, step_events, step_time}
use Rattle.apply_model.specs.declared.script.wait.Wait.{Wait}
use Rattle.apply_model.specs.Script.OutcomeMap.{OutcomeMap, stated_step, outcome_of}
use Rattle.apply_model.specs.Script.Step.{is_skipped}
use Rattle.apply_model.specs.Script.Waits.{could_begin, waits_of}

-- each change has at most two steps, as in every plan that was read
abbrev pub HasFewSteps : Work → Type 0
HasFewSteps work = (c : ℕ) → length (kinds_of work.plan c) ≤ 2

-- the event is of the step
abbrev pub is_of_step : Wait → Event → Bool
is_of_step name event = event.change == name.change && event.step == name.step

-- the step has an event among these
abbrev pub has_events : List Event → Wait → Bool
has_events events name = list_any (is_of_step name) events

-- the events of the step
abbrev pub events_of : Wait → List Event → List Event
events_of name events = filter (is_of_step name) events

-- the events of a step are all events that it has if it starts at some time in some lane
pub record IsWhole (work : Work) (events : List Event) (name : Wait) : Type 0 where
  pub step : Step
  pub lane : ℕ
  pub begin : ℕ
  pub is_step : slice_get (steps_of work name.change) name.step ≡ Some step
  pub are_all : events_of name events ≡ step_events lane step begin

-- each step that has events has all its events
abbrev pub AreWhole : Work → List Event → Type 0
AreWhole work events = (name : Wait) → has_events events name ≡ true → IsWhole work events name

-- after an event of a step comes no event of a step that it waits for
abbrev pub ComeAfterWhatTheyWaitFor : Work → List Event → Type 0
ComeAfterWhatTheyWaitFor work events = (before after : List Event) (event : Event) → events ≡ before ++ event ∷ after
    → All (λ name. has_events after name ≡ false) (waits_of work.script event.change event.step)

-- the change has the step, and goes on after it
abbrev pub goes_on_if_begun : Work → Wait → Bool
goes_on_if_begun work name = option_map_or goes_on (slice_get (steps_of work name.change) name.step) false

-- with these events the step is done: it has events, and its change goes on after it
abbrev pub is_done_along : Work → List Event → Wait → Bool
is_done_along work events name = has_events events name && goes_on_if_begun work name

-- a step only warns, and no hook halts it
pub record OnlyWarns (step : Step) : Type 0 where
  pub only_warns : step.only_warns ≡ true
  pub has_not_failed : step.fails ≡ false
  pub begins : step.halts Pre ≡ None
  pub is_not_halted : step.halts PostDone ≡ None

-- with these events the step has stopped: it has events, and has failed or was halted
abbrev pub has_stopped : Work → List Event → Wait → Bool
has_stopped work events name = has_events events name && not (goes_on_if_begun work name)

-- a step that is applied has events if and only if each step that it waits for is done
abbrev pub BeginWhereAllIsDone : Work → List Event → Type 0
BeginWhereAllIsDone work events = (c k : ℕ) → IsApplied work.plan work.script c k
    → has_events events (record { change = c; step = k }) ≡ list_all (is_done_along work events) (waits_of work.script c k)

-- ---- scripts that were read

-- the script names steps of the plan alone
abbrev pub NamesSteps : Work → Type 0
NamesSteps work = (c k : ℕ) → HasStep work.plan c k → All (λ name. HasStep work.plan name.change name.step) (outcome_of work.script c k).after

-- the script skips the step
abbrev pub skips : OutcomeMap → Wait → Bool
skips script name = option_map_or is_skipped (stated_step script name.change name.step) false

-- a step waits in vain for a step that has stopped, that is skipped, or that waits in vain itself
pub data WaitsInVain (work : Work) (events : List Event) : Wait → Type 0 where
  for_stopped : (name waited : Wait) → Contains (waits_of work.script name.change name.step) waited → has_stopped work events waited ≡ true
      → WaitsInVain work events name
  for_skipped : (name waited : Wait) → Contains (waits_of work.script name.change name.step) waited → skips work.script waited ≡ true
      → WaitsInVain work events name
  for_waiting : (name waited : Wait) → Contains (waits_of work.script name.change name.step) waited → WaitsInVain work events waited
      → WaitsInVain work events name

-- a step that could begin has no event if and only if the step is skipped or waits in vain
abbrev pub LeaveOutWhatWaitsInVain : Work → List Event → Type 0
LeaveOutWhatWaitsInVain work events = (c k : ℕ) → HasStep work.plan c k → could_begin work.script c k ≡ true
    → (has_events events (record { change = c; step = k }) ≡ false
    ↔ ((skips work.script (record { change = c; step = k }) ≡ true) ⊎ WaitsInVain work events (record { change = c; step = k })))

-- if no step has stopped or is skipped, each step that could begin has events
abbrev pub LeaveOutNoneWithoutNeed : Work → List Event → Type 0
LeaveOutNoneWithoutNeed work events = ((name : Wait) → has_stopped work events name ≡ false) → ((name : Wait) → skips work.script name ≡ false)
    → (c k : ℕ) → HasStep work.plan c k → could_begin work.script c k ≡ true → has_events events (record { change = c; step = k }) ≡ true

-- ---- how long it takes

-- the sum of the times of all steps that these turns begin
abbrev pub time_of_all : Work → List StartedTurn → ℕ
time_of_all work taken = sum_by (λ one. sum_by step_time (begun_steps work one.turn)) taken

-- A chain of waits that ends with a step takes so many seconds: the step's own time, and the time
-- of a chain that ends with a step that it waits for, if there is one.
pub data TakesAsLong (work : Work) : Wait → ℕ → Type 0 where
  alone : (name : Wait) (step : Step) → slice_get (steps_of work name.change) name.step ≡ Some step → TakesAsLong work name (step_time step)
  after_wait : (name other : Wait) (step : Step) (seconds : ℕ) → slice_get (steps_of work name.change) name.step ≡ Some step
      → Contains (waits_of work.script name.change name.step) other → TakesAsLong work other seconds
      → TakesAsLong work name (seconds + step_time step)

-- ---- the lanes

-- a turn is under way at the time `at`: it has started, and has not ended
abbrev pub is_under_way : Work → LaneTime → StartedTurn → Bool
is_under_way work at one = not (is_earlier at one.begin) && is_earlier at (end_of_turn work one)

-- ---- the queue

-- After the turns `before` the turn `one` is the next. It is ready first of all turns that were not
-- started, and no lane is free before its own. It starts when it is ready and its lane is free, no
-- earlier than any turn before it.
pub record IsNext (work : Work) (n : ℕ) (before : List StartedTurn) (one : StartedTurn) : Type 0 where
  pub at : LaneTime
  pub ready : ready_at work before one.turn ≡ Some at
  pub first : All (λ turn. is_started before turn ≡ false → (m : LaneTime) → ready_at work before turn ≡ Some m → IsNoLater at m) (turns work)
  pub begin : one.begin ≡ later_of at (get_or (free_after work n before) one.lane first_lane_time)
  pub free : (lane : ℕ) → lane < n
      → IsNoLater (get_or (free_after work n before) one.lane first_lane_time) (get_or (free_after work n before) lane first_lane_time)
  pub no_earlier : All (λ other. IsNoLater other.begin one.begin) before
