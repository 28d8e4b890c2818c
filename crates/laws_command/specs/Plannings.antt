-- The objects of a planning, along its events. Event number `change` is of the told object with
-- that number.
use Rattle.std.specs.Prelude.{◌≡◌, ℕ, ◌++◌, ◌∷◌, ◌&&◌, ◌||◌, Bool, false, List, not, Some, slice_get, true}
use Rattle.std.specs.List.{enumerate_from, list_all}
use Rattle.apply_events.specs.declared.event.Event.{Event}
use Rattle.apply_events.specs.declared.lanes.lane_time.LaneTime.{LaneTime}
use Rattle.apply_events.specs.Waits.Turn.{single}
use Rattle.apply_planning.specs.declared.told.Told.{Told}
use Rattle.apply_planning.specs.Names.{name_wait}
use Rattle.apply_planning.specs.PlanningWork.{is_error, is_needed}
use Rattle.apply_planning.specs.ToldEvents as planned
use Rattle.laws_run.specs.WaitingSteps.{events_of, has_events}

-- after an event of an object comes no event of an object that it waits for
abbrev pub ComeAfterWhatTheyNeed : List Told → List Event → Type 0
ComeAfterWhatTheyNeed told events = (before after : List Event) (event : Event) (one other : Told) (number : ℕ)
    → events ≡ before ++ event ∷ after → slice_get told event.change ≡ Some one → slice_get told number ≡ Some other
    → is_needed one other ≡ true → has_events after (name_wait number) ≡ false

-- the events of the object are those of one start in one lane: the start, the progress of a read,
-- and then its completion, its warning, or its failure with the diagnostic
pub record RunsOnce (events : List Event) (number : ℕ) (one : Told) : Type 0 where
  pub lane : ℕ
  pub begin : LaneTime
  pub are_all : events_of (name_wait number) events ≡ planned.events_of one (record { turn = single number 0; lane = lane; begin = begin })

-- each object that has events is started once, and ends once or fails
abbrev pub RunOnce : List Told → List Event → Type 0
RunOnce told events = (number : ℕ) (one : Told) → slice_get told number ≡ Some one
    → has_events events (name_wait number) ≡ true → RunsOnce events number one

-- the object is done: it has events, and does not fail with an error
abbrev pub is_done : List Event → ℕ × Told → Bool
is_done events p = has_events events (name_wait p.0) && not (is_error p.1.failure)

-- an object is refreshed or read if and only if each object that it waits for is done
abbrev pub BeginWhereAllIsDone : List Told → List Event → Type 0
BeginWhereAllIsDone told events = (number : ℕ) (one : Told) → slice_get told number ≡ Some one
    → has_events events (name_wait number) ≡ list_all (λ p. not (is_needed one p.1) || is_done events p) (enumerate_from 0 told)
