-- Events of a run, change by change: those of the change's steps, one after another, each step
-- whole.
use Rattle.std.specs.Prelude.{◌≡◌, ◌<◌, ◌==◌, ◌++◌, ◌⊎◌, ℕ, All, List, [], ◌∷◌, false, length, true, ⊤}
use Rattle.std.specs.List.{filter}
use Rattle.apply_events.specs.declared.event.Event.{Event}
use Rattle.apply_events.specs.Fits.{HasStep}
use Rattle.apply_events.specs.Step.{Step, Work, steps_of}
use Rattle.apply_events.specs.StepEvents.{goes_on, step_events}
use Rattle.apply_run.specs.Schedule.{ByWorkers, InLanes, Schedule}
use Rattle.laws_run.specs.WaitingSteps.{HasFewSteps}

-- the events of change c
abbrev pub events_of_change : (c : ℕ) → List Event → List Event
events_of_change c events = filter (λ (event : Event). event.change == c) events

-- The events are those of the first of these steps, one step after another. Each step has all
-- events that it has if it starts at some time, whoever applies it. After a step that does not go
-- on there are none.
abbrev pub AreOfSteps : List Step → List Event → Type 0
AreOfSteps [] events = events ≡ []
AreOfSteps (step ∷ steps) events =
    (events ≡ [])
    ⊎ ((worker : ℕ) × (begin : ℕ) × (rest : List Event) × (events ≡ step_events worker step begin ++ rest)
    × (goes_on step ≡ true → AreOfSteps steps rest) × (goes_on step ≡ false → rest ≡ []))

-- the plan has the step of each event, and each change has the events of its steps
pub record IsOfWholeSteps (work : Work) (events : List Event) : Type 0 where
  pub planned : All (λ event. HasStep work.plan event.change event.step) events
  pub whole : (c : ℕ) → c < length work.plan.changes → AreOfSteps (steps_of work c) (events_of_change c events)

-- in lanes there is at least one, and no change has more than two steps
abbrev pub CanRun : Schedule → Work → Type 0
CanRun (ByWorkers workers capacity) work = ⊤
CanRun (InLanes lanes) work = (0 < lanes) × HasFewSteps work
