-- How the changes of a plan are applied, and which events that gives.
use Rattle.std.specs.Prelude.{◌≡◌, ℕ, List, true, false, ⊤}
use Rattle.apply_plan.specs.Script.OutcomeMap.{OutcomeMap}
use Rattle.apply_plan.specs.Script.Waits.{has_waits}
use Rattle.apply_events.specs.declared.event.Event.{Event}
use Rattle.apply_events.specs.Lanes.{AreLanes}
use Rattle.apply_events.specs.Step.{Work}
use Rattle.apply_events.specs.Waits.TimeLine.{IsTimeLine}
use Rattle.apply_run.specs.Applied.{IsApplied, IsAppliedInPart}
use Rattle.apply_run.specs.Options.{AreWorkers}

-- so many workers, and so many events that may wait to be written; or so many lanes in the stream's
-- own time, without threads
pub data Schedule : Type 0 where
  ByWorkers : (workers capacity : ℕ) → Schedule
  InLanes : (lanes : ℕ) → Schedule

-- the changes were dealt to the workers in some way; these are all events of each, in its order
pub record IsRunOfWorkers (workers : ℕ) (work : Work) (events : List Event) : Type 0 where
  pub lists : List (List ℕ)
  pub applied : IsApplied work workers lists events

-- and these are a prefix of the events of each
pub record IsPartOfWorkers (workers : ℕ) (work : Work) (events : List Event) : Type 0 where
  pub lists : List (List ℕ)
  pub applied : IsAppliedInPart work workers lists events

-- ---- what a schedule decides

-- these are all events of the work
abbrev pub IsRunOf : Schedule → Work → List Event → Type 0
IsRunOf (ByWorkers workers capacity) work events = IsRunOfWorkers workers work events
IsRunOf (InLanes lanes) work events = IsTimeLine work lanes events

-- these are a part of them, since an event was lost between threads
abbrev pub IsPartOf : Schedule → Work → List Event → Type 0
IsPartOf (ByWorkers workers capacity) work events = IsPartOfWorkers workers work events
IsPartOf (InLanes lanes) work events = ⊥

-- it starts threads, which may be refused
abbrev pub StartsThreads : Schedule → Type 0
StartsThreads (ByWorkers workers capacity) = ⊤
StartsThreads (InLanes lanes) = ⊥

-- its sizes are in range
abbrev pub IsOfSize : Schedule → Type 0
IsOfSize (ByWorkers workers capacity) = AreWorkers workers capacity
IsOfSize (InLanes lanes) = AreLanes lanes

-- it keeps the dependencies that the script states: workers keep none
abbrev pub KeepsWaits : Schedule → OutcomeMap → Type 0
KeepsWaits (ByWorkers workers capacity) script = has_waits script ≡ false
KeepsWaits (InLanes lanes) script = ⊤

abbrev pub MissesWaits : Schedule → OutcomeMap → Type 0
MissesWaits (ByWorkers workers capacity) script = has_waits script ≡ true
MissesWaits (InLanes lanes) script = ⊥
