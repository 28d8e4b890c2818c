-- The events still to come at each stage of a step, as contracts of a runner see them.
use Rattle.std.specs.Prelude.{◌≡◌, ℕ, ◌+◌, None, List, [], ◌∷◌, ◌++◌, drop, map, sum_by, take, Bool, true, not, ◌&&◌, is_none, if◌then◌else◌}
use Rattle.std.specs.List.{list_all}
use Rattle.apply_hooks.specs.declared.phase.Phase.TheVariants.{Pre, PostDone}
use Rattle.apply_events.specs.declared.event.Event.{Event}
use Rattle.apply_events.specs.declared.mid_step.MidStep.{MidStep}
use Rattle.apply_events.specs.declared.stage.Stage.{Stage}
use Rattle.apply_events.specs.declared.stage.Stage.TheVariants.{Before, Running, Noting, Halting, Over}
use Rattle.apply_events.specs.declared.what.What.TheVariants.{Halted}
use Rattle.apply_events.specs.ChangeEvents.{begun, in_turn}
use Rattle.apply_events.specs.MidStep.{left_of}
use Rattle.apply_events.specs.Notes.{note_of}
use Rattle.apply_events.specs.Step.{Step}
use Rattle.apply_events.specs.StepEvents.{endings, event, halts, goes_on, phase_after, seconds_of, step_events, step_time}

-- The events still to come of a step that started at `at`.
abbrev pub running : (worker : ℕ) → Step → (at : ℕ) → MidStep → List Event
running worker step at mid =
    map (λ p. event worker step (at + p.0) p.1) (left_of (seconds_of step) step.seconds_before step.ran mid)
    ++ map (λ what. event worker step (at + seconds_of step) what) (endings step)
    ++ halts worker step (phase_after step.fails) (at + seconds_of step)

-- The halt after the step, if a hook halts.
abbrev pub halt_after : (worker : ℕ) → Step → (at : ℕ) → List Event
halt_after worker step at = halts worker step (phase_after step.fails) (at + seconds_of step)

-- The events of these steps from `at` on.
abbrev pub events_from : (worker : ℕ) → List Step → (at : ℕ) → List Event
events_from worker steps at = in_turn (step_events worker) step_time (begun steps) at

-- The events of the steps after a step that has started.
abbrev pub later_events : (worker : ℕ) → Step → List Step → (at : ℕ) → List Event
later_events worker step steps at =
    if not step.fails && is_none (step.halts PostDone) then events_from worker steps (at + seconds_of step) else []

-- The events still to come, where the first of these steps is at that stage.
abbrev pub from_stage : (worker : ℕ) → List Step → (at : ℕ) → Stage → List Event
from_stage worker steps at Before = events_from worker steps at
from_stage worker steps at Over = []
from_stage worker [] at (Running mid) = []
from_stage worker [] at Noting = []
from_stage worker [] at (Halting hook) = []
from_stage worker (step ∷ steps) at (Running mid) = running worker step at mid ++ later_events worker step steps at
from_stage worker (step ∷ steps) at Noting =
    event worker step (at + seconds_of step) (note_of step.fails)
    ∷ (halt_after worker step at ++ later_events worker step steps at)
from_stage worker (step ∷ steps) at (Halting hook) =
    event worker step (at + seconds_of step) (Halted (phase_after step.fails) hook) ∷ []

-- ---- where a runner may stand

-- The time of the steps before step k, or of all steps that began where the change is over.
abbrev pub time_before : List Step → (k : ℕ) → Stage → ℕ
time_before steps k Over = sum_by step_time (begun steps)
time_before steps k Before = sum_by step_time (take k steps)
time_before steps k (Running mid) = sum_by step_time (take k steps)
time_before steps k Noting = sum_by step_time (take k steps)
time_before steps k (Halting hook) = sum_by step_time (take k steps)

-- The first of these steps can come to the stage.
abbrev pub is_reached : List Step → Stage → Bool
is_reached steps Before = true
is_reached steps Over = true
is_reached [] (Running mid) = true
is_reached [] Noting = true
is_reached [] (Halting hook) = true
is_reached (step ∷ steps) (Running mid) = is_none (step.halts Pre)
is_reached (step ∷ steps) Noting = is_none (step.halts Pre)
is_reached (step ∷ steps) (Halting hook) = is_none (step.halts Pre) && not (goes_on step)

-- Step k can come to the stage.
abbrev pub is_on_course : List Step → (k : ℕ) → Stage → Bool
is_on_course steps k Over = true
is_on_course steps k Before = list_all goes_on (take k steps)
is_on_course steps k (Running mid) = list_all goes_on (take k steps) && is_reached (drop k steps) (Running mid)
is_on_course steps k Noting = list_all goes_on (take k steps) && is_reached (drop k steps) Noting
is_on_course steps k (Halting hook) = list_all goes_on (take k steps) && is_reached (drop k steps) (Halting hook)

-- The current step has started. The steps before it have gone on, and took the time since `begin`.
pub record IsUnderWay (steps : List Step) (k : ℕ) (s : Step) (begin at : ℕ) : Type 0 where
  pub step : drop k steps ≡ s ∷ drop (k + 1) steps
  pub reached : list_all goes_on (take k steps) ≡ true
  pub unhalted : s.halts Pre ≡ None
  pub time : at ≡ begin + sum_by step_time (take k steps)
