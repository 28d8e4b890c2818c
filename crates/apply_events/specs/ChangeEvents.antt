-- The events of a change, and how long the change takes.
use Rattle.std.specs.Prelude.{ℕ, ◌+◌, List, [], ◌∷◌, ◌++◌, sum_by, take, if◌then◌else◌}
use Rattle.apply_events.specs.declared.event.Event.{Event}
use Rattle.apply_events.specs.Step.{Step, Work, steps_of}
use Rattle.apply_events.specs.StepEvents.{goes_on, step_events, step_time}

-- Lists of events one after another. The first begins at `at`, and each next one begins where the
-- list before it ends.
abbrev pub in_turn : {X : Type 0} → (X → (at : ℕ) → List Event) → (X → ℕ) → List X → (at : ℕ) → List Event
in_turn events time [] at = []
in_turn events time (x ∷ xs) at = events x at ++ in_turn events time xs (at + time x)

-- The steps that begin: all up to and with the first that does not go on.
abbrev pub begun : List Step → List Step
begun [] = []
begun (step ∷ steps) = step ∷ (if goes_on step then begun steps else [])

-- The events of change c, which begins at `at`.
abbrev pub change_events : Work → (worker c at : ℕ) → List Event
change_events work worker c at = in_turn (step_events worker) step_time (begun (steps_of work c)) at

-- How long the first step of change c takes, in seconds.
abbrev pub first_time : Work → ℕ → ℕ
first_time work c = sum_by step_time (take 1 (steps_of work c))

-- How long change c takes, in seconds.
abbrev pub span_of : Work → ℕ → ℕ
span_of work c = sum_by step_time (begun (steps_of work c))
