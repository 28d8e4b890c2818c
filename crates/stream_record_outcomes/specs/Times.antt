-- When each fact of a step came, in seconds since the step began.
use Rattle.std.specs.Prelude.{ℕ, ℤ, ◌-◌, min, max, List, [], ◌∷◌}
use Rattle.std.specs.Int.{int_gap}
use Rattle.std.specs.Option.{option_map_or}
use Rattle.stream_record_steps.specs.declared.begun_step.BegunStep.{BegunStep}
use Rattle.stream_record_steps.specs.declared.step_facts.StepFact.{StepFact}
use Rattle.stream_record_steps.specs.declared.step_facts.Stated.{Stated}
use Rattle.stream_record_outcomes.specs.Took.{progress_of}

-- A fact of a step, and when it came.
pub record TimedFact : Type 0 where
  pub second : ℕ
  pub stated : Stated

-- ---- from the last to the first

-- The latest second of what comes before this fact, by that of what comes before the facts after it.
abbrev pub latest_with : (whole latest : ℕ) → StepFact → ℕ
latest_with whole latest fact = option_map_or (λ seconds. min (seconds - 1) whole) (progress_of fact.stated) latest

-- The latest second of what comes before these facts: one before the next progress, and never after
-- the whole.
abbrev pub latest_before : (whole : ℕ) → List StepFact → ℕ
latest_before whole [] = whole
latest_before whole (fact ∷ facts) = latest_with whole (latest_before whole facts) fact

-- The second of a fact by itself. Progress states it, and any other fact has that of its line, but
-- none after the latest.
abbrev pub own_second : (begin : ℤ) → (whole latest : ℕ) → StepFact → ℕ
own_second begin whole latest fact =
    option_map_or (λ seconds. min seconds whole) (progress_of fact.stated) (min (int_gap begin fact.second) latest)

abbrev pub own_fact : (begin : ℤ) → (whole latest : ℕ) → StepFact → TimedFact
own_fact begin whole latest fact = record { second = own_second begin whole latest fact; stated = fact.stated }

-- The facts, each no later than the facts after it allow.
abbrev pub bounded : (begin : ℤ) → (whole : ℕ) → List StepFact → List TimedFact
bounded begin whole [] = []
bounded begin whole (fact ∷ facts) = own_fact begin whole (latest_before whole facts) fact ∷ bounded begin whole facts

-- ---- from the first to the last

abbrev pub no_earlier : (low : ℕ) → TimedFact → TimedFact
no_earlier low fact = record { second = max low fact.second; stated = fact.stated }

-- The facts, none earlier than a fact before it, or than `low`.
abbrev pub rising : (low : ℕ) → List TimedFact → List TimedFact
rising low [] = []
rising low (fact ∷ facts) = no_earlier low fact ∷ rising (max low fact.second) facts

-- The facts of a step that takes these seconds.
abbrev pub timed_facts : (whole : ℕ) → BegunStep → List TimedFact
timed_facts whole step = rising 0 (bounded step.second whole step.facts)
