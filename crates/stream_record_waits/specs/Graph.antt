-- What a step waits for where there is a graph. The graph has the waits of each step, by number.
use Rattle.std.specs.Prelude.{◌≡◌, ◌≢◌, ◌<◌, ◌+◌, ℕ, List, [], ◌++◌, All, length, true, false, slice_index_or, Option, Some, None, option_to_list}
use Rattle.std.specs.List.{Contains, sum_by}
use Rattle.std.specs.List.Sorted.{IsStrictlyIncreasing}
use Rattle.stream_record_waits.specs.declared.step_of_plan.StepOfPlan.{StepOfPlan}
use Rattle.stream_record_waits.specs.declared.step_of_plan.StepRun.{StepRun}
use Rattle.stream_record_waits.specs.Steps.{has_begun, is_done_before, step_at, step_before}

-- The waits of a step.
abbrev pub waits_at : (lists : List (List ℕ)) → ℕ → List ℕ
waits_at lists step = slice_index_or lists step []

-- The waits of so many steps: each in order, and of steps that there are.
pub record AreWaitsOf (count : ℕ) (lists : List (List ℕ)) : Type 0 where
  pub each : length lists ≡ count
  pub in_order : (step : ℕ) → step < count → IsStrictlyIncreasing (waits_at lists step)
  pub known : (step : ℕ) → step < count → All (λ other. other < count) (waits_at lists step)

-- What a step passes on where it was not done: its own waits, and the step before it in its change.
abbrev pub passed_on : (steps : List StepOfPlan) → (graph : List (List ℕ)) → ℕ → List ℕ
passed_on steps graph step = waits_at graph step ++ option_to_list (step_before steps step)

-- The steps that a step reaches: those that it waits for, and those that a reached step passes on.
-- A step passes on where it was not done before that line.
pub data Reaches (steps : List StepOfPlan) (graph : List (List ℕ)) (start line : ℕ) : ℕ → Type 0 where
  directly : (other : ℕ) → Contains (waits_at graph start) other → Reaches steps graph start line other
  through : (step other : ℕ) → Reaches steps graph start line step → is_done_before steps step line ≡ false
      → Contains (passed_on steps graph step) other → Reaches steps graph start line other

-- A step that began waits for each other step that it reaches and that was done before.
pub record WaitsFor (steps : List StepOfPlan) (graph : List (List ℕ)) (step line other : ℕ) : Type 0 where
  pub reaches : Reaches steps graph step line other
  pub done : is_done_before steps other line ≡ true
  pub differs : other ≢ step

-- A step began too early for each step that it reaches and that had begun, or began later, but was
-- not done before.
pub record IsEarlyFor (steps : List StepOfPlan) (graph : List (List ℕ)) (step line other : ℕ) : Type 0 where
  pub reaches : Reaches steps graph step line other
  pub begun : has_begun steps other ≡ true
  pub not_done : is_done_before steps other line ≡ false

-- The numbers for which a fact holds, in their order, each once.
pub record AreAll (P : ℕ → Type 0) (numbers : List ℕ) : Type 0 where
  pub in_order : IsStrictlyIncreasing numbers
  pub sound : (number : ℕ) → Contains numbers number → P number
  pub complete : (number : ℕ) → P number → Contains numbers number

-- What a step waits for, and for which steps it began too early. A step that did not begin keeps
-- all its waits.
abbrev pub AreStepWaits : (steps : List StepOfPlan) → (graph : List (List ℕ)) → (step : ℕ) → Option StepRun → (after early : List ℕ) → Type 0
AreStepWaits steps graph step None after early = (after ≡ waits_at graph step) × (early ≡ [])
AreStepWaits steps graph step (Some run) after early =
    AreAll (WaitsFor steps graph step run.line) after × AreAll (IsEarlyFor steps graph step run.line) early

-- The same for the first steps: an item of each list for each, by number.
pub record AreFirstWaits (steps : List StepOfPlan) (graph : List (List ℕ)) (count : ℕ) (after early : List (List ℕ)) : Type 0 where
  pub each : length after ≡ count
  pub each_early : length early ≡ count
  pub waits : (step : ℕ) → step < count → AreStepWaits steps graph step (step_at steps step).run (waits_at after step) (waits_at early step)

-- How many waits there are.
abbrev pub count_of : (after early : List (List ℕ)) → ℕ
count_of after early = sum_by length after + sum_by length early
