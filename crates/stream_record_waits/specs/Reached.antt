-- The steps that a search found, for private clauses.
use Rattle.std.specs.Prelude.{◌≡◌, ◌<◌, ◌≤◌, ◌==◌, ◌&&◌, ℕ, List, [], ◌∷◌, ◌++◌, All, Bool, fold, length, not, slice_index, if◌then◌else◌}
use Rattle.std.specs.List.{Contains, list_any}
use Rattle.std.specs.List.Sorted.{IsStrictlyIncreasing}
use Rattle.stream_record_waits.specs.declared.reached.Reached.{Reached}
use Rattle.stream_record_waits.specs.declared.step_of_plan.StepOfPlan.{StepOfPlan}
use Rattle.stream_record_waits.specs.Steps.{has_begun, is_done_before}

-- The steps with one more at the end, unless it is there.
abbrev pub with_step : (steps : List ℕ) → ℕ → List ℕ
with_step steps step = if list_any (λ other. other == step) steps then steps else steps ++ step ∷ []

abbrev pub with_all : (steps more : List ℕ) → List ℕ
with_all steps more = fold with_step steps more

-- No search after this one has found a step.
abbrev pub IsLatest : Reached → Type 0
IsLatest reached = All (λ search. search ≤ reached.search) reached.found_by.items

-- The search marked the steps that it found, and no others.
pub record IsMarked (reached : Reached) : Type 0 where
  pub latest : IsLatest reached
  pub marked : (step : ℕ) → step < length reached.found_by.items
      → (slice_index reached.found_by.items step == reached.search) ≡ list_any (λ other. other == step) reached.steps.items

-- The number of steps that a search can find.
abbrev pub size_of : Reached → ℕ
size_of reached = length reached.found_by.items

-- A step waits for a step that it reaches: another one that was done before.
abbrev pub is_wait : (steps : List StepOfPlan) → (step line other : ℕ) → Bool
is_wait steps step line other = not (other == step) && is_done_before steps other line

-- A step began too early for a step that it reaches: one that began, and was not done before.
abbrev pub is_early : (steps : List StepOfPlan) → (line other : ℕ) → Bool
is_early steps line other = has_begun steps other && not (is_done_before steps other line)

-- The same numbers in their order, each once.
pub record AreInOrder (numbers ordered : List ℕ) : Type 0 where
  pub in_order : IsStrictlyIncreasing ordered
  pub sound : (number : ℕ) → Contains ordered number → Contains numbers number
  pub complete : (number : ℕ) → Contains numbers number → Contains ordered number
