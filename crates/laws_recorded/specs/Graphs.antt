-- Graphs in which no step waits for itself.
use Rattle.std.specs.Prelude.{◌≡◌, ◌<◌, ◌-◌, ℕ, List, Some, false, length, slice_get}
use Rattle.std.specs.List.{Contains}
use Rattle.stream_record_steps.specs.Steps.{PlannedStep, is_first_step}
use Rattle.stream_record_waits.specs.Graph.{waits_at}

-- The steps of a plan have ranks, by their places: each has a higher rank than the steps it waits
-- for in the graph, and than the step before it in its change.
pub record IsRankedGraph (planned : List PlannedStep) (graph : List (List ℕ)) : Type 0 where
  pub rank : ℕ → ℕ
  pub waits : (place other : ℕ) → place < length planned → Contains (waits_at graph place) other → rank other < rank place
  pub before : (place : ℕ) (step : PlannedStep) → slice_get planned place ≡ Some step → is_first_step step ≡ false → rank (place - 1) < rank place
