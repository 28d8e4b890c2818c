-- Waits of a graph that a stream kept.
use Rattle.std.specs.Prelude.{ℕ, List}
use Rattle.std.specs.List.{Contains}
use Rattle.stream_record_waits.specs.declared.step_of_plan.StepOfPlan.{StepOfPlan}
use Rattle.stream_record_waits.specs.Graph.{waits_at}
use Rattle.stream_record_waits.specs.Recorded.{AreSoundWaits}

-- The graph has a list for each step, in order, of steps that there are, and never of the step
-- itself. Each wait of a step that began was done before it began.
pub record AreKept (steps : List StepOfPlan) (graph : List (List ℕ)) : Type 0 where
  pub sound : AreSoundWaits steps graph
  pub others : (step : ℕ) → Contains (waits_at graph step) step → ⊥
