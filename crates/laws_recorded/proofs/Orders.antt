-- Orders of steps in which each step comes after those that it waits for.
use Rattle.std.specs.Prelude.{◌≡◌, ◌<◌, ◌≤◌, ℕ, List, Some, length}
use Rattle.std.specs.List.{Contains}
use Rattle.stream_record_waits.specs.declared.step_of_plan.StepOfPlan.{StepOfPlan}
use Rattle.stream_record_waits.specs.declared.step_of_plan.StepRun.{StepRun}
use Rattle.stream_record_waits.specs.Graph.{waits_at}
use Rattle.stream_record_waits.specs.Steps.{done_line, step_at, step_before}

-- The steps have ranks: each has a higher rank than the steps it waits for in the graph, and than
-- the step before it in its change.
pub record HasRanks (steps : List StepOfPlan) (graph : List (List ℕ)) : Type 0 where
  pub rank : ℕ → ℕ
  pub waits : (step other : ℕ) → step < length steps → Contains (waits_at graph step) other → rank other < rank step
  pub before : (step other : ℕ) → step < length steps → step_before steps step ≡ Some other → rank other < rank step

-- The second step of a change began after the first one.
pub record BeganAfter (steps : List StepOfPlan) (line other : ℕ) : Type 0 where
  pub run : StepRun
  pub began : (step_at steps other).run ≡ Some run
  pub earlier : run.line < line

-- A step ends no earlier than it began, and the second step of a change begins after the first one
-- began.
pub record KeepOrder (steps : List StepOfPlan) : Type 0 where
  pub ends : (step done : ℕ) (run : StepRun) → (step_at steps step).run ≡ Some run → done_line run ≡ Some done → run.line ≤ done
  pub begins : (step other : ℕ) (run : StepRun) → (step_at steps step).run ≡ Some run → step_before steps step ≡ Some other
      → BeganAfter steps run.line other
