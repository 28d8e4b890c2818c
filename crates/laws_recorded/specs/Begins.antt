-- The order in which steps began and ended.
use Rattle.std.specs.Prelude.{◌≡◌, ◌<◌, ◌≤◌, ◌-◌, ℕ, List, Option, Some, IfSome, false, slice_get}
use Rattle.stream_record_steps.specs.declared.begun_step.BegunStep.{BegunStep}
use Rattle.stream_record_steps.specs.Begun.{Begun, begun_at}
use Rattle.stream_record_steps.specs.Steps.{PlannedStep, is_first_step}

-- The step at the place began before that line.
pub record IsBegunBefore (by_step : List (Option BegunStep)) (place line : ℕ) : Type 0 where
  pub step : BegunStep
  pub began : begun_at by_step place ≡ Some step
  pub earlier : step.line < line

-- No step ends before it begins, and the second step of a change begins after the first one.
pub record BeginInOrder (begun : Begun) : Type 0 where
  pub ends : (place : ℕ) (step : BegunStep) → begun_at begun.by_step place ≡ Some step → IfSome step.end (λ end. step.line ≤ end.line)
  pub begins : (place : ℕ) (planned : PlannedStep) (step : BegunStep) → slice_get begun.planned place ≡ Some planned → is_first_step planned ≡ false
      → begun_at begun.by_step place ≡ Some step → IsBegunBefore begun.by_step (place - 1) step.line
