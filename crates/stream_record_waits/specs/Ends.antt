-- The ends of steps that completed, for private clauses: the line, and the number of the step.
use Rattle.std.specs.Prelude.{◌≡◌, ◌<◌, ◌≤◌, ℕ, List, All, Option, Some, None}
use Rattle.std.specs.List.{Contains}
use Rattle.stream_record_waits.specs.declared.step_of_plan.StepOfPlan.{StepOfPlan}
use Rattle.stream_record_waits.specs.declared.step_of_plan.StepRun.{StepRun}
use Rattle.stream_record_waits.specs.Steps.{completion_at}

-- These are the ends of the first steps, that many.
pub record AreEnds (steps : List StepOfPlan) (count : ℕ) (ends : List (ℕ × ℕ)) : Type 0 where
  pub sound : All (λ end. (end.1 < count) × (completion_at steps end.1 ≡ Some end.0)) ends
  pub complete : (step line : ℕ) → step < count → completion_at steps step ≡ Some line → Contains ends (line, step)

-- The end stands last before a line.
pub record IsLastEnd (ends : List (ℕ × ℕ)) (line : ℕ) (end : ℕ × ℕ) : Type 0 where
  pub among : Contains ends end
  pub before : end.0 < line
  pub last : All (λ other. other.0 < line → other.0 ≤ end.0) ends

-- The step of the end that stands last before a line, if one does.
abbrev pub IsStepOfLast : (ends : List (ℕ × ℕ)) → (line : ℕ) → Option ℕ → Type 0
IsStepOfLast ends line None = All (λ other. line ≤ other.0) ends
IsStepOfLast ends line (Some step) = (end : ℕ) × IsLastEnd ends line (end, step)

abbrev pub IsEndBefore : (ends : List (ℕ × ℕ)) → Option StepRun → Option ℕ → Type 0
IsEndBefore ends None step = step ≡ None
IsEndBefore ends (Some run) step = IsStepOfLast ends run.line step
