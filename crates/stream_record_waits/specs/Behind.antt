-- Behind which step a step begins in the stream.
use Rattle.std.specs.Prelude.{◌≡◌, ◌<◌, ◌≤◌, ℕ, List, length, slice_index_or, Option, Some, None}
use Rattle.stream_record_waits.specs.declared.step_of_plan.StepOfPlan.{StepOfPlan}
use Rattle.stream_record_waits.specs.declared.step_of_plan.StepRun.{StepRun}
use Rattle.stream_record_waits.specs.Steps.{completion_at, step_at}

-- The steps that completed, whose ends stand before a line.
abbrev pub EndsBefore : (steps : List StepOfPlan) → (line step end : ℕ) → Type 0
EndsBefore steps line step end = (step < length steps) × (completion_at steps step ≡ Some end) × (end < line)

-- Of the steps that completed, the one whose end stands last before a line.
pub record EndsLastBefore (steps : List StepOfPlan) (line step : ℕ) : Type 0 where
  pub end : ℕ
  pub ends : EndsBefore steps line step end
  pub last : (other other_end : ℕ) → EndsBefore steps line other other_end → other_end ≤ end

-- The step that completed last before a line. There is none where no step completed before it.
abbrev pub IsLastBefore : (steps : List StepOfPlan) → (line : ℕ) → Option ℕ → Type 0
IsLastBefore steps line None = (other other_end : ℕ) → EndsBefore steps line other other_end → ⊥
IsLastBefore steps line (Some step) = EndsLastBefore steps line step

-- The step behind which a step begins. There is none for a step that did not begin.
abbrev pub IsBehind : (steps : List StepOfPlan) → Option StepRun → Option ℕ → Type 0
IsBehind steps None behind = behind ≡ None
IsBehind steps (Some run) behind = IsLastBefore steps run.line behind

-- The same for the first steps, that many.
pub record AreFirstBehind (steps : List StepOfPlan) (count : ℕ) (behind : List (Option ℕ)) : Type 0 where
  pub each : length behind ≡ count
  pub are : (step : ℕ) → step < count → IsBehind steps (step_at steps step).run (slice_index_or behind step None)

-- The step behind which each step begins.
abbrev pub AreBehind : (steps : List StepOfPlan) → (behind : List (Option ℕ)) → Type 0
AreBehind steps behind = AreFirstBehind steps (length steps) behind
