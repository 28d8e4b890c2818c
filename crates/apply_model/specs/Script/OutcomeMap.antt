-- What a script states of the steps of a plan.
use Rattle.std.specs.Prelude.{ℕ, List, Option, IfSome, option_and_then, slice_get, unwrap_or}
use Rattle.std.specs.List.{position_from}
use Rattle.apply_model.specs.declared.script.outcome.Outcome.{Outcome}
use Rattle.apply_model.specs.declared.script.script_step.ScriptStep.{ScriptStep}
use Rattle.apply_model.specs.Script.Outcome.{IsBounded, default_outcome}
use Rattle.apply_model.specs.Script.Step.{answer_to, if_byte, is_skipped}

-- For each change of a plan, by number: the first steps of the change as the script states them, or
-- nothing.
abbrev pub OutcomeMap : Type 0
OutcomeMap = List (Option (List ScriptStep))

-- The steps that the script states for the change of that number.
abbrev pub stated_steps : OutcomeMap → ℕ → Option (List ScriptStep)
stated_steps script number = option_and_then (λ stated. stated) (slice_get script number)

-- Step k of change c as the script states it.
abbrev pub stated_step : OutcomeMap → (c k : ℕ) → Option ScriptStep
stated_step script c k = option_and_then (λ steps. slice_get steps k) (stated_steps script c)

-- The outcome that the script states for step k of change c. A skipped step has none.
abbrev pub stated_outcome : OutcomeMap → (c k : ℕ) → Option Outcome
stated_outcome script c k = option_and_then answer_to (stated_step script c k)

-- The outcome of step k of change c: the stated one, or the default.
abbrev pub outcome_of : OutcomeMap → (c k : ℕ) → Outcome
outcome_of script c k = unwrap_or (stated_outcome script c k) default_outcome

-- The number of the first step of change c that the script skips, where the number fits 8 bits.
abbrev pub first_skipped : OutcomeMap → (c : ℕ) → Option ℕ
first_skipped script c = option_and_then (λ steps. if_byte (position_from is_skipped 0 steps)) (stated_steps script c)

-- Each step that the script states, with its provisioners, is within the limits.
abbrev pub IsInRange : OutcomeMap → Type 0
IsInRange script = (c k : ℕ) → IfSome (stated_outcome script c k) IsBounded
