-- A step as a script states it (the script's own format).
use Rattle.std.specs.Prelude.{ℕ, List, Bool, true, false, nat_lt, Option, Some, None, option_and_then, if◌then◌else◌}
use Rattle.apply_model.specs.declared.script.outcome.Outcome.{Outcome}
use Rattle.apply_model.specs.declared.script.script_step.ScriptStep.{ScriptStep}
use Rattle.apply_model.specs.declared.script.script_step.ScriptStep.TheVariants.{Answered, Skipped}
use Rattle.apply_model.specs.declared.script.wait.Wait.{Wait}

-- The step is skipped: it does not start.
abbrev pub is_skipped : ScriptStep → Bool
is_skipped (Answered outcome) = false
is_skipped (Skipped after) = true

-- The answer of the provider; none where the step is skipped.
abbrev pub answer_to : ScriptStep → Option Outcome
answer_to (Answered outcome) = Some outcome
answer_to (Skipped after) = None

-- The steps that the script names in `after`, whether or not the step is skipped.
abbrev pub after_of : ScriptStep → List Wait
after_of (Answered outcome) = outcome.after
after_of (Skipped after) = after

-- The number, where it fits 8 bits.
abbrev pub if_byte : Option ℕ → Option ℕ
if_byte answer = option_and_then (λ number. if nat_lt number 256 then Some number else None) answer
