-- How long a step took, in seconds.
use Rattle.std.specs.Prelude.{ℕ, ℤ, ◌+◌, ◌-◌, ◌^◌, min, max, List, [], ◌∷◌, Option, Some, None}
use Rattle.std.specs.Int.{int_gap}
use Rattle.std.specs.Option.{option_map_or, option_or}
use Rattle.apply_model.specs.Script.Limits.{max_seconds}
use Rattle.stream_record_steps.specs.declared.begun_step.BegunStep.{BegunStep}
use Rattle.stream_record_steps.specs.declared.step_facts.StepFact.{StepFact}
use Rattle.stream_record_steps.specs.declared.step_facts.Stated.{Stated}
use Rattle.stream_record_steps.specs.declared.step_facts.Stated.TheVariants.{Progress, ProvisionerBegan, Wrote, ProvisionerEnded, ProvisionerFailed}

-- The seconds that progress states.
abbrev pub progress_of : Stated → Option ℕ
progress_of (Progress seconds) = Some seconds
progress_of (ProvisionerBegan name) = None
progress_of (Wrote output) = None
progress_of ProvisionerEnded = None
progress_of ProvisionerFailed = None

-- The seconds that the last progress states.
abbrev pub last_progress : List StepFact → Option ℕ
last_progress [] = None
last_progress (fact ∷ facts) = option_or (last_progress facts) (progress_of fact.stated)

-- One second more than the last progress, at most what 64 bits hold; 0 without progress.
abbrev pub after_progress : List StepFact → ℕ
after_progress facts = option_map_or (λ seconds. min (seconds + 1) (2 ^ 64 - 1)) (last_progress facts) 0

-- Without an end, a step took a second more than its last progress. In a stream that was cut off,
-- it took at least until the last message.
abbrev pub took_without_end : (cut_off_at : Option ℤ) → BegunStep → ℕ
took_without_end cut_off_at step =
    max (after_progress step.facts) (option_map_or (λ second. int_gap step.second second) cut_off_at 0)

-- An end states how long the step took.
abbrev pub took : (cut_off_at : Option ℤ) → BegunStep → ℕ
took cut_off_at step = option_map_or (λ end. end.seconds) step.end (took_without_end cut_off_at step)

-- The seconds of the step that a script may state.
abbrev pub whole : (cut_off_at : Option ℤ) → BegunStep → ℕ
whole cut_off_at step = min (took cut_off_at step) max_seconds
