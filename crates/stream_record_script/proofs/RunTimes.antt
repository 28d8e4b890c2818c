-- How long a step takes that a script states.
use Rattle.std.proofs.Common.{◌≡◌, ◌<◌, ◌^◌, ℕ, List, Option, Some, None, arith, refl}
use Rattle.std.specs.Prelude.{IfSome, slice_get}
use Rattle.std.specs.Option.{option_flatten}
use Rattle.apply_model.specs.Script.Outcome.{took}
use Rattle.apply_model.proofs.Scripts.Limits.{in_time}
use Rattle.stream_record_outcomes.specs.Recording.{AreAllowed}
use Rattle.stream_record_outcomes.specs.declared.recorded_step.RecordedStep.{RecordedStep}
use Rattle.stream_record_steps.specs.Steps.{PlannedStep}
use Rattle.stream_record_script.specs.Runs.{recorded_at}

module _ (steps : List PlannedStep) (recorded : List (Option RecordedStep)) (place : ℕ) (step : PlannedStep) (allowed : AreAllowed steps recorded)
    (is : slice_get steps place ≡ Some step) where
  short_by : (o : Option (Option RecordedStep)) → slice_get recorded place ≡ o → IfSome (option_flatten o) (λ found. took step.kind found.outcome < 2 ^ 32)
  short_by None at = tt
  short_by (Some None) at = tt
  short_by (Some (Some found)) at = let short = in_time (Some found.outcome) (allowed place step found is at).bounded step.kind in omega (arith, short)

  pub few_seconds : IfSome (recorded_at recorded place) (λ found. took step.kind found.outcome < 2 ^ 32)
  few_seconds = short_by (slice_get recorded place) refl
