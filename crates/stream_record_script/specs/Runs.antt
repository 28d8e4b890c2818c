-- The steps of a plan, with what a stream and their outcomes report of them.
use Rattle.std.specs.Prelude.{ℕ, ◌+◌, List, [], ◌∷◌, slice_get, Option, option_map}
use Rattle.std.specs.Option.{option_and_then, option_flatten}
use Rattle.apply_model.specs.Script.Outcome.{took}
use Rattle.stream_record_steps.specs.declared.begun_step.BegunStep.{BegunStep}
use Rattle.stream_record_steps.specs.Begun.{Begun, begun_at}
use Rattle.stream_record_steps.specs.Steps.{PlannedStep, is_first_step}
use Rattle.stream_record_outcomes.specs.declared.fate.Fate.{Fate}
use Rattle.stream_record_outcomes.specs.declared.fate.Fate.TheVariants as fate
use Rattle.stream_record_outcomes.specs.declared.recorded_step.RecordedStep.{RecordedStep}
use Rattle.stream_record_waits.specs.declared.step_of_plan.RunFate.{RunFate}
use Rattle.stream_record_waits.specs.declared.step_of_plan.RunFate.TheVariants as run_fate
use Rattle.stream_record_waits.specs.declared.step_of_plan.StepOfPlan.{StepOfPlan}
use Rattle.stream_record_waits.specs.declared.step_of_plan.StepRun.{StepRun}

abbrev pub run_fate_of : Fate → RunFate
run_fate_of fate.Done = run_fate.Done
run_fate_of fate.Warned = run_fate.Warned
run_fate_of fate.Failed = run_fate.Failed

-- The outcome of the step at a place; none if the step did not begin.
abbrev pub recorded_at : List (Option RecordedStep) → (place : ℕ) → Option RecordedStep
recorded_at recorded place = option_flatten (slice_get recorded place)

-- How a step ran that began. It takes as long as the script lets it take.
abbrev pub run_of : PlannedStep → RecordedStep → BegunStep → StepRun
run_of step found begun = record {
  line = begun.line;
  previous = begun.previous;
  end = option_map (λ end. end.line) begun.end;
  fate = run_fate_of found.fate;
  seconds = took step.kind found.outcome;
}

-- How the step at a place ran; none if it did not begin.
abbrev pub run_at : Begun → List (Option RecordedStep) → (place : ℕ) → PlannedStep → Option StepRun
run_at begun recorded place step =
    option_and_then (λ found. option_map (run_of step found) (begun_at begun.by_step place)) (recorded_at recorded place)

-- The steps, of which the first has this place.
abbrev pub steps_from : Begun → List (Option RecordedStep) → (place : ℕ) → List PlannedStep → List StepOfPlan
steps_from begun recorded place [] = []
steps_from begun recorded place (step ∷ steps) =
    record { is_first = is_first_step step; run = run_at begun recorded place step } ∷ steps_from begun recorded (place + 1) steps

abbrev pub steps_of_plan : Begun → List (Option RecordedStep) → List StepOfPlan
steps_of_plan begun recorded = steps_from begun recorded 0 begun.planned
