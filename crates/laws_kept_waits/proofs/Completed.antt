-- Steps that completed, by what is recorded of them.
use Rattle.std.proofs.Common.{◌≡◌, Some, ap}
use Rattle.std.specs.Prelude.{option_map}
use Rattle.stream_record_outcomes.specs.declared.fate.Fate.TheVariants as fate
use Rattle.stream_record_outcomes.specs.declared.recorded_step.RecordedStep.{RecordedStep}
use Rattle.stream_record_script.specs.Runs.{run_fate_of, run_of}
use Rattle.stream_record_steps.specs.declared.begun_step.BegunStep.{BegunStep}
use Rattle.stream_record_steps.specs.declared.begun_step.StepEnd.{StepEnd}
use Rattle.stream_record_steps.specs.Steps.{PlannedStep}
use Rattle.laws_kept_waits.specs.InLines.{HasCompleted}

-- a step that is recorded as done, and has its end
pub has_completed : (own : PlannedStep) (found : RecordedStep) (known : BegunStep) (end : StepEnd) → found.fate ≡ fate.Done → known.end ≡ Some end
    → HasCompleted (run_of own found known)
has_completed own found known end done ended = record {
  fate = ap run_fate_of done;
  end = end.line;
  end_is = ap (option_map (λ (e : StepEnd). e.line)) ended;
}
