-- The steps of a plan, by the numbers of their changes and their own.
use Rattle.std.specs.Prelude.{ℕ, List}
use Rattle.apply_model.specs.declared.plan.step_kind.StepKind.{StepKind}
use Rattle.apply_model.specs.Plan.ResourceChange.{ResourceChange}
use Rattle.stream_record_steps.specs.Steps.{PlannedStep}
use Rattle.laws_waits.specs.Places.{place_of}

-- Step k of change c, which is of this kind.
abbrev pub step_of_plan : List ResourceChange → ResourceChange → (c k : ℕ) → StepKind → PlannedStep
step_of_plan changes change c k kind =
    record { change = change; change_number = c; number = k; place = place_of changes c k; kind = kind }
