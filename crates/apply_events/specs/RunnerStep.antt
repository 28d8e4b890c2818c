-- The current step of a runner, for private clauses.
use Rattle.std.specs.Prelude.{ℕ, ◌+◌, List, drop}
use Rattle.apply_model.specs.declared.plan.step_kind.StepKind.{StepKind}
use Rattle.apply_events.specs.declared.mid_step.MidStep.{MidStep}
use Rattle.apply_events.specs.declared.runner.Runner.{Runner}
use Rattle.apply_events.specs.declared.what.What.{What}
use Rattle.apply_events.specs.MidStep.{left_of}
use Rattle.apply_events.specs.Runner.{course_of}
use Rattle.apply_events.specs.Step.{Step, step_of, steps_of}
use Rattle.apply_events.specs.StepEvents.{seconds_of}

-- The current step, which is of that kind.
abbrev pub step_at_hand : {a b : _} {g : _} → Runner a b g → StepKind → Step
step_at_hand r kind = step_of (course_of r).work r.change r.step kind

-- The steps after the current step.
abbrev pub rest_of : {a b : _} {g : _} → Runner a b g → List Step
rest_of r = drop (r.step + 1) (steps_of (course_of r).work r.change)

-- The events still to come of the current step before its end.
abbrev pub left_before : {a b : _} {g : _} → Runner a b g → StepKind → MidStep → List (ℕ × What)
left_before r kind mid =
    left_of (seconds_of (step_at_hand r kind)) (step_at_hand r kind).seconds_before (step_at_hand r kind).ran mid
