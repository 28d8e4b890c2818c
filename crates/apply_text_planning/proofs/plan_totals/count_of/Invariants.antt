use Rattle.std.proofs.Common.{◌≡◌, take}
use Rattle.std.specs.List.{count_by}
use Rattle.apply_model.specs.Plan.StepKind.{is_kind}
use Rattle.apply_text_planning.proofs.plan_totals.count_of.Given as goal

abbrev pub invariant-loop-step : goal.invariant-loop-step
invariant-loop-step l = l.count ≡ count_by (is_kind l.kind) (take l.step-index l.steps)
