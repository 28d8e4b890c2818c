use Rattle.std.proofs.Common.{◌≡◌, ◌+◌, take}
use Rattle.std.specs.List.{sum_by}
use Rattle.serde_json.specs.View.{view}
use Rattle.input_validate.specs.AgainstPlan.{waits_in}
use Rattle.input_validate.proofs.against_plan.waits.waits_left_after.Given as goal

-- what is left, and what the steps so far have
abbrev pub invariant-loop-step : goal.invariant-loop-step
invariant-loop-step l = l.left + sum_by (λ v. waits_in (view v)) (take l.step-index l.steps) ≡ l.most
