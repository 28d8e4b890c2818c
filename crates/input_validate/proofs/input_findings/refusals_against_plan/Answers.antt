use Rattle.input_validate.proofs.input_findings.refusals_against_plan.Goals as goal

pub returns-then-is_refused : goal.returns-then-is_refused
returns-then-is_refused c = rw c.if-is_refused.true c.waits_without_lanes.ensures
