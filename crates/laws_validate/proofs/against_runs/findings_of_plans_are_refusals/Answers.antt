use Rattle.laws_validate.proofs.Plans.{refusals_of_plan}
use Rattle.laws_validate.proofs.against_runs.findings_of_plans_are_refusals.Goals as goal

pub returns : goal.returns
returns c = refusals_of_plan
