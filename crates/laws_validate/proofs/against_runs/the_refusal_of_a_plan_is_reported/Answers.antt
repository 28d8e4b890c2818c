use Rattle.laws_validate.proofs.PlanRefusals.{refusal_of_plan}
use Rattle.laws_validate.proofs.against_runs.the_refusal_of_a_plan_is_reported.Goals as goal

pub returns : goal.returns
returns c = refusal_of_plan
