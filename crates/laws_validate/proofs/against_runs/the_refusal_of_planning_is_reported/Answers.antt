use Rattle.laws_validate.proofs.PlanningRefusals.{refusal_of_planning}
use Rattle.laws_validate.proofs.against_runs.the_refusal_of_planning_is_reported.Goals as goal

pub returns : goal.returns
returns c = refusal_of_planning
