use Rattle.laws_run.proofs.AlikePlans.{same_plan}
use Rattle.laws_run.proofs.plans.unknown_members_of_a_plan_are_ignored.Goals as goal

pub returns : goal.returns
returns c = same_plan
