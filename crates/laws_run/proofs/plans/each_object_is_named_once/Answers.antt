use Rattle.laws_run.proofs.AcceptedPlans.{each_once}
use Rattle.laws_run.proofs.plans.each_object_is_named_once.Goals as goal

pub returns : goal.returns
returns c = each_once
