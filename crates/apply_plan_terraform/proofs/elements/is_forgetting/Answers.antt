use Rattle.apply_plan_terraform.proofs.ActionLists.{none_of_two}
use Rattle.apply_plan_terraform.proofs.elements.is_forgetting.Goals as goal

pub returns-in_default : goal.returns-in_default
returns-in_default c = none_of_two c.args.actions.now c.in_default.len_at_least
