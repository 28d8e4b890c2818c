use Rattle.input_validate.proofs.Trees.{three_or_more}
use Rattle.input_validate.proofs.plan.element.is_one_of_eight.Goals as goal

pub returns-in_default-2 : goal.returns-in_default-2
returns-in_default-2 c = three_or_more c.args.actions.now c.in_default.len_at_least
