use Rattle.input_validate.specs.Extras.{in_plan_output}
use Rattle.input_validate.proofs.extras.outputs.walk_output.Goals as goal

pub returns : goal.returns
unfolding in_plan_output
returns c = c.joined.ensures _ _ (c.joined-all.ensures _ _ c.walk_table-all.ensures c.unless_planned.ensures) c.walk_ignored.ensures
