use Rattle.input_validate.specs.Extras.{in_extras}
use Rattle.input_validate.proofs.extras.top_level.walk_extras.Goals as goal

pub returns : goal.returns
unfolding in_extras
returns c = c.joined.ensures _ _ (c.joined-all.ensures _ _ c.fault-all.ensures c.walk_inside.ensures) c.walk_list.ensures
