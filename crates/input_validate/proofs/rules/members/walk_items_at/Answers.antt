use Rattle.input_validate.proofs.rules.members.walk_items_at.Goals as goal

pub returns : goal.returns
returns g c = c.walk_inside.ensures
