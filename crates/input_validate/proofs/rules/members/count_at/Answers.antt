use Rattle.std.proofs.Common.{◌∙◌, ap, sym, length}
use Rattle.input_validate.proofs.Trees.{length_listed}
use Rattle.input_validate.proofs.rules.members.count_at.Goals as goal

pub returns : goal.returns
returns c = sym (length_listed c.items_at.result.now) ∙ ap length c.items_at.ensures
