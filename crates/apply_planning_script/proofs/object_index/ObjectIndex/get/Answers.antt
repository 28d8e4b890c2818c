use Rattle.std.proofs.Common.{◌∙◌}
use Rattle.apply_planning_script.proofs.Index.{get_is}
use Rattle.apply_planning_script.proofs.object_index.ObjectIndex.get.Goals as goal

pub returns : goal.returns
returns c = c.copied.ensures ∙ c.get.ensures.value ∙ get_is c.args.self.now.numbers c.args.id
