use Rattle.std.proofs.Common.{ap, ◌∙◌}
use Rattle.std.specs.Option.{is_some}
use Rattle.apply_planning_failures.proofs.Lost.{get_is}
use Rattle.apply_planning_failures.proofs.lost_objects.LostObjects.has.Goals as goal

pub returns : goal.returns
returns c = c.contains_key.ensures ∙ ap is_some (get_is c.args.self.now.ids c.args.id)
