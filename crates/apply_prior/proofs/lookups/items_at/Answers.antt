use Rattle.std.proofs.Common.{[], sym, ap, ◌∙◌}
use Rattle.std.specs.Option.{option_map_or}
use Rattle.apply_json.specs.Tree.{list_of}
use Rattle.apply_prior.proofs.Lists.{listed}
use Rattle.apply_prior.proofs.lookups.items_at.Goals as goal

pub returns-in-Some : goal.returns-in-Some
returns-in-Some c = sym (listed c.in-Some.items.now) ∙ ap (λ o. option_map_or list_of o []) c.in-Some.ensures
