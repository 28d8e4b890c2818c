use Rattle.std.proofs.Common.{List, Option, ap, is_some, map, option_map, ◌∙◌}
use Rattle.input_validate.specs.ObjectNames.{Named, name_view}
use Rattle.input_validate.specs.PlanFindings.{first_named}
use Rattle.input_validate.proofs.doubts.waited.Waited.has.Goals as goal

pub returns : goal.returns
returns c =
    c.is_some.ensures
    ∙ ap (λ o. is_some o) (c.get.ensures (map (option_map name_view) c.self.inside.names.items) c.self.invariant)
    ∙ ap (λ (names : List (Option Named)). is_some (first_named names (option_map name_view c.args.name))) c.self.view_is
