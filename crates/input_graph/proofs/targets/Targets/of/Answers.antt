use Rattle.std.proofs.Common.{[], ap, ◌∙◌}
use Rattle.std.specs.Option.{option_map_or}
use Rattle.input_graph.proofs.Texts.{targets_found}
use Rattle.input_graph.proofs.targets.Targets.of.Goals as goal

pub returns : goal.returns
returns c =
    targets_found c.args.node.now c.self.inside.edges.items c.args.self.now c.get.result
    (ap (λ found. option_map_or (λ targets. targets.items) found []) c.get.ensures.value ∙ c.self.invariant c.args.node.now)
    c.self.view_is
