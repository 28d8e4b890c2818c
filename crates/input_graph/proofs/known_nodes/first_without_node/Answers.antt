use Rattle.std.proofs.Common.{◌∙◌, sym}
use Rattle.input_graph.proofs.GraphNames.{has_joined, with_one, without}
use Rattle.input_graph.proofs.Texts.{tested}
use Rattle.input_graph.proofs.known_nodes.first_without_node.Goals as goal

pub returns-then-not-contains : goal.returns-then-not-contains
returns-then-not-contains c =
    without c.args.steps.now c.args.graph.now c.loop-step.step c.name.result.now c.name.ensures
    (has_joined c.args.steps.now c.args.graph.now c.in_ok-nodes.nodes.keys c.name.result.now _ c.in_ok-nodes.ensures
    (tested c.name.result.now c.in_ok-nodes.nodes.keys c.contains.result _ c.contains.ensures c.if-not-contains.true))
    ∙ sym c.loop-step.invariant

pub loop-step-preserved : goal.loop-step-preserved
loop-step-preserved c =
    c.loop-step.invariant
    ∙ with_one c.args.steps.now c.args.graph.now c.loop-step.step c.name.result.now c.name.ensures
    (has_joined c.args.steps.now c.args.graph.now c.in_ok-nodes.nodes.keys c.name.result.now _ c.in_ok-nodes.ensures
    (tested c.name.result.now c.in_ok-nodes.nodes.keys c.contains.result _ c.contains.ensures c.if-not-contains.false))
