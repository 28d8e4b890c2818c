use Rattle.std.proofs.Common.{◌∙◌, List, ℕ, ap}
use Rattle.input_graph.specs.StepNodes.{known_name}
use Rattle.input_graph.proofs.GraphNames.{node_joins}
use Rattle.input_graph.proofs.known_nodes.known_nodes.Goals as goal

pub loop-node-preserved : goal.loop-node-preserved
loop-node-preserved c =
    node_joins c.args.steps.now c.nodes-node-items.result.now c.loop-node.node-index c.node-item.result c.in_ok-known_name.field-0 c.loop-node.nodes.keys c.insert.new.self.keys c.loop-node-test.true
    c.node-item.is (c.in_ok-known_name.ensures ∙ ap (λ (node : List ℕ). known_name c.args.steps.now node) c.as_str.ensures) c.loop-node.invariant c.in_ok-insert.ensures.keys
