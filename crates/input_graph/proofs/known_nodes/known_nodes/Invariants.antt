use Rattle.std.proofs.Common.{◌≡◌, [], map, take}
use Rattle.input_graph.specs.Nodes.{with_all}
use Rattle.input_graph.specs.StepNodes.{known_name}
use Rattle.input_graph.specs.Targets.{texts}
use Rattle.input_graph.proofs.known_nodes.known_nodes.Given as goal

abbrev pub invariant-loop-node : goal.invariant-loop-node
invariant-loop-node l = texts l.nodes.keys ≡ with_all [] (map (λ node. known_name l.steps node) (take l.node-index l.node-items))
