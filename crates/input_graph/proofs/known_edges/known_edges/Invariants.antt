use Rattle.std.proofs.Common.{◌≡◌, map, take}
use Rattle.input_graph.specs.StepNodes.{known_name}
use Rattle.input_graph.specs.Targets.{edge_texts}
use Rattle.input_graph.proofs.known_edges.known_edges.Given as goal

abbrev pub invariant-loop-edge : goal.invariant-loop-edge
invariant-loop-edge l =
    edge_texts l.edges.items ≡ map (λ edge. (known_name l.steps edge.0, known_name l.steps edge.1)) (take l.edge-index l.edge-items)
