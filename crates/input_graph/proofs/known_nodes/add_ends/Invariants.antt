use Rattle.std.proofs.Common.{◌≡◌, take}
use Rattle.input_graph.specs.GraphNodes.{ends}
use Rattle.input_graph.specs.Nodes.{with_all}
use Rattle.input_graph.specs.Targets.{edge_texts, texts}
use Rattle.input_graph.proofs.known_nodes.add_ends.Given as goal

abbrev pub invariant-loop-from : goal.invariant-loop-from
invariant-loop-from l = texts l.nodes.keys ≡ with_all (texts l.initial.nodes.keys) (ends (edge_texts (take l.from-index l.edges)))
