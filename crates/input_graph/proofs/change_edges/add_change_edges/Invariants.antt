use Rattle.std.proofs.Common.{◌≡◌, ◌++◌, ◌-◌}
use Rattle.input_graph.specs.Targets.{edge_texts}
use Rattle.input_graph.proofs.ChangeEdges.{first_edges}
use Rattle.input_graph.proofs.change_edges.add_change_edges.Given as goal

abbrev pub invariant-loop-place : goal.invariant-loop-place
invariant-loop-place l = edge_texts l.edges.items ≡ edge_texts l.initial.edges.items ++ first_edges l.steps (l.place - 1)
