use Rattle.std.proofs.Common.{◌≡◌, drop, not}
use Rattle.std.specs.List.{position_from}
use Rattle.input_graph.specs.GraphNodes.{first_without_node, has_node}
use Rattle.input_graph.proofs.known_nodes.first_without_node.Given as goal

abbrev pub invariant-loop-step : goal.invariant-loop-step
invariant-loop-step l = first_without_node l.steps l.graph ≡ position_from (λ name. not (has_node l.steps l.graph name)) l.step (drop l.step l.steps)
