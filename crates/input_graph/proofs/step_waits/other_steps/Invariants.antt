use Rattle.std.proofs.Common.{◌≡◌, None, get_or, take}
use Rattle.std.specs.List.{filter_map}
use Rattle.input_graph.specs.Waits.{unless_same}
use Rattle.input_graph.proofs.step_waits.other_steps.Given as goal

abbrev pub invariant-loop-node : goal.invariant-loop-node
invariant-loop-node l = l.others.items ≡ filter_map (λ node. unless_same l.step (get_or l.step_of node None)) (take l.node-index l.nodes)
