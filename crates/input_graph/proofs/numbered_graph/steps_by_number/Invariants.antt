use Rattle.std.proofs.Common.{◌≡◌, length}
use Rattle.input_graph.specs.Numbering.{HaveSteps}
use Rattle.input_graph.specs.Targets.{texts}
use Rattle.input_graph.proofs.numbered_graph.steps_by_number.Given as goal

abbrev pub invariant-loop-number : goal.invariant-loop-number
invariant-loop-number l = HaveSteps l.nodes (texts l.names.keys) l.step_of.items l.number × (length l.step_of.items ≡ l.number)
