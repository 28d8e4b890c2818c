use Rattle.std.proofs.Common.{take}
use Rattle.input_graph.specs.Numbering.{AreNumbersOf, Extends}
use Rattle.input_graph.specs.Targets.{texts}
use Rattle.input_graph.proofs.numbered_graph.numbers_of.Given as goal

abbrev pub invariant-loop-node : goal.invariant-loop-node
invariant-loop-node l = AreNumbersOf (texts l.names.keys) l.numbers.items (take l.node-index (texts l.nodes)) × Extends (texts l.initial.names.keys) (texts l.names.keys)
