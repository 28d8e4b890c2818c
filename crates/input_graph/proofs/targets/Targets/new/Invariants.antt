use Rattle.std.proofs.Common.{take}
use Rattle.input_graph.specs.Targets.{AreTargets}
use Rattle.input_graph.proofs.targets.Targets.new.Given as goal

abbrev pub invariant-loop-from : goal.invariant-loop-from
invariant-loop-from l = AreTargets l.by_node (take l.from-index l.from-items)
