use Rattle.std.proofs.Common.{length, take}
use Rattle.input_graph.specs.Numbering.{AreSeen, HaveJoined}
use Rattle.input_graph.proofs.reached.add_all.Given as goal

abbrev pub invariant-loop-node : goal.invariant-loop-node
invariant-loop-node l = HaveJoined l.initial.found.items (take l.node-index l.more) l.found.items × AreSeen l.seen.items l.stamp l.found.items (length l.initial.seen.items)
