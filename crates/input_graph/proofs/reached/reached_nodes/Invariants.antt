use Rattle.std.proofs.Common.{length}
use Rattle.input_graph.specs.AllWaits.{lists_in}
use Rattle.input_graph.specs.Numbering.{AreSeen}
use Rattle.input_graph.specs.Targets.{texts}
use Rattle.input_graph.proofs.NumberSearch.{IsSearched}
use Rattle.input_graph.proofs.reached.reached_nodes.Given as goal

abbrev pub invariant-nodes : goal.invariant-nodes
invariant-nodes l = IsSearched l.graph.nodes.now l.graph.edges (texts l.graph.names.keys) (lists_in l.graph.targets.items) l.graph.step_of.items l.start l.place l.found.items
    × AreSeen l.seen.items l.stamp l.found.items (length l.graph.names.keys)
