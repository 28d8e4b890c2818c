use Rattle.input_graph.specs.Targets.{texts}
use Rattle.input_graph.proofs.PathLeft.{left_of}
use Rattle.input_graph.proofs.PathSearch.{IsSearchingFrom}
use Rattle.input_graph.proofs.circle.circle_from.Given as goal

abbrev pub invariant-loop-visit : goal.invariant-loop-visit
invariant-loop-visit l = IsSearchingFrom l.edges (texts l.fn.seen.keys) l.start (texts l.seen.keys) (texts l.done.keys) l.path.items

abbrev pub decreases-loop-visit : goal.decreases-loop-visit
decreases-loop-visit l = left_of l.edges (texts l.seen.keys) l.path.items
