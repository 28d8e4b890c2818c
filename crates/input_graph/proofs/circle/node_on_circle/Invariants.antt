use Rattle.std.proofs.Common.{All, take}
use Rattle.input_graph.specs.CircleSearch.{IsSettled}
use Rattle.input_graph.specs.Targets.{texts}
use Rattle.input_graph.proofs.Starts.{BeginsIn}
use Rattle.input_graph.proofs.circle.node_on_circle.Given as goal

abbrev pub invariant-loop-from : goal.invariant-loop-from
invariant-loop-from l = record {
  settled : IsSettled l.edges (texts l.seen.keys) (texts l.done.keys);
  begun : All (BeginsIn (texts l.seen.keys)) (take l.from-index l.from-items);
}
