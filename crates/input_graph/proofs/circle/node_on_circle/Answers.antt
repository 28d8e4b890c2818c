use Rattle.input_graph.specs.Targets.{texts}
use Rattle.input_graph.proofs.Starts.{all_ranked, begun_more}
use Rattle.input_graph.proofs.circle.node_on_circle.Goals as goal

pub loop-from-preserved : goal.loop-from-preserved
loop-from-preserved c = record {
  settled = rw c.in_default.is at c.in_ok-node.ensures.settled;
  begun = begun_more (texts c.loop-from.seen.keys) (texts c.circle_from.new.seen.keys) c.edges-from-items.result.now c.loop-from.from-index _ c.loop-from-test.true c.loop-from.invariant.begun
      (rw c.in_default.is at c.in_ok-node.ensures.kept) (rw c.in_default.is at c.in_ok-node.ensures.begun);
}

pub returns-clause-ranked : goal.returns-clause-ranked
returns-clause-ranked c =
    all_ranked (texts c.loop-from.seen.keys) (texts c.loop-from.done.keys) c.edges-from-items.result.now c.loop-from.from-index c.args.edges.now c.edges-from-items.ensures c.loop-from-test.false
    c.loop-from.invariant.begun c.loop-from.invariant.settled
