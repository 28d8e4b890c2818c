use Rattle.std.proofs.Common.{length}
use Rattle.input_graph.proofs.JoinedNumbers.{joined_before, joined_more, none_joined}
use Rattle.input_graph.proofs.reached.add_all.Goals as goal
use Rattle.input_graph.proofs.reached.add_all.Goals.{then-index-stamp+in_ok-push, else-index-stamp}

pub loop-node-init : goal.loop-node-init
loop-node-init c = (none_joined c.args.found.now.items, c.requires.seen)

pub loop-node-preserved : goal.loop-node-preserved
loop-node-preserved c =
    elim c.if-index-stamp.branch [
      | then-index-stamp+in_ok-push w ↦
          rw (w.found-is, w.seen-is) (joined_more c.args.more.now c.loop-node.node-index _ c.args.found.now.items c.loop-node.found.items c.loop-node.seen.items c.args.stamp (length c.args.seen.now.items)
          c.loop-node-test.true c.loop-node.invariant _ _ w.in_ok-push.ensures.items w.mark.ensures)
      | else-index-stamp w ↦
          rw (w.found-is, w.seen-is) (joined_before c.args.more.now c.loop-node.node-index _ c.args.found.now.items c.loop-node.found.items c.loop-node.seen.items c.args.stamp (length c.args.seen.now.items)
          c.loop-node-test.true c.loop-node.invariant c.requires.within c.index.result.now c.index.ensures w.if-index-stamp.false)
    ]
