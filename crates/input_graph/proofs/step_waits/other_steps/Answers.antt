use Rattle.input_graph.proofs.Among.{one_other}
use Rattle.input_graph.proofs.step_waits.other_steps.Goals as goal

pub loop-node-preserved : goal.loop-node-preserved
loop-node-preserved c =
    one_other c.args.step_of.now c.args.step c.args.nodes.now c.loop-node.node-index _ _ c.loop-node.others.items c.add_other.new.others.items c.loop-node-test.true
    (c.requires c.loop-node.node-index _ c.loop-node-test.true) c.loop-node.invariant c.in_ok-add_other.ensures
