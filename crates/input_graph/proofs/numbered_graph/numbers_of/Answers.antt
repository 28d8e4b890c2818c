use Rattle.input_graph.specs.Targets.{texts}
use Rattle.input_graph.proofs.Numbering.{numbered_more}
use Rattle.input_graph.proofs.numbered_graph.numbers_of.Goals as goal

pub loop-node-preserved : goal.loop-node-preserved
loop-node-preserved c =
    numbered_more c.args.nodes.now c.loop-node.node-index _ (texts c.args.names.now.keys) c.loop-node.names.keys c.insert_full.new.self.keys c.loop-node.numbers.items c.push.new.self.items c.in_ok-number.number
    c.loop-node-test.true c.loop-node.invariant c.in_ok-number.ensures.keys c.in_ok-number.ensures.stored c.in_ok-push.ensures.items
