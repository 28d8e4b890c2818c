use Rattle.input_graph.specs.Targets.{texts}
use Rattle.input_graph.proofs.GraphNames.{ends_join}
use Rattle.input_graph.proofs.known_nodes.add_ends.Goals as goal

pub loop-from-preserved : goal.loop-from-preserved
loop-from-preserved c =
    ends_join c.args.edges.now c.loop-from.from-index _ (texts c.args.nodes.now.keys) c.loop-from.nodes.keys c.insert.new.self.keys c.insert-in-loop-from.new.self.keys c.loop-from-test.true
    c.loop-from.invariant c.in_ok-insert.ensures.keys c.in_ok-insert-2.ensures.keys
