use Rattle.input_graph.specs.AllWaits.{lists_in}
use Rattle.input_graph.proofs.Numbering.{numbering}
use Rattle.input_graph.proofs.numbered_graph.NumberedGraph.new.Goals as goal

pub returns-clause-numbered : goal.returns-clause-numbered
returns-clause-numbered c =
    numbering c.args.nodes.now c.args.edges c.starts_of.new.names.keys c.targets_by_number.new.names.keys (lists_in c.in_ok-targets.targets.items) c.in_ok-step_of.step_of.items c.in_ok-starts.starts.items
    c.in_ok-starts.ensures c.in_ok-targets.ensures.names c.in_ok-targets.ensures.targets c.in_ok-step_of.ensures
