use Rattle.input_graph.proofs.Numbered.{named, named_within}
use Rattle.input_graph.proofs.step_nodes.StepNodes.number.Goals as goal

pub returns-clause-step : goal.returns-clause-step
returns-clause-step c = named c.args.self.now c.args.name.now c.found-number.result c.found-number.ensures

pub returns-clause-within : goal.returns-clause-within
returns-clause-within c = named_within c.args.self.now c.args.name.now c.found-number.result c.found-number.ensures
