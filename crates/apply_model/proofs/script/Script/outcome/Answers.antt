use Rattle.apply_model.specs.Script.OutcomeMap.{stated_outcome}
use Rattle.apply_model.proofs.Scripts.Limits.{in_time}
use Rattle.apply_model.proofs.script.Script.outcome.Goals as goal

pub returns-clause-in_range : goal.returns-clause-in_range
returns-clause-in_range c = c.stated.ensures.in_range c.args.step

pub returns-clause-in_time : goal.returns-clause-in_time
returns-clause-in_time c = in_time (stated_outcome c.args.self.now c.args.change c.args.step) (c.stated.ensures.in_range c.args.step)
