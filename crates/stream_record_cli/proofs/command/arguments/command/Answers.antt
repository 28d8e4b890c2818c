use Rattle.std.proofs.Common.{◌∙◌, ap}
use Rattle.std.proofs.lemmas.Result.{IfOk-weaker}
use Rattle.clap.specs.Faults.{is_simple_and_free}
use Rattle.clap.specs.Simple.{is_simple}
use Rattle.stream_record_cli.proofs.CommandLine.{line_is_free, line_is_simple}
use Rattle.stream_record_cli.proofs.command.arguments.command.Goals as goal

pub returns-clause-is : goal.returns-clause-is
returns-clause-is c = c.command_of.ensures c.begins.ensures.0 c.begins.ensures.1 c.only_plan.ensures.0 c.only_plan.ensures.1

pub returns-clause-simple : goal.returns-clause-simple
returns-clause-simple c = IfOk-weaker c.command_of.result _ _ (λ command is. ap is_simple is ∙ line_is_simple) (returns-clause-is c)

pub returns-clause-free : goal.returns-clause-free
returns-clause-free c = IfOk-weaker c.command_of.result _ _ (λ command is. ap is_simple_and_free is ∙ line_is_free) (returns-clause-is c)
