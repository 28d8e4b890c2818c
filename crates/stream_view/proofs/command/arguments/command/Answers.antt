use Rattle.std.proofs.Common.{◌≡◌, true}
use Rattle.clap.specs.Faults.{is_simple_and_free}
use Rattle.clap.specs.Simple.{app_of, is_simple}
use Rattle.stream_view.specs.CommandLine.{IsCommand}
use Rattle.stream_view.proofs.Parsed.{command_is_free, command_is_simple, then_made}
use Rattle.stream_view.proofs.command.arguments.command.Goals as goal

pub returns-clause-simple : goal.returns-clause-simple
returns-clause-simple c =
    then_made (λ made. IsCommand (app_of made)) (λ made. is_simple (app_of made) ≡ true) c.command_of.result
    (λ made is. command_is_simple (app_of made) is) (c.command_of.ensures c.svg.ensures.0 c.svg.ensures.1 c.json.ensures.0 c.json.ensures.1 c.markdown.ensures.0 c.markdown.ensures.1 c.all.ensures.0 c.all.ensures.1)

pub returns-clause-free : goal.returns-clause-free
returns-clause-free c =
    then_made (λ made. IsCommand (app_of made)) (λ made. is_simple_and_free (app_of made) ≡ true) c.command_of.result
    (λ made is. command_is_free (app_of made) is) (c.command_of.ensures c.svg.ensures.0 c.svg.ensures.1 c.json.ensures.0 c.json.ensures.1 c.markdown.ensures.0 c.markdown.ensures.1 c.all.ensures.0 c.all.ensures.1)
