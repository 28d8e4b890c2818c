use Rattle.std.proofs.Common.{◌∙◌, ap, codes}
use Rattle.std.specs.Prelude.{option_and_then}
use Rattle.clap.specs.Matches.{found_of}
use Rattle.clap.proofs.WalkLemmas.{first_value-rows}
use Rattle.input_validate_cli.specs.CommandLine.{form_of_command}
use Rattle.input_validate_cli.proofs.command.arguments.planned_form.Goals as goal

pub returns-in-Some : goal.returns-in-Some
returns-in-Some c =
    c.form_of_command.ensures ∙ ap (λ o. option_and_then form_of_command o) (c.in-Some.ensures ∙ first_value-rows (found_of c.args.matches.now) (codes "command"))

pub returns-in-None : goal.returns-in-None
returns-in-None c =
    ap (λ o. option_and_then form_of_command o) (c.in-None.ensures ∙ first_value-rows (found_of c.args.matches.now) (codes "command"))
