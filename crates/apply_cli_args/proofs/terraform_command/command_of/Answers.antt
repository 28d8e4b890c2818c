use Rattle.std.proofs.Common.{◌∙◌, ap, codes}
use Rattle.std.specs.Option.{option_map_or}
use Rattle.clap.specs.Matches.{found_of}
use Rattle.clap.proofs.WalkLemmas.{first_value-rows}
use Rattle.apply_text_terraform.specs.declared.command.Command.TheVariants.{Saved}
use Rattle.apply_cli_args.specs.Given.{command_of_word}
use Rattle.apply_cli_args.proofs.terraform_command.command_of.Goals as goal

pub returns-in-Some : goal.returns-in-Some
returns-in-Some c =
    c.command_named.ensures ∙ ap (λ o. option_map_or command_of_word o Saved) (c.in-Some.ensures ∙ first_value-rows (found_of c.args.matches.now) (codes "command"))

pub returns-in-None : goal.returns-in-None
returns-in-None c =
    ap (λ o. option_map_or command_of_word o Saved) (c.in-None.ensures ∙ first_value-rows (found_of c.args.matches.now) (codes "command"))
