use Rattle.std.proofs.Common.{◌∙◌, ap, codes}
use Rattle.std.specs.Option.{option_map_or}
use Rattle.clap.specs.Matches.{found_of}
use Rattle.clap.proofs.WalkLemmas.{first_value-rows}
use Rattle.input_validate.specs.declared.form.Form.TheVariants.{Applystream}
use Rattle.input_validate_cli.specs.CommandLine.{form_of_word}
use Rattle.input_validate_cli.proofs.command.arguments.named_form.Goals as goal

pub returns-in-Some : goal.returns-in-Some
returns-in-Some c =
    c.form_named.ensures ∙ ap (λ o. option_map_or form_of_word o Applystream) (c.in-Some.ensures ∙ first_value-rows (found_of c.args.matches.now) (codes "form"))

pub returns-in-None : goal.returns-in-None
returns-in-None c =
    ap (λ o. option_map_or form_of_word o Applystream) (c.in-None.ensures ∙ first_value-rows (found_of c.args.matches.now) (codes "form"))
