use Rattle.std.proofs.Common.{◌∙◌, ap, codes, sym}
use Rattle.std.specs.Option.{option_map_or}
use Rattle.clap.specs.Matches.{found_of}
use Rattle.clap.specs.Walk.{rows_of}
use Rattle.clap.proofs.WalkLemmas.{first_value-rows}
use Rattle.apply_text_terraform.specs.declared.form.Form.TheVariants.{Applystream}
use Rattle.apply_cli_args.specs.Given.{form_of_word, stated_form}
use Rattle.apply_cli_args.proofs.terraform_command.form_of.Goals as goal

pub returns-in-Some : goal.returns-in-Some
returns-in-Some c =
    c.form_named.ensures ∙ ap (λ o. option_map_or form_of_word o Applystream) (c.in-Some.ensures ∙ first_value-rows (found_of c.args.matches.now) (codes "form"))
    ∙ ap (λ command. stated_form command (rows_of (found_of c.args.matches.now))) (sym c.in-Saved.is)

pub returns-in-None : goal.returns-in-None
returns-in-None c =
    ap (λ o. option_map_or form_of_word o Applystream) (c.in-None.ensures ∙ first_value-rows (found_of c.args.matches.now) (codes "form"))
    ∙ ap (λ command. stated_form command (rows_of (found_of c.args.matches.now))) (sym c.in-Saved.is)
