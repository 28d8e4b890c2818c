use Rattle.std.proofs.Common.{◌∙◌, ap, codes, false}
use Rattle.std.specs.Option.{option_map_or}
use Rattle.std.specs.Str.{bytes_eq}
use Rattle.clap.specs.Matches.{found_of}
use Rattle.clap.proofs.WalkLemmas.{first_value-rows}
use Rattle.input_validate_cli.proofs.command.conflicts.names_own_form.Goals as goal

pub returns-in-Some : goal.returns-in-Some
returns-in-Some c =
    c.eq.ensures
    ∙ ap (λ o. option_map_or (λ word. bytes_eq word (codes "applystream")) o false) (c.in-Some.ensures ∙ first_value-rows (found_of c.args.matches.now) (codes "form"))

pub returns-in-None : goal.returns-in-None
returns-in-None c =
    ap (λ o. option_map_or (λ word. bytes_eq word (codes "applystream")) o false) (c.in-None.ensures ∙ first_value-rows (found_of c.args.matches.now) (codes "form"))
