use Rattle.std.proofs.Common.{◌∙◌, ap, codes, is_some}
use Rattle.clap.specs.Matches.{found_of}
use Rattle.clap.proofs.WalkLemmas.{first_value-rows}
use Rattle.input_validate_cli.proofs.command.conflicts.names_refresh.Goals as goal

pub returns-in-Some : goal.returns-in-Some
returns-in-Some c = ap (λ o. is_some o) (c.in-Some.ensures ∙ first_value-rows (found_of c.args.matches.now) (codes "refresh"))

pub returns-in-None : goal.returns-in-None
returns-in-None c = ap (λ o. is_some o) (c.in-None.ensures ∙ first_value-rows (found_of c.args.matches.now) (codes "refresh"))
