use Rattle.std.proofs.Common.{◌∙◌, ap, codes, Some}
use Rattle.clap.specs.Matches.{found_of}
use Rattle.clap.proofs.WalkLemmas.{first_value-rows}
use Rattle.apply_cli_args.proofs.arguments.script_of.Goals as goal

pub returns-in_ok-new-in-Some : goal.returns-in_ok-new-in-Some
returns-in_ok-new-in-Some c =
    ap Some c.in_ok-new-in-Some.ensures ∙ c.in-Some.ensures ∙ first_value-rows (found_of c.args.matches.now) (codes "script")

pub returns-in-None : goal.returns-in-None
returns-in-None c = c.in-None.ensures ∙ first_value-rows (found_of c.args.matches.now) (codes "script")
