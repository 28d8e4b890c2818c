use Rattle.std.proofs.Common.{◌∙◌, ap, codes, Ok}
use Rattle.std.specs.Option.{option_map_or}
use Rattle.clap.specs.Matches.{found_of}
use Rattle.clap.proofs.WalkLemmas.{first_value-rows}
use Rattle.apply_cli_args.specs.CommandLine.{start_read}
use Rattle.apply_cli_args.proofs.arguments.start_of.Goals as goal

pub returns-in-Some : goal.returns-in-Some
returns-in-Some c =
    c.read_start.ensures ∙ ap (λ o. option_map_or (start_read c.args.now) o (Ok 0)) (c.in-Some.ensures ∙ first_value-rows (found_of c.args.matches.now) (codes "at"))

pub returns-in-None : goal.returns-in-None
returns-in-None c =
    ap Ok c.zero.ensures ∙ ap (λ o. option_map_or (start_read c.args.now) o (Ok 0)) (c.in-None.ensures ∙ first_value-rows (found_of c.args.matches.now) (codes "at"))
