use Rattle.std.proofs.Common.{◌∙◌, ap, codes}
use Rattle.std.specs.Option.{option_and_then}
use Rattle.clap.specs.Matches.{found_of}
use Rattle.clap.proofs.WalkLemmas.{first_value-rows}
use Rattle.stream_runs.specs.Choices.{run_named}
use Rattle.stream_runs.proofs.arguments.run_of.Goals as goal

pub returns-in-Some : goal.returns-in-Some
returns-in-Some c =
    c.run_named.ensures
    ∙ ap (option_and_then run_named) (c.in-Some.ensures ∙ first_value-rows (found_of c.args.matches.now) (codes "run"))

pub returns-in-None : goal.returns-in-None
returns-in-None c =
    ap (option_and_then run_named) (c.in-None.ensures ∙ first_value-rows (found_of c.args.matches.now) (codes "run"))
