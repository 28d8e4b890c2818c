use Rattle.std.proofs.Common.{◌∙◌, ap}
use Rattle.std.specs.Option.{option_map_or}
use Rattle.clap.specs.Matches.{found_of}
use Rattle.clap.proofs.WalkLemmas.{first_value-rows}
use Rattle.stream_watch_cli.specs.CommandLine.{when_of_word}
use Rattle.stream_watch_cli.specs.declared.command.when.When.TheVariants.{Auto}
use Rattle.stream_watch_cli.proofs.command.arguments.when_of.Goals as goal

pub returns-in-Some : goal.returns-in-Some
returns-in-Some c =
    c.when_named.ensures
    ∙ ap (λ o. option_map_or when_of_word o Auto) (c.in-Some.ensures ∙ first_value-rows (found_of c.args.matches.now) c.args.option.now)

pub returns-in-None : goal.returns-in-None
returns-in-None c =
    ap (λ o. option_map_or when_of_word o Auto) (c.in-None.ensures ∙ first_value-rows (found_of c.args.matches.now) c.args.option.now)
