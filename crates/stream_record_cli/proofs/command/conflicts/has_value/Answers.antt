use Rattle.std.proofs.Common.{◌∙◌, List, Option, ap, false, ℕ}
use Rattle.std.specs.Option.{option_map_or}
use Rattle.std.specs.Str.{bytes_eq}
use Rattle.clap.specs.Matches.{found_of}
use Rattle.clap.proofs.WalkLemmas.{first_value-rows}
use Rattle.stream_record_cli.proofs.command.conflicts.has_value.Goals as goal

pub returns-in-Some : goal.returns-in-Some
returns-in-Some c =
    c.eq.ensures
    ∙ ap (λ (o : Option (List ℕ)). option_map_or (λ (given : List ℕ). bytes_eq given c.args.value.now) o false)
    (c.in-Some.ensures ∙ first_value-rows (found_of c.args.matches.now) c.args.option.now)

pub returns-in-None : goal.returns-in-None
returns-in-None c =
    ap (λ (o : Option (List ℕ)). option_map_or (λ (given : List ℕ). bytes_eq given c.args.value.now) o false)
    (c.in-None.ensures ∙ first_value-rows (found_of c.args.matches.now) c.args.option.now)
