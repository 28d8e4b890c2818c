use Rattle.std.proofs.Common.{◌≡◌, ◌∙◌, Bool, true, List, ℕ, Option, ap, ap₂, codes}
use Rattle.std.specs.Prelude.{◌&&◌, is_some, not}
use Rattle.std.specs.Option.{option_map_or}
use Rattle.std.specs.Str.{bytes_eq}
use Rattle.clap.specs.Matches.{found_of}
use Rattle.clap.specs.Walk.{first_of, rows_of}
use Rattle.clap.proofs.WalkLemmas.{first_value-rows}
use Rattle.stream_check.proofs.command.arguments.is_write_alone.Goals as goal

-- whether the first option is there, and the second is not given
abbrev alone : (write find : Option (List ℕ)) → Bool
alone write find = is_some write && option_map_or (λ word. not (bytes_eq word (codes "true"))) find true

pub returns-in-Some-Some : goal.returns-in-Some-Some
returns-in-Some-Some c =
    c.ne.ensures
    ∙ ap₂ alone (c.in-Some-Some.ensures ∙ first_value-rows (found_of c.args.matches.now) (codes "write"))
    (c.in-Some-Some.ensures' ∙ first_value-rows (found_of c.args.matches.now) (codes "find"))

pub returns-in-Some-None : goal.returns-in-Some-None
returns-in-Some-None c =
    ap₂ alone (c.in-Some-None.ensures ∙ first_value-rows (found_of c.args.matches.now) (codes "write"))
    (c.in-Some-None.ensures' ∙ first_value-rows (found_of c.args.matches.now) (codes "find"))

pub returns-in_default : goal.returns-in_default
returns-in_default c =
    ap (λ (write : Option (List ℕ)). alone write (first_of (codes "find") (rows_of (found_of c.args.matches.now))))
    (c.in_default.ensures ∙ first_value-rows (found_of c.args.matches.now) (codes "write"))
