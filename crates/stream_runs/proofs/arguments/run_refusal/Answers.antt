use Rattle.std.proofs.Common.{◌≡◌, ◌∙◌, Bool, true, false, List, ℕ, Some, sym, ap, codes}
use Rattle.std.specs.Prelude.{Option, not, is_some}
use Rattle.std.specs.Option.{option_map_or}
use Rattle.clap.specs.Matches.{found_of}
use Rattle.clap.proofs.WalkLemmas.{first_value-rows}
use Rattle.stream_runs.specs.Choices.{run_named}
use Rattle.stream_runs.specs.declared.choice.RunChoice.{RunChoice}
use Rattle.stream_runs.proofs.arguments.run_refusal.Goals as goal

-- whether the word of an option names no run
abbrev wrong : Option (List ℕ) → Bool
wrong o = option_map_or (λ word. not (is_some (run_named word))) o false

abbrev names_none : Option RunChoice → Bool
names_none o = not (is_some o)

pub returns-in-Some-run_named : goal.returns-in-Some-run_named
returns-in-Some-run_named c =
    sym (ap wrong (c.in-Some.ensures ∙ first_value-rows (found_of c.args.matches.now) (codes "run")))
    ∙ ap names_none (sym c.in-Some-run_named.ensures)

pub returns-in-None-run_named : goal.returns-in-None-run_named
returns-in-None-run_named c = (
  sym (ap wrong (c.in-Some.ensures ∙ first_value-rows (found_of c.args.matches.now) (codes "run")))
      ∙ ap names_none (sym c.in-None-run_named.ensures),
  c.wrong_run.ensures,
)

pub returns-in-None : goal.returns-in-None
returns-in-None c = sym (ap wrong (c.in-None.ensures ∙ first_value-rows (found_of c.args.matches.now) (codes "run")))
