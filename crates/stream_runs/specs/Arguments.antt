-- The option `--run`, and the run that it states.
use Rattle.std.specs.Prelude.{List, Bool, false, not, Option, Some, codes, is_some}
use Rattle.std.specs.Option.{option_and_then, option_map_or}
use Rattle.clap.specs.Simple.{new_rule}
use Rattle.clap.specs.Walk.{Row, Rule, first_of}
use Rattle.stream_runs.specs.Choices.{run_named}
use Rattle.stream_runs.specs.declared.choice.RunChoice.{RunChoice}

-- `--run RUN`
abbrev pub run_rule : Rule
run_rule = record (new_rule (codes "run")) { long = Some (codes "run"); value_names = 1 }

-- the run that the arguments state
abbrev pub stated_run : List Row → Option RunChoice
stated_run rows = option_and_then run_named (first_of (codes "run") rows)

-- the value of the option names no run
abbrev pub is_run_wrong : List Row → Bool
is_run_wrong rows = option_map_or (λ word. not (is_some (run_named word))) (first_of (codes "run") rows) false
