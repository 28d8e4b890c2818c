-- The arguments of `record`: the options as `clap` takes them, and the setting that each option
-- gives.
use Rattle.std.specs.Prelude.{◌≡◌, ◌≤◌, ◌&&◌, ◌||◌, ℕ, List, [], ◌∷◌, Bool, None, Some, IfSome, false, is_some, not, true, codes, option_map, pos, string_bytes, unwrap_or}
use Rattle.std.specs.Option.{option_map_or}
use Rattle.std.specs.Str.{bytes_eq}
use Rattle.std.specs.Str.Parse.{IsNumeral, digits_value, without_leading_plus}
use Rattle.clap.specs.Simple.{App, new_rule, new_shape}
use Rattle.clap.specs.Walk.{Row, Rule, Text, first_of, one_of}
use Rattle.clap.specs.declared.builder.value_parser.ValueParser.TheVariants as values
use Rattle.stream_runs.specs.Arguments.{is_run_wrong, run_rule, stated_run}
use Rattle.stream_tool.specs.Arguments.{Arguments}
use Rattle.stream_tool.specs.Words.{file_rule, flag_rule, unless_dash}
use Rattle.stream_record_cli.specs.declared.command.settings.Settings.{Settings}

-- ---- the options

-- `--NAME VALUE`
abbrev pub option_named : Text → Rule
option_named name = record (new_rule name) { long = Some name; value_names = 1 }

-- `--plan PLAN`, which has to be given
abbrev pub plan_rule : Rule
plan_rule = record (option_named (codes "plan")) { required = true }

-- `--graph GRAPH`
abbrev pub graph_rule : Rule
graph_rule = option_named (codes "graph")

-- `--parallelism N`: a number from 1 to 64, by default 10
abbrev pub lanes_rule : Rule
lanes_rule = record (option_named (codes "parallelism")) { parser = Some (values.Signed (pos 1) (pos 64)); defaults = codes "10" ∷ [] }

-- The command, whose arguments are those after `record`.
abbrev pub command_line : App
command_line = record {
  top = record (new_shape (codes "applystream record")) {
    no_binary_name = true;
    rules = plan_rule ∷ graph_rule ∷ flag_rule (codes "begins") ∷ lanes_rule ∷ flag_rule (codes "only-plan") ∷ flag_rule (codes "find")
        ∷ run_rule ∷ file_rule ∷ [];
  };
  subs = [];
}

-- ---- options that exclude each other

-- The option has a value, and has that value.
abbrev pub is_named : (option : Text) → List Row → Bool
is_named option rows = is_some (first_of option rows)

abbrev pub has_value : (option value : Text) → List Row → Bool
has_value option value rows = option_map_or (λ given. bytes_eq given value) (first_of option rows) false

-- The flag is set; the option names standard input.
abbrev pub is_set : (option : Text) → List Row → Bool
is_set option rows = has_value option (codes "true") rows

abbrev pub is_standard : (option : Text) → List Row → Bool
is_standard option rows = has_value option (codes "-") rows

-- `--begins` without a graph; or `--only-plan` with an option that is about a stream, or with a file.
abbrev pub are_exclusive : List Row → Bool
are_exclusive rows =
    (is_set (codes "begins") rows && not (is_named (codes "graph") rows))
    || (is_set (codes "only-plan") rows
    && (is_set (codes "begins") rows
    || (is_set (codes "find") rows || (is_named (codes "run") rows || is_named (codes "file") rows))))

-- The stream is read from standard input.
abbrev pub is_stream_standard : List Row → Bool
is_stream_standard rows =
    not (is_set (codes "only-plan") rows) && (not (is_named (codes "file") rows) || is_standard (codes "file") rows)

-- Two of the plan, the graph and the stream are standard input.
abbrev pub share_standard_input : List Row → Bool
share_standard_input rows =
    (is_standard (codes "plan") rows && is_standard (codes "graph") rows)
    || (is_stream_standard rows && (is_standard (codes "plan") rows || is_standard (codes "graph") rows))

-- The arguments are refused: options exclude each other, two inputs are standard input, or the value
-- of `--run` names no run.
abbrev pub are_conflicting : List Row → Bool
are_conflicting rows = are_exclusive rows || (share_standard_input rows || is_run_wrong rows)

-- ---- the settings

-- If the text is a number from 1 to 64, there are so many lanes.
abbrev pub IsLanes : Text → (lanes : ℕ) → Type 0
IsLanes text lanes = IsNumeral 10 (without_leading_plus text) → 1 ≤ digits_value 10 (without_leading_plus text)
    → digits_value 10 (without_leading_plus text) ≤ 64 → lanes ≡ digits_value 10 (without_leading_plus text)

-- The flag is what its option states.
pub record IsFlag (name : Text) (rows : List Row) (flag : Bool) : Type 0 where
  pub yes : one_of name rows ≡ Some (codes "true") → flag ≡ true
  pub no : one_of name rows ≡ Some (codes "false") → flag ≡ false

-- Each setting is what its own option states. No accepted arguments are without a plan.
pub record AreStated (rows : List Row) (settings : Settings) : Type 0 where
  pub plan : string_bytes settings.plan ≡ unwrap_or (first_of (codes "plan") rows) []
  pub graph : option_map string_bytes settings.graph ≡ first_of (codes "graph") rows
  pub begins : IsFlag (codes "begins") rows settings.begins
  pub lanes : IfSome (one_of (codes "parallelism") rows) (λ text. IsLanes text settings.lanes)
  pub only_plan : IsFlag (codes "only-plan") rows settings.only_plan
  pub find : IsFlag (codes "find") rows settings.find
  pub run : settings.run ≡ stated_run rows
  pub file : option_map string_bytes settings.file ≡ unless_dash (first_of (codes "file") rows)

-- The tool opens all files itself.
abbrev pub arguments : Arguments Settings
arguments = record {
  IsCommand = λ app. app ≡ command_line;
  are_conflicting = are_conflicting;
  AreStated = AreStated;
  file = λ settings. None;
}
