-- The arguments of `validate`: the options as `clap` takes them, and the setting that each option
-- gives.
use Rattle.std.specs.Prelude.{◌≡◌, Bool, List, [], ◌∷◌, Option, None, Some, false, true, codes, if◌then◌else◌, is_some, option_and_then, option_map, pos, string_bytes, unwrap_or}
use Rattle.std.specs.Borrow.{Bor}
use Rattle.std.specs.Option.{option_map_or}
use Rattle.std.specs.Str.{bytes_eq}
use Rattle.clap.specs.Simple.{App, new_rule, new_shape}
use Rattle.clap.specs.Walk.{Row, Rule, Text, first_of, texts}
use Rattle.clap.specs.declared.builder.value_parser.ValueParser.{ValueParser}
use Rattle.clap.specs.declared.builder.value_parser.ValueParser.TheVariants as values
use Rattle.stream_tool.specs.Arguments.{Arguments}
use Rattle.input_validate.specs.declared.form.Form.{Form}
use Rattle.input_validate.specs.declared.form.Form.TheVariants.{Applystream, Terraform, TerraformPlan, TerraformApply}
use Rattle.input_validate_cli.specs.declared.command.arguments.Settings.{Settings}

-- ---- the options

-- `--script FILE`
abbrev pub script_rule : Rule
script_rule = record (new_rule (codes "script")) { long = Some (codes "script"); value_names = 1 }

-- `--parallelism N`, a number from 1 to 64
abbrev pub parallelism_rule : Rule
parallelism_rule = record (new_rule (codes "parallelism")) {
  long = Some (codes "parallelism");
  value_names = 1;
  parser = Some (values.Signed (pos 1) (pos 64));
}

-- the names of the forms
abbrev pub form_words : List Text
form_words = codes "applystream" ∷ codes "terraform" ∷ []

-- the names of the commands
abbrev pub command_words : List Text
command_words = codes "saved" ∷ codes "plan" ∷ codes "apply" ∷ codes "destroy" ∷ []

-- whether objects are refreshed
abbrev pub refresh_words : List Text
refresh_words = codes "true" ∷ codes "false" ∷ []

-- the value has to be one of the words
abbrev pub IsOneOf : List Text → ValueParser → Type 0
IsOneOf words parser = (names : Bor (List (Bor Text))) × (texts names.now ≡ words) × (parser ≡ values.Names names)

-- `--NAME WORD`
abbrev pub word_rule : Text → ValueParser → Rule
word_rule name parser = record (new_rule name) { long = Some name; value_names = 1; parser = Some parser }

-- `--form FORM`
abbrev pub form_rule : (forms : ValueParser) → Rule
form_rule forms = word_rule (codes "form") forms

-- `--command COMMAND`
abbrev pub command_rule : (commands : ValueParser) → Rule
command_rule commands = word_rule (codes "command") commands

-- `--refresh WHETHER`
abbrev pub refresh_rule : (refreshes : ValueParser) → Rule
refresh_rule refreshes = word_rule (codes "refresh") refreshes

-- the parsers of the options whose value is one of some words
pub record Choices : Type 0 where
  pub forms : ValueParser
  pub commands : ValueParser
  pub refreshes : ValueParser

-- each parser accepts its own words
pub record AreChoices (choices : Choices) : Type 0 where
  pub forms : IsOneOf form_words choices.forms
  pub commands : IsOneOf command_words choices.commands
  pub refreshes : IsOneOf refresh_words choices.refreshes

-- the command, whose arguments are those after `validate`
abbrev pub command_line : Choices → App
command_line choices = record {
  top = record (new_shape (codes "applystream validate")) {
    no_binary_name = true;
    rules = script_rule ∷ parallelism_rule ∷ form_rule choices.forms ∷ command_rule choices.commands ∷ refresh_rule choices.refreshes ∷ [];
  };
  subs = [];
}

-- this is the command, however its options hold their words
abbrev pub IsCommand : App → Type 0
IsCommand app = (choices : Choices) × AreChoices choices × (app ≡ command_line choices)

-- ---- what the arguments state

-- the form of a command that makes its plan; none for an apply of a saved plan
abbrev pub form_of_command : Text → Option Form
form_of_command word =
    if bytes_eq word (codes "plan") then Some TerraformPlan
    else if bytes_eq word (codes "apply") then Some TerraformApply
    else if bytes_eq word (codes "destroy") then Some TerraformApply
    else None

-- the form of the stated command, if it makes its plan
abbrev pub planned_form : List Row → Option Form
planned_form rows = option_and_then form_of_command (first_of (codes "command") rows)

abbrev pub form_of_word : Text → Form
form_of_word word = if bytes_eq word (codes "terraform") then Terraform else Applystream

-- the form that the option names, or this program's own
abbrev pub named_form : List Row → Form
named_form rows = option_map_or form_of_word (first_of (codes "form") rows) Applystream

-- the form of the command, else the one that the option names
abbrev pub form_stated : List Row → Form
form_stated rows = unwrap_or (planned_form rows) (named_form rows)

-- each setting is what its own options state
pub record AreStated (rows : List Row) (settings : Settings) : Type 0 where
  pub script : option_map string_bytes settings.script ≡ first_of (codes "script") rows
  pub lanes : settings.lanes ≡ is_some (first_of (codes "parallelism") rows)
  pub form : settings.form ≡ form_stated rows

-- ---- what does not go together

-- the option names this program's own form
abbrev pub names_own_form : List Row → Bool
names_own_form rows = option_map_or (λ word. bytes_eq word (codes "applystream")) (first_of (codes "form") rows) false

-- with a command that makes its plan, the form is this program's own; without one, there is a
-- refresh
abbrev pub are_conflicting : List Row → Bool
are_conflicting rows = if is_some (planned_form rows) then names_own_form rows else is_some (first_of (codes "refresh") rows)

-- Without a file, the plan is read from standard input.
abbrev pub arguments : Arguments Settings
arguments = record {
  IsCommand = IsCommand;
  are_conflicting = are_conflicting;
  AreStated = AreStated;
  file = λ settings. None;
}
