-- The command line: its options as `clap` parses them, what the words state, and why they are
-- refused.
use Rattle.std.specs.Prelude.{◌≡◌, ◌≤◌, ◌<◌, ◌++◌, ◌⊎◌, ⊤, ℕ, Bool, List, [], ◌∷◌, Option, Some, None, IfSome, IsOk, Ok, Err, Result, true, false, codes, length, map, pos, unwrap_or, if◌then◌else◌}
use Rattle.std.specs.Borrow.{Bor}
use Rattle.std.specs.Option.{option_map_or}
use Rattle.std.specs.Str.{bytes_eq}
use Rattle.std.specs.Str.Parse.{IsNumeral, digits_value, without_leading_plus}
use Rattle.clap.specs.Faults.{fault_of}
use Rattle.clap.specs.Kinds.{IsAmong}
use Rattle.clap.specs.Simple.{App, matches_of, new_rule, new_shape}
use Rattle.clap.specs.Walk.{Row, Rule, Text, all_of, first_of, one_of, texts}
use Rattle.clap.specs.declared.builder.action.ArgAction.TheVariants.{Append, SetTrue}
use Rattle.clap.specs.declared.builder.value_parser.ValueParser.{ValueParser}
use Rattle.clap.specs.declared.builder.value_parser.ValueParser.TheVariants as values
use Rattle.clap.specs.declared.error.kind.ErrorKind.{ErrorKind}
use Rattle.clap.specs.declared.error.kind.ErrorKind.TheVariants.{DisplayHelp, DisplayVersion, OutOfMemory}
use Rattle.apply_model.specs.declared.plan.step_kind.StepKind.{StepKind}
use Rattle.apply_model.specs.declared.plan.step_kind.StepKind.TheVariants.{Create, Update, Delete, Read}
use Rattle.apply_hooks.specs.Hooks.{max_hooks}
use Rattle.apply_text_terraform.specs.declared.command.Command.{Command}
use Rattle.apply_text_terraform.specs.declared.command.Command.TheVariants.{Saved}
use Rattle.apply_text.specs.Start.{start_of}
use Rattle.apply_text.specs.declared.start.MomentError.{MomentError}
use Rattle.apply_text.specs.declared.operation.Operation.TheVariants.{Destroy}
use Rattle.apply_cli_args.specs.Given.{AreTogether, is_conflict, misplaced_with, operation_of, stated_command}
use Rattle.apply_cli_args.specs.declared.halt.Halt.{Halt}
use Rattle.apply_cli_args.specs.declared.halt.Halt.TheVariants.{Before, Inside}
use Rattle.apply_cli_args.specs.declared.settings.Settings.{Settings}
use Rattle.apply_cli_args.specs.declared.usage.Usage.{Usage}
use Rattle.apply_cli_args.specs.declared.usage.Usage.TheVariants as usage

-- ---- the options

-- `--NAME VALUE`
abbrev pub option_named : Text → Rule
option_named name = record (new_rule name) { long = Some name; value_names = 1 }

-- `--NAME NUMBER`, with a number from 1 to `most`, and a default
abbrev pub number_named : Text → (most : ℕ) → (otherwise : Text) → Rule
number_named name most otherwise =
    record (option_named name) { parser = Some (values.Signed (pos 1) (pos most)); defaults = otherwise ∷ [] }

-- `--NAME VALUE`, repeatable
abbrev pub list_named : Text → Rule
list_named name = record (option_named name) { action = Some Append }

-- `--NAME`
abbrev pub flag_named : Text → Rule
flag_named name = record (new_rule name) { long = Some name; action = Some SetTrue }

-- the names of the kinds of steps
abbrev pub kind_words : List Text
kind_words = codes "create" ∷ codes "update" ∷ codes "delete" ∷ codes "read" ∷ []

-- the names of the forms
abbrev pub form_words : List Text
form_words = codes "applystream" ∷ codes "terraform" ∷ []

-- the names of the commands
abbrev pub command_words : List Text
command_words = codes "saved" ∷ codes "plan" ∷ codes "apply" ∷ codes "destroy" ∷ []

-- whether objects are refreshed
abbrev pub refresh_words : List Text
refresh_words = codes "true" ∷ codes "false" ∷ []

-- the value has to be one of the words
abbrev pub IsOneOf : List Text → ValueParser → Type 0
IsOneOf words parser = (names : Bor (List (Bor Text))) × (texts names.now ≡ words) × (parser ≡ values.Names names)

-- the option of a parallelism; it has no default
abbrev pub parallelism_rule : Rule
parallelism_rule =
    record (option_named (codes "parallelism")) { parser = Some (values.Signed (pos 1) (pos 64)) }

-- the option of a form; the first name is the default
abbrev pub form_rule : (forms : ValueParser) → Rule
form_rule forms =
    record (option_named (codes "form")) { parser = Some forms; defaults = codes "applystream" ∷ [] }

-- the option of a command; the first name is the default
abbrev pub command_rule : (commands : ValueParser) → Rule
command_rule commands =
    record (option_named (codes "command")) { parser = Some commands; defaults = codes "saved" ∷ [] }

-- the option of a refresh; the first word is the default
abbrev pub refresh_rule : (refreshes : ValueParser) → Rule
refresh_rule refreshes =
    record (option_named (codes "refresh")) { parser = Some refreshes; defaults = codes "true" ∷ [] }

-- the options of the settings
abbrev pub settings_options : (kinds : ValueParser) → List Rule
settings_options kinds =
    record (option_named (codes "at")) { defaults = codes "1970-01-01T00:00:00Z" ∷ [] }
    ∷ option_named (codes "script")
    ∷ number_named (codes "workers") 8 (codes "1")
    ∷ number_named (codes "queue") 1024 (codes "64")
    ∷ flag_named (codes "destroy")
    ∷ record (list_named (codes "halt-before")) { parser = Some kinds }
    ∷ list_named (codes "halt-in")
    ∷ []

-- the parsers of the options whose value is one of some names
pub record Choices : Type 0 where
  pub kinds : ValueParser
  pub forms : ValueParser
  pub commands : ValueParser
  pub refreshes : ValueParser

-- each parser accepts its own names
pub record AreChoices (choices : Choices) : Type 0 where
  pub kinds : IsOneOf kind_words choices.kinds
  pub forms : IsOneOf form_words choices.forms
  pub commands : IsOneOf command_words choices.commands
  pub refreshes : IsOneOf refresh_words choices.refreshes

-- all options
abbrev pub options : Choices → List Rule
options choices =
    settings_options choices.kinds
    ++ parallelism_rule ∷ form_rule choices.forms ∷ command_rule choices.commands ∷ refresh_rule choices.refreshes ∷ []

-- the command, whose arguments are those after the program's name
abbrev pub command_line : Choices → App
command_line choices = record {
  top = record (new_shape (codes "applystream")) { no_binary_name = true; has_version = true; rules = options choices };
  subs = [];
}

-- the command without the options of a parallelism, of a form, of a command and of a refresh
abbrev pub settings_line : (kinds : ValueParser) → App
settings_line kinds = record {
  top = record (new_shape (codes "applystream")) { no_binary_name = true; has_version = true; rules = settings_options kinds };
  subs = [];
}

-- ---- what they state

-- if the text is a number from 1 to `most`, the setting is that number
abbrev pub IsNumber : (most : ℕ) → (text : Text) → ℕ → Type 0
IsNumber most text n = IsNumeral 10 (without_leading_plus text) → 1 ≤ digits_value 10 (without_leading_plus text)
    → digits_value 10 (without_leading_plus text) ≤ most → n ≡ digits_value 10 (without_leading_plus text)

-- if the text is a number from 1 to `most`, the setting is there and is that number
abbrev pub IsOptionalNumber : (most : ℕ) → (text : Text) → Option ℕ → Type 0
IsOptionalNumber most text number =
    IsNumeral 10 (without_leading_plus text) → 1 ≤ digits_value 10 (without_leading_plus text)
    → digits_value 10 (without_leading_plus text) ≤ most → number ≡ Some (digits_value 10 (without_leading_plus text))

abbrev pub kind_of_word : Text → StepKind
kind_of_word word =
    if bytes_eq word (codes "create") then Create
    else if bytes_eq word (codes "update") then Update
    else if bytes_eq word (codes "delete") then Delete
    else Read

-- the halts before kinds of steps, then those inside prefixes, both in the order of the words
abbrev pub stated_halts : List Row → List Halt
stated_halts rows =
    map (λ word. Before (kind_of_word word)) (unwrap_or (all_of (codes "halt-before") rows) [])
    ++ map Inside (unwrap_or (all_of (codes "halt-in") rows) [])

-- the start that a text names: the present, if there is one and the text is `now`, else the
-- timestamp that the text is
abbrev pub start_read : (now : Option ℕ) → (text : Text) → Result ℕ MomentError
start_read None text = start_of text
start_read (Some present) text = if bytes_eq text (codes "now") then Ok present else start_of text

-- the start that the option states
abbrev pub stated_start : (now : Option ℕ) → List Row → Result ℕ MomentError
stated_start now rows = option_map_or (start_read now) (first_of (codes "at") rows) (Ok 0)

-- the start is `now`
abbrev pub asks_for_now : List Row → Bool
asks_for_now rows = option_map_or (λ text. bytes_eq text (codes "now")) (first_of (codes "at") rows) false

-- each setting is what its own option states, with this present for `now`. Without `--destroy` the
-- operation is that of the command
pub record AreStatedSettings (now : Option ℕ) (command : Command) (rows : List Row) (settings : Settings) : Type 0 where
  pub at : stated_start now rows ≡ Ok settings.at
  pub script : settings.script ≡ first_of (codes "script") rows
  pub workers : IfSome (one_of (codes "workers") rows) (λ text. IsNumber 8 text settings.workers)
  pub queue : IfSome (one_of (codes "queue") rows) (λ text. IsNumber 1024 text settings.queue)
  pub destroy : one_of (codes "destroy") rows ≡ Some (codes "true") → settings.operation ≡ Destroy
  pub otherwise : one_of (codes "destroy") rows ≡ Some (codes "false") → settings.operation ≡ operation_of command
  pub halts : settings.halts.items ≡ stated_halts rows

-- the words were parsed by the command of the settings alone, and the settings are what they state
-- for a saved plan; there is no present
pub record HaveStatedSettings (words : List Text) (settings : Settings) : Type 0 where
  pub kinds : ValueParser
  pub are_kinds : IsOneOf kind_words kinds
  pub parsed : fault_of (settings_line kinds) words ≡ []
  pub stated : AreStatedSettings None Saved (matches_of (settings_line kinds) words) settings

-- there is a parallelism if its option is given, and it is the number that is stated
pub record IsParallelism (rows : List Row) (parallelism : Option ℕ) : Type 0 where
  pub none : one_of (codes "parallelism") rows ≡ None → parallelism ≡ None
  pub some : IfSome (one_of (codes "parallelism") rows) (λ text. IsOptionalNumber 64 text parallelism)

-- ---- why they are refused

-- the options were parsed, but state no settings
abbrev pub AreNoSettings : (now : Option ℕ) → List Row → Usage → Type 0
AreNoSettings now rows (usage.Help text) = ⊥
AreNoSettings now rows usage.Version = ⊥
AreNoSettings now rows (usage.Words text) = ⊥
AreNoSettings now rows usage.Conflict = ⊥
AreNoSettings now rows (usage.Misplaced misplaced) = ⊥
AreNoSettings now rows usage.Clock = ⊥
AreNoSettings now rows (usage.Moment error) = stated_start now rows ≡ Err error
AreNoSettings now rows usage.Hooks = IsOk (stated_start now rows) × (max_hooks < length (stated_halts rows))
AreNoSettings now rows usage.Memory = ⊤

-- the options state no invocation: a parallelism is given where it may not be, an option does not
-- go with the command, they ask for a present that the clock does not give, or they state no
-- settings with the present that it gives
abbrev pub IsNoInvocation : List Row → Usage → Type 0
IsNoInvocation rows usage.Conflict = is_conflict rows ≡ true
IsNoInvocation rows (usage.Misplaced misplaced) =
    (is_conflict rows ≡ false) × (misplaced_with (stated_command rows) rows ≡ Some misplaced)
IsNoInvocation rows usage.Clock = AreTogether rows × (asks_for_now rows ≡ true)
IsNoInvocation rows why = AreTogether rows × ((present : ℕ) × AreNoSettings (Some present) rows why)

-- the usage for an error of that kind: help if help was asked for, the version if the version was
abbrev pub Answers : ErrorKind → Usage → Type 0
Answers kind (usage.Help text) = kind ≡ DisplayHelp
Answers kind usage.Version = kind ≡ DisplayVersion
Answers kind (usage.Words text) = (kind ≡ OutOfMemory → ⊥) × (kind ≡ DisplayHelp → ⊥) × (kind ≡ DisplayVersion → ⊥)
Answers kind usage.Conflict = ⊥
Answers kind (usage.Misplaced misplaced) = ⊥
Answers kind usage.Clock = ⊥
Answers kind (usage.Moment error) = ⊥
Answers kind usage.Hooks = ⊥
Answers kind usage.Memory = ⊤

-- the cause of a usage: the words ask for help or for the version; or an argument is not an option;
-- or the words were parsed, and what they state is wrong
abbrev pub IsCause : (IsWrong : List Row → Usage → Type 0) → App → List Text → Usage → Type 0
IsCause IsWrong app words (usage.Help text) = IsAmong DisplayHelp (fault_of app words)
IsCause IsWrong app words usage.Version = IsAmong DisplayVersion (fault_of app words)
IsCause IsWrong app words (usage.Words text) =
    (kind : ErrorKind) × (kind ≡ DisplayHelp → ⊥) × (kind ≡ DisplayVersion → ⊥) × IsAmong kind (fault_of app words)
IsCause IsWrong app words why = (fault_of app words ≡ []) × IsWrong (matches_of app words) why

-- memory was refused; or the usage has a cause in a command whose parsers accept their names
abbrev pub HasCause : {P : Type 0} (TakeWords : P → Type 0) → (line : P → App) → (IsWrong : List Row → Usage → Type 0)
    → List Text → Usage → Type 0
HasCause {P} TakeWords line IsWrong words why =
    (why ≡ usage.Memory) ⊎ ((parsers : P) × TakeWords parsers × IsCause IsWrong (line parsers) words why)

-- the words state no invocation
abbrev pub WereRefused : List Text → Usage → Type 0
WereRefused words why = HasCause AreChoices command_line IsNoInvocation words why

-- the words state no settings, by the options of the settings alone
abbrev pub StateNoSettings : List Text → Usage → Type 0
StateNoSettings words why = HasCause (IsOneOf kind_words) settings_line (AreNoSettings None) words why

-- the words ask for this, among other errors
abbrev pub AskAmong : ErrorKind → List Text → Type 0
AskAmong asked words =
    (choices : Choices) × AreChoices choices × IsAmong asked (fault_of (command_line choices) words)

-- the words ask for this, and nothing else is wrong with them
abbrev pub AskAlone : ErrorKind → List Text → Type 0
AskAlone asked words =
    (choices : Choices) → AreChoices choices → fault_of (command_line choices) words ≡ asked ∷ []

-- for help
abbrev pub AskForHelp : List Text → Type 0
AskForHelp words = AskAmong DisplayHelp words

abbrev pub AskForHelpAlone : List Text → Type 0
AskForHelpAlone words = AskAlone DisplayHelp words

-- for the version, with other options
abbrev pub AskForVersionToo : List Text → Type 0
AskForVersionToo words = AskAmong DisplayVersion words
