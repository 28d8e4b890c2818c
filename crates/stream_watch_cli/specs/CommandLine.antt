-- What the arguments after `watch` mean: the options as `clap` takes them, and the setting that each
-- gives.
use Rattle.std.specs.Prelude.{◌≡◌, ◌≤◌, ◌⊎◌, ◌&&◌, ℕ, Bool, List, [], ◌∷◌, Option, Some, None, IfSome, Result, Ok, Err, true, false, codes, if◌then◌else◌, is_some, max, option_map, pos, string_bytes}
use Rattle.std.specs.Borrow.{Bor}
use Rattle.std.specs.Option.{option_map_or, option_or}
use Rattle.std.specs.Str.{bytes_eq}
use Rattle.std.specs.Str.Parse.{IsNumeral, digits_value, without_leading_plus}
use Rattle.clap.specs.Simple.{App, new_rule, new_shape}
use Rattle.clap.specs.Walk.{Row, Rule, Text, first_of, one_of, texts}
use Rattle.clap.specs.declared.builder.value_parser.ValueParser.{ValueParser}
use Rattle.clap.specs.declared.builder.value_parser.ValueParser.TheVariants as values
use Rattle.stream_check.specs.Reports.{whole_status_of}
use Rattle.stream_check.specs.declared.verdict.finding.Finding.{Finding}
use Rattle.stream_check.specs.declared.verdict.whole.Whole.{Whole}
use Rattle.stream_tool.specs.Arguments.{Arguments}
use Rattle.stream_tool.specs.Words.{file_rule, flag_rule, unless_dash}
use Rattle.stream_panel.specs.Sizes.{has_room}
use Rattle.stream_watch.specs.declared.looks.Looks.{Looks}
use Rattle.stream_watch_cli.specs.Watched.{HasShortLines, HasToldAll, IsVerdictOf}
use Rattle.stream_watch_cli.specs.declared.command.when.When.{When}
use Rattle.stream_watch_cli.specs.declared.command.when.When.TheVariants as when
use Rattle.stream_watch_cli.specs.declared.command.settings.Settings.{Settings}
use Rattle.stream_watch_cli.specs.declared.terminal.Terminal.{Terminal}
use Rattle.stream_watch_cli.specs.declared.watch_fault.WatchFault.{WatchFault}
use Rattle.stream_watch_cli.specs.declared.watch_fault.WatchFault.TheVariants as fault

-- ---- the options

-- `--width N`: a number from 60 to 400
abbrev pub width_rule : Rule
width_rule = record (new_rule (codes "width")) {
  long = Some (codes "width");
  value_names = 1;
  parser = Some (values.Signed (pos 60) (pos 400));
}

-- the values of `--color` and `--panel`
abbrev pub when_words : List Text
when_words = codes "auto" ∷ codes "always" ∷ codes "never" ∷ []

-- the parser accepts only these words
abbrev pub TakesWhens : ValueParser → Type 0
TakesWhens parser = (names : Bor (List (Bor Text))) × (texts names.now ≡ when_words) × (parser ≡ values.Names names)

-- an option that takes one of them
abbrev pub when_rule : (name : Text) → (words : ValueParser) → Rule
when_rule name words = record (new_rule name) {
  long = Some name;
  value_names = 1;
  parser = Some words;
  defaults = codes "auto" ∷ [];
}

-- the command `watch` and its options
abbrev pub command_line : (colours panels : ValueParser) → App
command_line colours panels = record {
  top = record (new_shape (codes "applystream watch")) {
    no_binary_name = true;
    rules = flag_rule (codes "find") ∷ flag_rule (codes "plan") ∷ width_rule ∷ when_rule (codes "color") colours ∷ when_rule (codes "panel") panels ∷ file_rule ∷ [];
  };
  subs = [];
}

-- the command `watch`, with some parsers of those words
abbrev pub IsCommand : App → Type 0
IsCommand app = (colours panels : ValueParser) × TakesWhens colours × TakesWhens panels × (app ≡ command_line colours panels)

-- ---- the settings they state

-- a number from 60 to 400 states that width
abbrev pub IsWidth : Text → Option ℕ → Type 0
IsWidth text width = IsNumeral 10 (without_leading_plus text) → 60 ≤ digits_value 10 (without_leading_plus text)
    → digits_value 10 (without_leading_plus text) ≤ 400 → width ≡ Some (digits_value 10 (without_leading_plus text))

abbrev pub when_of_word : Text → When
when_of_word choice =
    if bytes_eq choice (codes "always") then when.Always else if bytes_eq choice (codes "never") then when.Never else when.Auto

-- what the option of that name states, else `auto`
abbrev pub stated_when : (option : Text) → List Row → When
stated_when option rows = option_map_or when_of_word (first_of option rows) when.Auto

-- each setting is the value of its own option
pub record AreStated (rows : List Row) (settings : Settings) : Type 0 where
  pub file : option_map string_bytes settings.file ≡ unless_dash (first_of (codes "file") rows)
  pub find : one_of (codes "find") rows ≡ Some (codes "true") → settings.mode.find ≡ true
  pub no_find : one_of (codes "find") rows ≡ Some (codes "false") → settings.mode.find ≡ false
  pub plan : one_of (codes "plan") rows ≡ Some (codes "true") → settings.mode.plan ≡ true
  pub no_plan : one_of (codes "plan") rows ≡ Some (codes "false") → settings.mode.plan ≡ false
  pub width : IfSome (one_of (codes "width") rows) (λ text. IsWidth text settings.width)
  pub no_width : one_of (codes "width") rows ≡ None → settings.width ≡ None
  pub colour : settings.colour ≡ stated_when (codes "color") rows
  pub panel : settings.panel ≡ stated_when (codes "panel") rows

-- how arguments state them; all options go together
abbrev pub arguments : Arguments Settings
arguments = record {
  IsCommand = IsCommand;
  are_conflicting = λ rows. false;
  AreStated = AreStated;
  file = λ settings. option_map string_bytes settings.file;
}

-- ---- what the command does

abbrev pub is_on : (is_wanted : Bool) → When → Bool
is_on is_wanted when.Auto = is_wanted
is_on is_wanted when.Always = true
is_on is_wanted when.Never = false

abbrev pub fault_status_of : WatchFault → ℕ
fault_status_of fault.TooMany = 2
fault_status_of (fault.Unread failed) = 2
fault_status_of fault.Memory = 3
fault_status_of fault.Gone = 3
fault_status_of fault.Unwritten = 3

-- The status of the fault. For a file that could not be read it is 3 where memory was refused for
-- the message.
abbrev pub IsFaultStatus : (is_named : Bool) → WatchFault → ℕ → Type 0
IsFaultStatus is_named (fault.Unread failed) status = (status ≡ 2) ⊎ ((status ≡ 3) × (is_named ≡ true))
IsFaultStatus is_named fault status = status ≡ fault_status_of fault

-- the status of `check` where there is a verdict, else that of the fault
abbrev pub IsStatusOf : (is_named : Bool) → Result (Result Whole Finding) WatchFault → ℕ → Type 0
IsStatusOf is_named (Ok (Ok whole)) status = status ≡ whole_status_of whole
IsStatusOf is_named (Ok (Err finding)) status = status ≡ 4
IsStatusOf is_named (Err fault) status = IsFaultStatus is_named fault status

-- a panel stands below the lines
abbrev pub shows_panel : Terminal → Settings → Bool
shows_panel terminal settings = is_on terminal.is_panel_wanted settings.panel && has_room terminal.size

-- how wide lines are; above a panel they are no wider than the terminal
abbrev pub width_in : Terminal → Settings → Option ℕ
width_in terminal settings =
    if shows_panel terminal settings then option_or settings.width (Some (max terminal.size.columns 60)) else settings.width

-- how the lines look
abbrev pub looks_in : Terminal → Settings → Looks
looks_in terminal settings = record {
  width = width_in terminal settings;
  has_colour = is_on terminal.is_colour_wanted settings.colour;
  has_panel = shows_panel terminal settings;
}

-- A stream was watched: the verdict, what was written without a panel, and the exit status.
pub record HasWatched (terminal : Terminal) (settings : Settings) (given before after : Option (List ℕ)) (answer : Result (Result Whole Finding) WatchFault) (status : ℕ) : Type 0 where
  pub verdict : IfSome given (λ bytes. HasShortLines bytes → IsVerdictOf settings.mode bytes answer)
  pub told : shows_panel terminal settings ≡ false
      → IfSome given (λ bytes. HasShortLines bytes → HasToldAll settings.mode (looks_in terminal settings) bytes before after answer)
  pub exit : IsStatusOf (is_some settings.file) answer status

abbrev pub is_fault : Result (Result Whole Finding) WatchFault → Bool
is_fault (Ok answer) = false
is_fault (Err fault) = true

-- nothing is reported on standard error: there is a verdict, or the reader of the output is gone
abbrev pub IsQuiet : Result (Result Whole Finding) WatchFault → (status : ℕ) → Type 0
IsQuiet answer status = ((verdict : Result Whole Finding) × (answer ≡ Ok verdict)) ⊎ (answer ≡ Err fault.Gone)
