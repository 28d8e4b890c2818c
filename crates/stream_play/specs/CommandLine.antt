-- The options of `play`, the settings they state, and what the command does.
use Rattle.std.specs.Prelude.{◌≡◌, ◌≤◌, ◌⊎◌, ℕ, Bool, List, [], ◌∷◌, Option, Some, None, IfSome, Result, Ok, Err, false, true, codes, is_some, option_map, pos, string_bytes}
use Rattle.std.specs.Str.Parse.{IsNumeral, digits_value, without_leading_plus}
use Rattle.clap.specs.Simple.{App, new_rule, new_shape}
use Rattle.clap.specs.Walk.{Row, Rule, Text, first_of, one_of}
use Rattle.clap.specs.declared.builder.value_parser.ValueParser.TheVariants as values
use Rattle.stream_tool.specs.Arguments.{Arguments}
use Rattle.stream_tool.specs.Running.{Giving}
use Rattle.stream_tool.specs.Words.{file_rule, flag_rule, unless_dash}
use Rattle.stream_play.specs.Due.{most_speed}
use Rattle.std.specs.Io.KnownBytes.{Keeps}
use Rattle.stream_runs.specs.Arguments.{is_run_wrong, run_rule, stated_run}
use Rattle.stream_runs.specs.Selected.{IsSelected}
use Rattle.stream_runs.specs.declared.choice.RunChoice.{RunChoice}
use Rattle.stream_runs.specs.declared.fault.RunFault.{RunFault}
use Rattle.stream_runs.specs.declared.selecting.Run.{Run}
use Rattle.stream_play.specs.Played.{IsPlayed, unselected}
use Rattle.stream_play.specs.declared.command.settings.Settings.{Settings}
use Rattle.stream_play.specs.declared.play_fault.PlayFault.{PlayFault}
use Rattle.stream_play.specs.declared.play_fault.PlayFault.TheVariants as play

-- ---- the options

-- `--speed N`: a number from 1 to 86,400, by default 1
abbrev pub speed_rule : Rule
speed_rule = record (new_rule (codes "speed")) {
  long = Some (codes "speed");
  value_names = 1;
  parser = Some (values.Signed (pos 1) (pos most_speed));
  defaults = codes "1" ∷ [];
}

-- the command `play` and its options
abbrev pub command_line : App
command_line = record {
  top = record (new_shape (codes "applystream play")) { no_binary_name = true; rules = speed_rule ∷ flag_rule (codes "find") ∷ run_rule ∷ file_rule ∷ [] };
  subs = [];
}

-- ---- the settings they state

-- a number in the range states that speed
abbrev pub IsSpeed : Text → ℕ → Type 0
IsSpeed text speed = IsNumeral 10 (without_leading_plus text) → 1 ≤ digits_value 10 (without_leading_plus text)
    → digits_value 10 (without_leading_plus text) ≤ most_speed → speed ≡ digits_value 10 (without_leading_plus text)

-- each setting is the value of its own option
pub record AreStated (rows : List Row) (settings : Settings) : Type 0 where
  pub file : option_map string_bytes settings.file ≡ unless_dash (first_of (codes "file") rows)
  pub speed : IfSome (one_of (codes "speed") rows) (λ text. IsSpeed text settings.speed)
  pub find : one_of (codes "find") rows ≡ Some (codes "true") → settings.find ≡ true
  pub no_find : one_of (codes "find") rows ≡ Some (codes "false") → settings.find ≡ false
  pub run : settings.run ≡ stated_run rows

-- how arguments state them; all options go together, but the value of `--run` may name no run
abbrev pub arguments : Arguments Settings
arguments = record {
  IsCommand = λ app. app ≡ command_line;
  are_conflicting = is_run_wrong;
  AreStated = AreStated;
  file = λ settings. option_map string_bytes settings.file;
}

-- ---- what the command does

abbrev pub fault_status_of : PlayFault → ℕ
fault_status_of (play.TooLong number) = 2
fault_status_of play.TooMany = 2
fault_status_of (play.NoRun missing) = 2
fault_status_of (play.Unread failed) = 2
fault_status_of play.Memory = 3
fault_status_of play.Gone = 3
fault_status_of play.Unwritten = 3

-- The status of the fault. For a file that could not be read it is 3 where memory was refused for
-- the message.
abbrev pub IsFaultStatus : (is_named : Bool) → PlayFault → ℕ → Type 0
IsFaultStatus is_named (play.Unread failed) status = (status ≡ 2) ⊎ ((status ≡ 3) × (is_named ≡ true))
IsFaultStatus is_named fault status = status ≡ fault_status_of fault

-- 0 where all lines were written and flushed; else the status of the fault
abbrev pub IsStatusOf : (is_named : Bool) → Result Unit PlayFault → ℕ → Type 0
IsStatusOf is_named (Ok done) status = status ≡ 0
IsStatusOf is_named (Err fault) status = IsFaultStatus is_named fault status

-- the chosen run was played; or nothing was, and the answer says why there is no run
abbrev pub IsRunPlayed : (find : Bool) → Result Run RunFault → (before after : Option (List ℕ)) → Result Unit PlayFault → Type 0
IsRunPlayed find (Ok run) before after answer = IsPlayed find run.bytes.items before after answer
IsRunPlayed find (Err fault) before after answer = (answer ≡ Err (unselected fault)) × Keeps before after

-- what was played: the whole input, or the chosen run of it
abbrev pub HasPlayedChoice : Option RunChoice → (find : Bool) → (given before after : Option (List ℕ)) → Result Unit PlayFault → Type 0
HasPlayedChoice None find given before after answer = IfSome given (λ bytes. IsPlayed find bytes before after answer)
HasPlayedChoice (Some choice) find given before after answer =
    (selected : Result Run RunFault) × IfSome given (λ bytes. IsSelected find choice bytes selected)
    × IsRunPlayed find selected before after answer

-- A stream was played: what was written, and the exit status.
abbrev pub HasPlayed : Giving Settings (Result Unit PlayFault)
HasPlayed settings given before after answer status =
    HasPlayedChoice settings.run settings.find given before after answer × IsStatusOf (is_some settings.file) answer status

abbrev pub is_fault : Result Unit PlayFault → Bool
is_fault (Ok done) = false
is_fault (Err fault) = true

-- nothing is reported on standard error: the exit status is 0, all was played, or the reader of the
-- output is gone
abbrev pub IsQuiet : Result Unit PlayFault → (status : ℕ) → Type 0
IsQuiet answer status = (status ≡ 0) ⊎ ((answer ≡ Ok tt) ⊎ (answer ≡ Err play.Gone))
