-- The options of `check`, the settings they state, and what the command does.
use Rattle.std.specs.Prelude.{◌≡◌, ◌≤◌, ◌&&◌, ◌||◌, ◌⊎◌, ℕ, Bool, List, [], ◌∷◌, Option, Some, None, IfErr, IfSome, Result, Ok, Err, String, true, false, codes, is_err, is_some, not, option_map, string_bytes}
use Rattle.std.specs.Option.{option_map_or}
use Rattle.std.specs.Str.{bytes_eq}
use Rattle.std.specs.Global.{Global}
use Rattle.clap.specs.Simple.{App, new_rule, new_shape}
use Rattle.clap.specs.Walk.{Row, Rule, first_of, one_of}
use Rattle.stream_lines.specs.Cut.{cut_lines}
use Rattle.stream_tool.specs.Arguments.{Arguments}
use Rattle.stream_tool.specs.Words.{file_rule, flag_rule, unless_dash}
use Rattle.stream_runs.specs.Arguments.{is_run_wrong, run_rule, stated_run}
use Rattle.stream_runs.specs.Selected.{IsSelected}
use Rattle.stream_runs.specs.declared.choice.RunChoice.{RunChoice}
use Rattle.stream_runs.specs.declared.fault.RunFault.{RunFault}
use Rattle.stream_runs.specs.declared.selecting.Run.{Run}
use Rattle.stream_check.specs.Reading.{IsAnswer, IsUnkept, unselected}
use Rattle.stream_check.specs.Reports.{IsReported, status_of}
use Rattle.stream_check.specs.declared.command.checked.Checked.{Checked}
use Rattle.stream_check.specs.declared.command.settings.Form.TheVariants as form
use Rattle.stream_check.specs.declared.command.unreported.Unreported.TheVariants.{Gone}
use Rattle.stream_check.specs.declared.command.settings.Settings.{Settings}
use Rattle.stream_check.specs.declared.rules.mode.Mode.{Mode}
use Rattle.stream_check.specs.declared.verdict.whole.Whole.{Whole}

-- ---- the options

-- `--write NEW`
abbrev pub write_rule : Rule
write_rule = record (new_rule (codes "write")) { long = Some (codes "write"); value_names = 1 }

-- the command `check` and its options
abbrev pub command_line : App
command_line = record {
  top = record (new_shape (codes "applystream check")) {
    no_binary_name = true;
    rules = flag_rule (codes "json") ∷ flag_rule (codes "find") ∷ write_rule ∷ flag_rule (codes "plan") ∷ run_rule ∷ file_rule ∷ [];
  };
  subs = [];
}

-- `--write` is given without `--find`
abbrev pub is_write_alone : List Row → Bool
is_write_alone rows =
    is_some (first_of (codes "write") rows)
    && option_map_or (λ word. not (bytes_eq word (codes "true"))) (first_of (codes "find") rows) true

-- `--write` stands without `--find`, or the value of `--run` names no run
abbrev pub are_conflicting : List Row → Bool
are_conflicting rows = is_write_alone rows || is_run_wrong rows

-- ---- the settings they state

-- each setting is the value of its own option
pub record AreStated (rows : List Row) (settings : Settings) : Type 0 where
  pub file : option_map string_bytes settings.file ≡ unless_dash (first_of (codes "file") rows)
  pub find : one_of (codes "find") rows ≡ Some (codes "true") → settings.mode.find ≡ true
  pub no_find : one_of (codes "find") rows ≡ Some (codes "false") → settings.mode.find ≡ false
  pub plan : one_of (codes "plan") rows ≡ Some (codes "true") → settings.mode.plan ≡ true
  pub no_plan : one_of (codes "plan") rows ≡ Some (codes "false") → settings.mode.plan ≡ false
  pub json : one_of (codes "json") rows ≡ Some (codes "true") → settings.form ≡ form.Json
  pub text : one_of (codes "json") rows ≡ Some (codes "false") → settings.form ≡ form.Text
  pub run : settings.run ≡ stated_run rows
  pub write : option_map string_bytes settings.write ≡ first_of (codes "write") rows
  pub first : settings.mode.lines_before ≡ 0

-- how arguments state them; all other options go together
abbrev pub arguments : Arguments Settings
arguments = record {
  IsCommand = λ app. app ≡ command_line;
  are_conflicting = are_conflicting;
  AreStated = AreStated;
  file = λ settings. option_map string_bytes settings.file;
}

-- ---- what the command does

-- A stream that was read so was judged, and the verdict was reported.
pub record HasJudged (settings : Settings) (mode : Mode) (given before after : Option (List ℕ)) (checked : Checked) : Type 0 where
  pub judged : IfSome given (λ bytes. IsAnswer mode (cut_lines bytes) checked.verdict)
  pub reported : IsReported (is_some settings.file) mode given settings.form checked.verdict checked.reported before after

-- The chosen run was judged, with the lines before it; or the verdict says why there is none.
abbrev pub HasJudgedRun : Settings → Result Run RunFault → (before after : Option (List ℕ)) → Checked → Type 0
HasJudgedRun settings (Ok run) before after checked =
    HasJudged settings (record settings.mode { lines_before = run.lines_before }) (Some run.bytes.items) before after checked
HasJudgedRun settings (Err fault) before after checked =
    (checked.verdict ≡ Err (unselected fault))
    × IsReported (is_some settings.file) settings.mode None settings.form checked.verdict checked.reported before after

-- what was judged: the whole input, or the chosen run of it
abbrev pub HasJudgedChoice : Option RunChoice → Settings → (given before after : Option (List ℕ)) → Checked → Type 0
HasJudgedChoice None settings given before after checked = HasJudged settings settings.mode given before after checked
HasJudgedChoice (Some choice) settings given before after checked =
    (selected : Result Run RunFault) × IfSome given (λ bytes. IsSelected settings.mode.find choice bytes selected)
    × HasJudgedRun settings selected before after checked

-- The messages of the input could not be kept, and this was reported.
pub record HasKeptNone (settings : Settings) (before after : Option (List ℕ)) (checked : Checked) : Type 0 where
  pub unkept : IfErr checked.verdict IsUnkept
  pub reported : IsReported (is_some settings.file) settings.mode None settings.form checked.verdict checked.reported before after

-- The input was judged. Where its messages are kept, all of it was read first; or they could not be
-- kept.
abbrev pub HasJudgedInput : (write : Option (String Global)) → Settings → (given before after : Option (List ℕ)) → Checked → Type 0
HasJudgedInput None settings given before after checked = HasJudgedChoice settings.run settings given before after checked
HasJudgedInput (Some name) settings given before after checked =
    HasKeptNone settings before after checked
    ⊎ ((bytes : List ℕ) × IfSome given (λ all. bytes ≡ all) × HasJudgedChoice settings.run settings (Some bytes) before after checked)

-- A stream was checked: the verdict, its report, and the exit status.
pub record HasChecked (settings : Settings) (given before after : Option (List ℕ)) (checked : Checked) (status : ℕ) : Type 0 where
  pub judged : HasJudgedInput settings.write settings given before after checked
  pub exit : status ≡ status_of checked.verdict checked.reported

-- there is no whole stream
abbrev pub is_fault : Checked → Bool
is_fault checked = is_err checked.verdict

-- nothing is reported on standard error: a whole stream was reported, or the reader of the output
-- is gone
abbrev pub IsSilent : Checked → Type 0
IsSilent checked = ((whole : Whole) × (checked.verdict ≡ Ok whole) × (checked.reported ≡ Ok tt)) ⊎ (checked.reported ≡ Err Gone)

-- nothing is reported on standard error: the exit status is 0 or 1, or the answer is silent
abbrev pub IsQuiet : Checked → (status : ℕ) → Type 0
IsQuiet checked status = (status ≤ 1) ⊎ IsSilent checked
