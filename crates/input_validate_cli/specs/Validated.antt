-- What `validate` reads, writes and answers.
use Rattle.std.specs.Prelude.{◌≡◌, ◌+◌, ◌<◌, ◌≤◌, ⊤, ℕ, List, [], Bool, false, Option, Some, None, IfSome, IsSome, Result, Ok, Err, codes, if◌then◌else◌, is_some, length, take}
use Rattle.std.specs.Io.KnownBytes.{Appends, Keeps}
use Rattle.apply_plan.specs.Bytes.{max_bytes}
use Rattle.stream_tool.specs.Running.{Giving}
use Rattle.input_validate.specs.Findings.{Reported, reported}
use Rattle.input_validate.specs.declared.form.Form.{Form}
use Rattle.input_validate.specs.InForm.{findings_in}
use Rattle.input_validate.specs.Whole.{plan_findings}
use Rattle.input_validate_cli.specs.Causes.{fault_status_of}
use Rattle.input_validate_cli.specs.Lines.{line_count, lines_for}
use Rattle.input_validate_cli.specs.Statuses.{status_for}
use Rattle.input_validate_cli.specs.declared.command.arguments.Settings.{Settings}
use Rattle.input_validate_cli.specs.declared.command.validate_fault.ValidateFault.{ValidateFault}
use Rattle.input_validate_cli.specs.declared.command.validate_fault.ValidateFault.TheVariants as fault

-- the line without findings
abbrev pub accepted : (has_script : Bool) → List ℕ
accepted has_script = if has_script then codes "plan and script are accepted\n" else codes "the plan is accepted\n"

-- the report without findings
abbrev pub nothing : Reported
nothing = record { stored = []; count = 0; refuses = false }

-- a text reports on a plan and a script: it is not empty, and without findings it accepts the
-- inputs
pub record ReportsOn (plan script : Reported) (has_script : Bool) (text : List ℕ) : Type 0 where
  pub some : 0 < length text
  pub accepts : plan ≡ nothing → script ≡ nothing → text ≡ accepted has_script

-- a text reports on a plan, and on a script for it, with the right number of lines
pub record IsReport (form : Form) (lanes : Bool) (plan : List ℕ) (script : Option (List ℕ)) (text : List ℕ) : Type 0 where
  pub reports : ReportsOn (reported (plan_findings plan)) (reported (findings_in form lanes plan script)) (is_some script) text
  pub lines : line_count text ≡ lines_for (length (plan_findings plan) + length (findings_in form lanes plan script))

-- the whole report on a plan, and on a script for it, was written
pub record IsReported (form : Form) (lanes : Bool) (plan : List ℕ) (script : Option (List ℕ)) (before after : Option (List ℕ)) : Type 0 where
  pub text : List ℕ
  pub reports : IsReport form lanes plan script text
  pub written : Appends before after text

-- a beginning of the report was written: all of it, a part or nothing
pub record IsBegun (form : Form) (lanes : Bool) (plan : List ℕ) (script : Option (List ℕ)) (before after : Option (List ℕ)) : Type 0 where
  pub text : List ℕ
  pub reports : IsReport form lanes plan script text
  pub count : ℕ
  pub written : Appends before after (take count text)

-- What was written, and the exit status. The whole report was written, and its findings give the
-- status. Or memory was refused, and nothing was written. Or the output failed before its end.
abbrev pub HasOutcome : Form → (lanes : Bool) → (plan : List ℕ) → (script : Option (List ℕ)) → (before after : Option (List ℕ)) → (status : ℕ)
    → Result (Unit {0}) ValidateFault → Type 0
HasOutcome form lanes plan script before after status (Ok done) =
    IsReported form lanes plan script before after × (status ≡ status_for form lanes plan script)
HasOutcome form lanes plan script before after status (Err (fault.Plan failed)) = ⊥
HasOutcome form lanes plan script before after status (Err (fault.Unopened error)) = ⊥
HasOutcome form lanes plan script before after status (Err (fault.Script failed)) = ⊥
HasOutcome form lanes plan script before after status (Err fault.Memory) = (status ≡ 3) × Keeps before after
HasOutcome form lanes plan script before after status (Err fault.Gone) = (status ≡ 3) × IsBegun form lanes plan script before after
HasOutcome form lanes plan script before after status (Err fault.Unwritten) = (status ≡ 3) × IsBegun form lanes plan script before after

-- the same outcome, before an error is printed
abbrev pub WasReported : Form → (lanes : Bool) → (plan : List ℕ) → (script : Option (List ℕ)) → (before after : Option (List ℕ)) → Result ℕ ValidateFault → Type 0
WasReported form lanes plan script before after (Ok status) = HasOutcome form lanes plan script before after status (Ok tt)
WasReported form lanes plan script before after (Err why) = HasOutcome form lanes plan script before after (fault_status_of why) (Err why)

-- the bytes of an input that were read: all of them, or as many as show that it is too large
abbrev pub IsReadOf : (given : Option (List ℕ)) → List ℕ → Type 0
IsReadOf given bytes = IfSome given (λ all. bytes ≡ take (max_bytes + 1) all)

-- the script is what was read of the named file, if one is named; `remaining` is what a file holds
abbrev pub IsScriptOf : {A File : Type 0} → (remaining : File → Option (List ℕ)) → (name : Option A) → Option (List ℕ) → Type 0
IsScriptOf remaining None None = ⊤
IsScriptOf remaining None (Some bytes) = ⊥
IsScriptOf remaining (Some name) None = ⊥
IsScriptOf {File = File} remaining (Some name) (Some bytes) = (file : File) × IsReadOf (remaining file) bytes

-- this holds for what was read with these settings: the plan, and the script of the named file
pub record IsOfRead {File : Type 0} (remaining : File → Option (List ℕ)) (settings : Settings) (given : Option (List ℕ))
    (IsSo : List ℕ → Option (List ℕ) → Type 0) : Type 0 where
  pub plan : List ℕ
  pub script : Option (List ℕ)
  pub plan_read : IsReadOf given plan
  pub script_read : IsScriptOf remaining settings.script script
  pub so : IsSo plan script

-- What `validate` gives with these settings, for the bytes of the plan. A read of the plan or the
-- script failed, or the script's file could not be opened: status 2, and the output is unchanged.
-- Memory was refused, if only for the name of that file: status 3, and the output is unchanged.
-- Else the inputs were validated. `remaining` gives the bytes of a file.
abbrev pub HasValidated : {File : Type 0} → (remaining : File → Option (List ℕ)) → Giving Settings (Result (Unit {0}) ValidateFault)
HasValidated remaining settings given before after (Err (fault.Plan failed)) status = (status ≡ 2) × Keeps before after
HasValidated remaining settings given before after (Err (fault.Unopened error)) status = (status ≡ 2) × Keeps before after × IsSome settings.script
HasValidated remaining settings given before after (Err (fault.Script failed)) status = (status ≡ 2) × Keeps before after × IsSome settings.script
HasValidated remaining settings given before after (Err fault.Memory) status = (status ≡ 3) × Keeps before after
HasValidated remaining settings given before after answer status =
    IsOfRead remaining settings given (λ plan script. HasOutcome settings.form settings.lanes plan script before after status answer)

-- nothing is reported on standard error: the findings were written, the reader of the output is gone,
-- or the exit status is 0 or 1
abbrev pub IsQuiet : Result (Unit {0}) ValidateFault → (status : ℕ) → Type 0
IsQuiet (Ok done) status = ⊤
IsQuiet (Err fault.Gone) status = ⊤
IsQuiet (Err why) status = status ≤ 1
