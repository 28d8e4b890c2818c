-- How a run from bytes ends, in a form and with a schedule.
use Rattle.std.specs.Prelude.{◌≡◌, ◌<◌, ◌+◌, ℕ, IsTrue, List, []}
use Rattle.apply_model.specs.declared.details.note.Note.{Note}
use Rattle.apply_plan.specs.Plan.SavedPlan.{SavedPlan}
use Rattle.apply_plan.specs.Script.OutcomeMap.{OutcomeMap}
use Rattle.apply_plan.specs.Script.Waits.{has_waits}
use Rattle.apply_events.specs.declared.counts.Counts.{Counts}
use Rattle.apply_events.specs.Step.{Work}
use Rattle.apply_text.specs.declared.operation.Operation.{Operation}
use Rattle.apply_text_terraform.specs.declared.form.Form.{Form}
use Rattle.apply_text_terraform.specs.declared.form.Form.TheVariants.{Applystream, Terraform}
use Rattle.apply_run.specs.declared.form_report.FormReport.{FormReport}
use Rattle.apply_run.specs.declared.read_inputs.ReadInputs.{ReadInputs}
use Rattle.apply_run.specs.declared.refusal.Refusal.{Refusal}
use Rattle.apply_run.specs.declared.refusal.Refusal.TheVariants.{Plan, Script, Waits, Size, Fault}
use Rattle.apply_run.specs.Bytes.{Inputs, IsRead, WasUnread}
use Rattle.apply_run.specs.Read.{IsStated, StatedInputs, WasNotRead, applied_plan, applied_script, extras_of}
use Rattle.apply_run.specs.Run.{HasFailedBy, HasStreamedBy, SinkState}
use Rattle.apply_run.specs.Schedule.{IsOfSize, KeepsWaits, MissesWaits, Schedule}
use Rattle.apply_writer.specs.declared.report.Report.{Report}
use Rattle.apply_writer.specs.Stream.Form.{StreamForm, plain_form}
use Rattle.apply_writer.specs.Stream.Terraform.{StreamExtras, contains_error, terraform_form}

-- ---- what a form decides

-- what the default form prints: the plan and the script
pub record PlainInputs : Type 0 where
  pub plan : SavedPlan
  pub script : OutcomeMap

-- Terraform's form prints the extras of both too
abbrev pub ReadFor : Form → Type 0
ReadFor Applystream = PlainInputs
ReadFor Terraform = StatedInputs

-- the bytes state it
abbrev pub IsReadFor : (form : Form) → Inputs → ReadFor form → Type 0
IsReadFor Applystream given read = IsRead given read.plan read.script
IsReadFor Terraform given read = IsStated given.plan given.script read

-- the plan is refused, else the script
abbrev pub IsUnreadFor : Form → Inputs → Refusal → Type 0
IsUnreadFor Applystream given refusal = WasUnread given.plan given.script refusal
IsUnreadFor Terraform given refusal = WasNotRead given.plan given.script refusal

-- the script that the bytes state, whatever is applied
abbrev pub script_for : (form : Form) → ReadFor form → OutcomeMap
script_for Applystream read = read.script
script_for Terraform read = read.script

-- what is applied, and the extras that the stream prints
pub record AppliedInputs : Type 0 where
  pub plan : SavedPlan
  pub script : OutcomeMap
  pub extras : StreamExtras

-- the default form prints no extras
abbrev pub applied_for : (form : Form) → ReadFor form → AppliedInputs
applied_for Applystream read = record {
  plan = read.plan;
  script = read.script;
  extras = record { details = []; notes = []; outputs = [] };
}
applied_for Terraform read = record { plan = applied_plan read; script = applied_script read; extras = extras_of read }

abbrev pub work_for : (form : Form) → Inputs → ReadFor form → Work
work_for form given read = let applied = applied_for form read in
    record { plan = applied.plan; script = applied.script; hooks = given.hooks }

-- the form in which the stream is written
abbrev pub form_of : Form → AppliedInputs → (start : ℕ) → Operation → StreamForm
form_of Applystream applied start operation = plain_form applied.plan applied.script start operation
form_of Terraform applied start operation = terraform_form applied.plan applied.script applied.extras start operation

abbrev pub form_for : (form : Form) → ReadFor form → (start : ℕ) → Operation → StreamForm
form_for form read start operation = form_of form (applied_for form read) start operation

abbrev pub inputs_view : ReadInputs → AppliedInputs
inputs_view read = record {
  plan = read.plan;
  script = read.script;
  extras = record { details = read.changes.items; notes = read.notes.items; outputs = read.outputs.items };
}

-- these values were read, as they are applied
pub record IsReadAs (form : Form) (stated : ReadFor form) (read : ReadInputs) : Type 0 where
  pub applied : inputs_view read ≡ applied_for form stated
  -- of the script that was stated, whatever is applied
  pub waits : read.has_waits ≡ has_waits (script_for form stated)

-- the bytes state some inputs, and these were read
pub record WasReadFor (form : Form) (given : Inputs) (read : ReadInputs) : Type 0 where
  pub stated : ReadFor form
  pub is_read : IsReadFor form given stated
  pub read_as : IsReadAs form stated read

-- the stream reports an error: a step failed or was halted; in Terraform's form, also a diagnostic
-- of no step
abbrev pub ReportsError : (form : Form) → ReadFor form → Counts → Type 0
ReportsError Applystream read counts = 0 < counts.failed + counts.halted
ReportsError Terraform read counts = IsTrue (contains_error (extras_of read).notes counts)

-- ---- how a run reads its inputs

-- how inputs are read, what of them is applied, and how its stream is written
pub record Reading : Type 1 where
  -- what bytes state
  pub Read : Type 0
  pub IsRead : Inputs → Read → Type 0
  pub IsUnread : Inputs → Refusal → Type 0
  -- the script that is stated, whatever is applied
  pub script : Read → OutcomeMap
  pub work : Inputs → Read → Work
  pub form : Read → (start : ℕ) → Operation → StreamForm
  -- the diagnostics of no step
  pub notes : Read → List Note
  -- the stream reports an error
  pub ReportsError : Read → Counts → Type 0

-- a saved plan, in a form
abbrev pub reading_of : Form → Reading
reading_of form = record {
  Read = ReadFor form;
  IsRead = IsReadFor form;
  IsUnread = IsUnreadFor form;
  script = script_for form;
  work = work_for form;
  form = form_for form;
  notes = λ read. (applied_for form read).extras.notes;
  ReportsError = ReportsError form;
}

-- ---- what a run leaves

-- the inputs were read and applied, and the whole stream was written
pub record WasAppliedOf (schedule : Schedule) (reading : Reading) (given : Inputs) (start : ℕ) (operation : Operation) (report : Report)
    (before after : SinkState) : Type 0 where
  pub read : reading.Read
  pub is_read : reading.IsRead given read
  pub sizes : IsOfSize schedule
  pub streamed : HasStreamedBy schedule (reading.form read start operation) (reading.work given read) report before after
  pub keeps : KeepsWaits schedule (reading.script read)

-- and the report says whether the stream reports an error
pub record WasReportedOf (schedule : Schedule) (reading : Reading) (given : Inputs) (start : ℕ) (operation : Operation) (report : FormReport)
    (before after : SinkState) : Type 0 where
  pub applied : WasAppliedOf schedule reading given start operation report.run before after
  pub error : report.contains_error ≡ contains_error (reading.notes applied.read) report.run.counts

-- the inputs are refused and the sink is unchanged. The plan is refused with its error, else the
-- script with its own, else a script that states dependencies which the schedule does not keep, else
-- sizes that are out of range. Memory may be refused earlier, but never for an input that is too
-- large, or for a script that is absent. Otherwise the run failed
abbrev pub WasRefusedOf : Schedule → Reading → Inputs → (start : ℕ) → Operation → Refusal → (before after : SinkState) → Type 0
WasRefusedOf schedule reading given start operation (Plan refusal) before after = reading.IsUnread given (Plan refusal) × (after ≡ before)
WasRefusedOf schedule reading given start operation (Script refusal) before after = reading.IsUnread given (Script refusal) × (after ≡ before)
WasRefusedOf schedule reading given start operation Waits before after =
    (read : reading.Read) × reading.IsRead given read × MissesWaits schedule (reading.script read) × (after ≡ before)
WasRefusedOf schedule reading given start operation Size before after =
    (read : reading.Read) × reading.IsRead given read × ¬ IsOfSize schedule × (after ≡ before)
    × KeepsWaits schedule (reading.script read)
WasRefusedOf schedule reading given start operation (Fault fault) before after =
    (read : reading.Read) × reading.IsRead given read × IsOfSize schedule
    × HasFailedBy fault.why schedule (reading.form read start operation) (reading.work given read) fault.report before after
    × KeepsWaits schedule (reading.script read)

-- ---- of a saved plan

abbrev pub WasAppliedBy : Schedule → Form → Inputs → (start : ℕ) → Operation → Report → (before after : SinkState) → Type 0
WasAppliedBy schedule form given start operation report before after =
    WasAppliedOf schedule (reading_of form) given start operation report before after

abbrev pub WasReportedBy : Schedule → Form → Inputs → (start : ℕ) → Operation → FormReport → (before after : SinkState) → Type 0
WasReportedBy schedule form given start operation report before after =
    WasReportedOf schedule (reading_of form) given start operation report before after

abbrev pub WasRefusedBy : Schedule → Form → Inputs → (start : ℕ) → Operation → Refusal → (before after : SinkState) → Type 0
WasRefusedBy schedule form given start operation refusal before after =
    WasRefusedOf schedule (reading_of form) given start operation refusal before after
