-- How a run from bytes ends: the words of each call.
use Rattle.std.specs.Prelude.{ℕ}
use Rattle.apply_text_terraform.specs.declared.form.Form.{Form}
use Rattle.apply_text_terraform.specs.declared.form.Form.TheVariants.{Applystream}
use Rattle.apply_text.specs.declared.operation.Operation.{Operation}
use Rattle.apply_run.specs.declared.form_report.FormReport.{FormReport}
use Rattle.apply_run.specs.declared.options.Options.{Options}
use Rattle.apply_run.specs.declared.refusal.Refusal.{Refusal}
use Rattle.apply_run.specs.Bytes.{Inputs}
use Rattle.apply_run.specs.FromBytes.{WasAppliedBy, WasRefusedBy, WasReportedBy}
use Rattle.apply_run.specs.Run.{SinkState, by_workers}
use Rattle.apply_run.specs.Schedule.{InLanes}
use Rattle.apply_writer.specs.declared.report.Report.{Report}

-- ---- with workers

abbrev pub WasApplied : Inputs → Options → Report → (before after : SinkState) → Type 0
WasApplied given options report before after =
    WasAppliedBy (by_workers options) Applystream given options.start options.operation report before after

abbrev pub WasRefused : Inputs → Options → Refusal → (before after : SinkState) → Type 0
WasRefused given options refusal before after =
    WasRefusedBy (by_workers options) Applystream given options.start options.operation refusal before after

abbrev pub WasAppliedInForm : Form → Inputs → Options → FormReport → (before after : SinkState) → Type 0
WasAppliedInForm form given options report before after =
    WasReportedBy (by_workers options) form given options.start options.operation report before after

abbrev pub WasRefusedInForm : Form → Inputs → Options → Refusal → (before after : SinkState) → Type 0
WasRefusedInForm form given options refusal before after =
    WasRefusedBy (by_workers options) form given options.start options.operation refusal before after

-- ---- in lanes

abbrev pub WasAppliedInLanes : Inputs → (lanes start : ℕ) → Operation → Report → (before after : SinkState) → Type 0
WasAppliedInLanes given lanes start operation report before after =
    WasAppliedBy (InLanes lanes) Applystream given start operation report before after

abbrev pub WasRefusedInLanes : Inputs → (lanes start : ℕ) → Operation → Refusal → (before after : SinkState) → Type 0
WasRefusedInLanes given lanes start operation refusal before after =
    WasRefusedBy (InLanes lanes) Applystream given start operation refusal before after

abbrev pub WasAppliedInFormAndLanes : Form → Inputs → (lanes start : ℕ) → Operation → FormReport → (before after : SinkState) → Type 0
WasAppliedInFormAndLanes form given lanes start operation report before after =
    WasReportedBy (InLanes lanes) form given start operation report before after

abbrev pub WasRefusedInFormAndLanes : Form → Inputs → (lanes start : ℕ) → Operation → Refusal → (before after : SinkState) → Type 0
WasRefusedInFormAndLanes form given lanes start operation refusal before after =
    WasRefusedBy (InLanes lanes) form given start operation refusal before after
