-- From what was read for a form to what is applied and written.
use Rattle.std.proofs.Common.{◌≡◌, ◌≢◌, ◌∙◌, ◌⊎◌, ℕ, List, Option, Result, Err, ap, ap₂, inl, inr, refl, subst, sym}
use Rattle.apply_hooks.specs.declared.rule.Rule.{Rule}
use Rattle.apply_model.specs.declared.details.change_details.ChangeDetails.{ChangeDetails}
use Rattle.apply_model.specs.declared.details.note.Note.{Note}
use Rattle.apply_model.specs.declared.details.output.Output.{Output}
use Rattle.apply_plan.specs.declared.script.script_error.ScriptError.{ScriptError}
use Rattle.apply_plan.specs.declared.script.script_error.ScriptError.TheVariants as script_error
use Rattle.apply_plan.specs.Plan.SavedPlan.{SavedPlan}
use Rattle.apply_plan.specs.Script.OutcomeMap.{OutcomeMap}
use Rattle.apply_plan_terraform.specs.Extras.{ExtrasOfScript}
use Rattle.apply_events.specs.Step.{Work}
use Rattle.apply_text.specs.declared.operation.Operation.{Operation}
use Rattle.apply_text_terraform.specs.declared.form.Form.{Form}
use Rattle.apply_text_terraform.specs.declared.form.Form.TheVariants.{Applystream, Terraform}
use Rattle.apply_run.specs.declared.read_inputs.ReadInputs.{ReadInputs}
use Rattle.apply_run.specs.declared.refusal.Refusal.{Refusal}
use Rattle.apply_run.specs.declared.refusal.Refusal.TheVariants.{Plan, Script, Waits, Size, Fault}
use Rattle.apply_run.specs.Bytes.{Inputs, IsRead, MayBeRead}
use Rattle.apply_run.specs.FromBytes.{AppliedInputs, IsReadAs, IsUnreadFor, PlainInputs, ReadFor, WasReadFor, WasRefusedBy, form_for, form_of, inputs_view, work_for}
use Rattle.apply_run.specs.Read.{IsStated, StatedInputs, WasNotRead}
use Rattle.apply_run.specs.Run.{SinkState}
use Rattle.apply_run.specs.Schedule.{Schedule}
use Rattle.apply_writer.specs.declared.forms.plain_lines.PlainLines.{PlainLines}
use Rattle.apply_writer.specs.declared.forms.terraform_lines.TerraformLines.{TerraformLines}
use Rattle.apply_writer.specs.Stream.Form.{StreamForm, plain_form}
use Rattle.apply_writer.specs.Stream.Terraform.{StreamExtras, terraform_form}

-- inputs that were not read are refused
pub unread : (schedule : Schedule) (form : Form) (given : Inputs) (start : ℕ) (operation : Operation) (refusal : Refusal) (state : SinkState)
    → IsUnreadFor form given refusal → WasRefusedBy schedule form given start operation refusal state state
unread schedule form given start operation (Plan refusal) state is = (is, refl)
unread schedule form given start operation (Script refusal) state is = (is, refl)
unread schedule Applystream given start operation Waits state is = absurd is
unread schedule Terraform given start operation Waits state is = absurd is
unread schedule Applystream given start operation Size state is = absurd is
unread schedule Terraform given start operation Size state is = absurd is
unread schedule Applystream given start operation (Fault fault) state is = absurd is
unread schedule Terraform given start operation (Fault fault) state is = absurd is

-- what was read or refused for a form that is known
pub plain_read : (form : Form) (given : Inputs) (stated : PlainInputs) (read : ReadInputs) → form ≡ Applystream
    → IsRead given stated.plan stated.script → IsReadAs Applystream stated read → WasReadFor form given read
plain_read Applystream given stated read is is_read read_as = record { stated = stated; is_read = is_read; read_as = read_as }
plain_read Terraform given stated read is is_read read_as = absurd cc

pub terraform_read : (form : Form) (given : Inputs) (stated : StatedInputs) (read : ReadInputs) → form ≡ Terraform
    → IsStated given.plan given.script stated → IsReadAs Terraform stated read → WasReadFor form given read
terraform_read Applystream given stated read is is_read read_as = absurd cc
terraform_read Terraform given stated read is is_read read_as = record { stated = stated; is_read = is_read; read_as = read_as }

pub terraform_unread : (form : Form) (given : Inputs) (refusal : Refusal) → form ≡ Terraform
    → WasNotRead given.plan given.script refusal → IsUnreadFor form given refusal
terraform_unread Applystream given refusal is unread = absurd cc
terraform_unread Terraform given refusal is unread = unread

-- the extras of a script are refused: for want of memory, or with the error that they have
pub extras_refused : (refusal : ScriptError) (stated : Result ExtrasOfScript ScriptError) (script : Option (List ℕ))
    → (refusal ≢ script_error.Memory → stated ≡ Err refusal) → (refusal ≡ script_error.Memory → MayBeRead script)
    → ((refusal ≡ script_error.Memory) × MayBeRead script) ⊎ (stated ≡ Err refusal)
extras_refused script_error.Memory stated script defined memory = inl (refl, memory refl)
extras_refused refusal stated script defined memory = inr (defined (λ is. absurd cc))

-- ---- what holds of the work and of the lines that were read, holds of what was stated

pub plain_is : (form : Form) (read : ReadInputs) (lines : PlainLines) (start : ℕ) (operation : Operation) → form ≡ Applystream
    → (lines.plan.now ≡ read.plan) × (lines.script.now ≡ read.script) × (lines.start ≡ start) × (lines.operation ≡ operation)
    → plain_form lines.plan.now lines.script.now lines.start lines.operation ≡ form_of form (inputs_view read) start operation
plain_is Applystream read lines start operation is made =
    ap₂ (λ p s. plain_form p s lines.start lines.operation) made.0 made.1 ∙ ap₂ (plain_form read.plan read.script) made.2 made.3
plain_is Terraform read lines start operation is made = absurd cc

abbrev extras : List ChangeDetails → List Note → List Output → StreamExtras
extras details notes outputs = record { details = details; notes = notes; outputs = outputs }

pub terraform_is : (form : Form) (read : ReadInputs) (lines : TerraformLines) (start : ℕ) (operation : Operation) → form ≡ Terraform
    → (lines.plan.now ≡ read.plan) × (lines.script.now ≡ read.script) × (lines.extras.details.now ≡ read.changes.items)
    × (lines.extras.notes.now ≡ read.notes.items) × (lines.extras.outputs.now ≡ read.outputs.items)
    × (lines.start ≡ start) × (lines.operation ≡ operation)
    → terraform_form lines.plan.now lines.script.now (extras lines.extras.details.now lines.extras.notes.now lines.extras.outputs.now) lines.start lines.operation
    ≡ form_of form (inputs_view read) start operation
terraform_is Applystream read lines start operation is made = absurd cc
terraform_is Terraform read lines start operation is made =
    ap₂ (λ p s. terraform_form p s (extras lines.extras.details.now lines.extras.notes.now lines.extras.outputs.now) lines.start lines.operation) made.0 made.1
    ∙ ap₂ (λ d n. terraform_form read.plan read.script (extras d n lines.extras.outputs.now) lines.start lines.operation) made.2 made.3
    ∙ ap₂ (λ o s. terraform_form read.plan read.script (extras read.changes.items read.notes.items o) s lines.operation) made.4 made.5
    ∙ ap (terraform_form read.plan read.script (extras read.changes.items read.notes.items read.outputs.items) start) made.6

abbrev work : SavedPlan → OutcomeMap → List (List Rule) → Work
work plan script hooks = record { plan = plan; script = script; hooks = hooks }

pub as_stated : (P : StreamForm → Work → Type 0) (form : Form) (given : Inputs) (stated : ReadFor form) (read : ReadInputs)
    (hooks : List (List Rule)) (start : ℕ) (operation : Operation) (lines : StreamForm) → given.hooks ≡ hooks → IsReadAs form stated read
    → lines ≡ form_of form (inputs_view read) start operation
    → P lines (work read.plan read.script hooks) → P (form_for form stated start operation) (work_for form given stated)
as_stated P form given stated read hooks start operation lines hooks_are read_as lines_are holds =
    subst (λ (applied : AppliedInputs). P (form_of form applied start operation) (work applied.plan applied.script given.hooks)) read_as.applied
    (subst (P (form_of form (inputs_view read) start operation)) (ap (work read.plan read.script) (sym hooks_are))
    (subst (λ form. P form (work read.plan read.script hooks)) lines_are holds))
