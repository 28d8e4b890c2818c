-- A stream does not depend on the values of sensitive outputs.
use Rattle.std.proofs.Common.{◌≡◌, ℕ, List, [], ◌++◌, cond, map, Option, refl, ap, ap₂, ◌∙◌}
use Rattle.std.proofs.Math.Path.{fun_ext}
use Rattle.std.specs.Prelude.{flat_map}
use Rattle.apply_model.specs.Plan.SavedPlan.{SavedPlan}
use Rattle.apply_model.specs.Script.OutcomeMap.{OutcomeMap}
use Rattle.apply_events.specs.declared.counts.Counts.{Counts}
use Rattle.apply_text.specs.declared.operation.Operation.{Operation}
use Rattle.apply_text.specs.declared.operation.Operation.TheVariants.{Apply, Destroy}
use Rattle.apply_model.specs.declared.details.change_details.ChangeDetails.{ChangeDetails}
use Rattle.apply_model.specs.declared.details.note.Note.{Note}
use Rattle.apply_model.specs.declared.details.output.Output.{Output}
use Rattle.apply_text_terraform.specs.declared.form.Form.TheVariants.{Terraform}
use Rattle.apply_text_terraform.specs.Laws.{without_secret}
use Rattle.apply_text_terraform.specs.Lines.{note_text, summary_text}
use Rattle.apply_text_terraform.proofs.Absent.{secrets}
use Rattle.apply_plan_terraform.specs.declared.plan_notes.PlanNote.{PlanNote}
use Rattle.apply_plan_terraform.specs.Notes.{written_notes}
use Rattle.apply_run.specs.FromBytes.{form_for}
use Rattle.apply_run.specs.Read.{StatedInputs, applied_plan, applied_script, extras_of, is_unfinished}
use Rattle.apply_writer.specs.Stream.Form.{StreamForm, lines_in, stream_in}
use Rattle.apply_writer.specs.Stream.Terraform.{imported_in, outputs_of_apply, tail_text, contains_error, terraform_form}
use Rattle.laws_run.specs.Sensitive.{AreReadAlike, HaveSameStream}
use Rattle.laws_run.proofs.SecretOutputs.{outputs_alike}

-- ---- of outputs that are written

emitted_last : (operation : Operation) (start latest : ℕ) (one other : List Output) → map without_secret one ≡ map without_secret other
    → outputs_of_apply operation start latest one ≡ outputs_of_apply operation start latest other
emitted_last Apply start latest one other same = secrets start latest one other same
emitted_last Destroy start latest one other same = refl

module _ (details : List ChangeDetails) (notes : List Note) where
  with_tail : SavedPlan → OutcomeMap → (start : ℕ) → Operation → ((latest : ℕ) → Counts → List ℕ) → StreamForm
  with_tail plan script start operation tail =
      record (terraform_form plan script (record { details = details; notes = notes; outputs = [] }) start operation) { tail = tail }

  tails : (start : ℕ) (operation : Operation) (latest : ℕ) (counts : Counts) (one other : List Output) → map without_secret one ≡ map without_secret other
      → tail_text (record { details = details; notes = notes; outputs = one }) start operation latest counts ≡ tail_text (record { details = details; notes = notes; outputs = other }) start operation latest counts
  tails start operation latest counts one other same =
      ap (λ (last : List ℕ). flat_map (note_text start latest) notes ++ cond (contains_error notes counts) [] (summary_text start latest operation counts (imported_in details) ++ last))
      (emitted_last operation start latest one other same)

  pub same_form : (plan : SavedPlan) (script : OutcomeMap) (one other : List Output) (start : ℕ) (operation : Operation) → map without_secret one ≡ map without_secret other
      → terraform_form plan script (record { details = details; notes = notes; outputs = one }) start operation
      ≡ terraform_form plan script (record { details = details; notes = notes; outputs = other }) start operation
  unfolding with_tail
  same_form plan script one other start operation same =
      ap (with_tail plan script start operation) (fun_ext (λ latest. fun_ext (λ counts. tails start operation latest counts one other same)))

-- ---- of what was read

module _ (one other : StatedInputs) (alike : AreReadAlike one other) where
  pub plans : applied_plan one ≡ applied_plan other
  plans = ap₂ (λ (n : Option PlanNote) (p : SavedPlan). cond (is_unfinished n) (record { version = p.version; changes = [] }) p) alike.note alike.plan

  pub scripts : applied_script one ≡ applied_script other
  scripts = ap₂ (λ (n : Option PlanNote) (s : OutcomeMap). cond (is_unfinished n) [] s) alike.note alike.script

  pub notes_same : (extras_of one).notes ≡ (extras_of other).notes
  notes_same = ap₂ written_notes alike.note alike.notes

  pub forms : (start : ℕ) (operation : Operation) → form_for Terraform one start operation ≡ form_for Terraform other start operation
  forms start operation =
      same_form one.details.changes (extras_of one).notes (applied_plan one) (applied_script one) (extras_of one).outputs (extras_of other).outputs start operation
      (outputs_alike one.details.outputs other.details.outputs one.extras.outputs other.extras.outputs alike.outputs alike.script_outputs)
      ∙ ap₂ (λ (p : SavedPlan) (s : OutcomeMap). terraform_form p s (record { details = one.details.changes; notes = (extras_of one).notes; outputs = (extras_of other).outputs }) start operation) plans scripts
      ∙ ap₂ (λ (d : List ChangeDetails) (n : List Note). terraform_form (applied_plan other) (applied_script other) (record { details = d; notes = n; outputs = (extras_of other).outputs }) start operation) alike.changes notes_same

  pub told_alike : HaveSameStream one other
  told_alike = record {
    plan = plans;
    script = scripts;
    notes = notes_same;
    stream = λ start operation taken. ap (λ (form : StreamForm). stream_in form taken) (forms start operation);
    lines = λ start operation written. ap (λ (form : StreamForm). lines_in form written) (forms start operation);
  }
