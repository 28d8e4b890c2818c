-- The checker accepts all messages of a command, by what the command reads.
use Rattle.std.proofs.Common.{◌≡◌, ℕ, List, [], ◌∷◌, flat_map, map, Bool, true, false, cond, None, refl, sym, ap, ◌∙◌, subst, ⊎_elim, inl, inr}
use Rattle.std.specs.Prelude.{◌&&◌}
use Rattle.std.specs.List.{enumerate_from, list_any}
use Rattle.std.proofs.lemmas.Bool.{cases_Bool, or_parts}
use Rattle.apply_model.specs.declared.details.note.Note.{Note}
use Rattle.apply_model.specs.Plan.ResourceChange.{ResourceChange}
use Rattle.apply_model.specs.Plan.SavedPlan.{SavedPlan}
use Rattle.apply_hooks.specs.declared.rule.Rule.{Rule}
use Rattle.stream_check.specs.declared.messages.action.Action.TheVariants.{Refresh}
use Rattle.stream_check.specs.AddressState.{pending_at, state_of}
use Rattle.stream_check.specs.Message.{version}
use Rattle.apply_events.specs.declared.event.Event.{Event}
use Rattle.apply_events.specs.Waits.Merging.{time_line}
use Rattle.apply_planning.specs.PlanningWork.{planning_work}
use Rattle.apply_planning_failures.specs.Planning.{planning_notes}
use Rattle.apply_planning_failures.specs.PlansPart.{kept}
use Rattle.apply_plan_terraform.specs.Outputs.{written_outputs}
use Rattle.apply_run.specs.Read.{is_unfinished}
use Rattle.apply_text.specs.declared.operation.Operation.{Operation}
use Rattle.apply_text_planning.specs.Notes.{forgotten_in, forgotten_note_of}
use Rattle.apply_text_terraform.specs.declared.command.Command.{Command}
use Rattle.apply_command.specs.Head.{HeadInputs, is_none}
use Rattle.apply_command.specs.Notes.{command_notes, tells_plan}
use Rattle.apply_command.specs.Reading.{CommandInputs, applied_plan, applied_script, extras, failed, head_inputs, is_applied, kept_changes, kept_drifts, lines, planning}
use Rattle.apply_writer.specs.Stream.Terraform as form
use Rattle.apply_writer.specs.Stream.Terraform.{StreamExtras}
use Rattle.laws_check.specs.WholeSteps.{IsOfWholeSteps}
use Rattle.laws_check.proofs.Turning.{followed_by}
use Rattle.laws_command_check.specs.CommandAccepted.{IsCommandTaken}
use Rattle.laws_command_check.specs.Commands.{MayBePlanned, is_plan_told}
use Rattle.laws_command_check.specs.HeadReadBack.{planning_read_back}
use Rattle.laws_command_check.proofs.CommandHead.{planning_closed}
use Rattle.laws_command_check.proofs.CommandTaken.{apply_taken, error_told, no_events, none_failed, plan_taken, tells}
use Rattle.laws_command_check.proofs.HeadTaken.{all_numbers}

module _ (plans : Bool) (command : Command) (lanes : ℕ) (read : CommandInputs) (start : ℕ) (hooks : List (List Rule)) (operation : Operation) (events : List Event) (may : MayBePlanned read)
    (steps : IsOfWholeSteps (planning_work read.told) (time_line (planning_work read.told) lanes)) where
  abbrev notes_found : List Note
  notes_found = planning_notes (planning command lanes read)

  abbrev inputs : HeadInputs
  inputs = head_inputs command lanes read start

  abbrev nothing : SavedPlan
  nothing = record { version = read.stated.plan.version; changes = [] }

  -- the extras of the stream, where the plan is applied or not
  abbrev extras_at : Bool → StreamExtras
  extras_at b = record {
    details = read.stated.details.changes;
    notes = command_notes b read.stated.details.note (forgotten_note_of (forgotten_in read.stated.plan.changes read.stated.details.changes)) (planning_notes (planning command lanes read)) read.stated.extras.notes;
    outputs = written_outputs read.stated.details.outputs read.stated.extras.outputs;
  }

  no_error : failed command lanes read ≡ false → list_any form.is_error (planning_notes (planning command lanes read)) ≡ false
  no_error fine = (or_parts (is_unfinished read.stated.details.note) (list_any form.is_error notes_found) fine).1

  told_so : failed command lanes read ≡ false → is_plan_told command lanes read ≡ true
  told_so fine =
      ap (λ (f : Bool). tells_plan command f notes_found (is_none read.stated.plan.changes && is_none read.outputs)) fine
      ∙ tells command notes_found (is_none read.stated.plan.changes && is_none read.outputs) (no_error fine)

  closed_so : failed command lanes read ≡ false → (a : List ℕ) → pending_at Refresh (state_of a (followed_by (version ∷ []) (flat_map (planning_read_back read.told) (time_line (planning_work read.told) lanes)))) ≡ None
  closed_so fine = planning_closed read.told (time_line (planning_work read.told) lanes) may.few steps may.warns (no_error fine)

  all_kept : failed command lanes read ≡ false → kept_changes command lanes read ≡ map (λ (p : ℕ × ResourceChange). p.0) (enumerate_from 0 read.stated.plan.changes)
  all_kept fine = ap (λ (f : Bool). kept f (planning command lanes read) read.stated.plan.changes) fine ∙ all_numbers (enumerate_from 0 read.stated.plan.changes)

  of_applied : (b : Bool) → is_applied command lanes read ≡ b → IsOfWholeSteps (record { plan = cond b read.stated.plan (record { version = read.stated.plan.version; changes = [] }); script = cond b read.stated.script []; hooks = hooks }) events
      → IsCommandTaken plans (is_plan_told command lanes read) (head_inputs command lanes read start) (lines command lanes read) b (cond b read.stated.plan (record { version = read.stated.plan.version; changes = [] })) (cond b read.stated.script [])
      (record {
        details = read.stated.details.changes;
        notes = command_notes b read.stated.details.note (forgotten_note_of (forgotten_in read.stated.plan.changes read.stated.details.changes)) (planning_notes (planning command lanes read)) read.stated.extras.notes;
        outputs = written_outputs read.stated.details.outputs read.stated.extras.outputs;
      }) operation events
  of_applied true applies run =
      let fine = none_failed command (failed command lanes read) applies in
      apply_taken plans inputs (kept_drifts command lanes read) (kept_changes command lanes read) (time_line (planning_work read.told) lanes) (is_plan_told command lanes read) may.few steps may.whole refl
      read.stated.script hooks (extras_at true) operation events may.ordinary may.as_many refl may.provisions may.warnings run (all_kept fine) (told_so fine) (closed_so fine)
  of_applied false applies run =
      subst (λ (es : List Event). IsCommandTaken plans (is_plan_told command lanes read) inputs (lines command lanes read) false nothing [] (extras_at false) operation es) (sym (no_events nothing refl events run.planned))
      (plan_taken plans inputs (kept_drifts command lanes read) (kept_changes command lanes read) (time_line (planning_work read.told) lanes) (is_plan_told command lanes read) may.few steps may.whole refl
      nothing [] (extras_at false) operation
      (⊎_elim
      (λ (fails : failed command lanes read ≡ true). inl (error_told read.stated.details.note (forgotten_note_of (forgotten_in read.stated.plan.changes read.stated.details.changes)) notes_found read.stated.extras.notes fails))
      (λ (fine : failed command lanes read ≡ false). inr (told_so fine, closed_so fine))
      (cases_Bool (failed command lanes read))))

  pub command_taken : IsOfWholeSteps (record { plan = applied_plan command lanes read; script = applied_script command lanes read; hooks = hooks }) events
      → IsCommandTaken plans (is_plan_told command lanes read) (head_inputs command lanes read start) (lines command lanes read) (is_applied command lanes read) (applied_plan command lanes read) (applied_script command lanes read) (extras command lanes read) operation events
  command_taken run = of_applied (is_applied command lanes read) refl run
