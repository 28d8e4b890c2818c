-- What an apply prints after its head, where the plan is applied whole.
use Rattle.std.proofs.Common.{◌≡◌, ℕ, ◌+◌, Bool, true, false, List, [], ◌++◌, cond, refl, sym, ap, ap₂, ◌∙◌, Option, Some, None}
use Rattle.std.proofs.lemmas.List.{append-nil}
use Rattle.apply_model.specs.declared.details.note.Note.{Note}
use Rattle.apply_model.specs.Plan.SavedPlan.{SavedPlan}
use Rattle.apply_model.specs.Script.OutcomeMap.{OutcomeMap}
use Rattle.apply_events.specs.declared.event.Event.{Event}
use Rattle.apply_events.specs.Step.{Work}
use Rattle.apply_plan_terraform.specs.declared.plan_notes.PlanNote.{PlanNote}
use Rattle.apply_plan_terraform.specs.declared.plan_notes.PlanNote.TheVariants.{Partial, Unfinished}
use Rattle.apply_plan_terraform.specs.Notes.{written_notes}
use Rattle.apply_text.specs.declared.operation.Operation.{Operation}
use Rattle.apply_text_planning.specs.Notes.{forgotten_in, forgotten_note_of}
use Rattle.apply_text_terraform.specs.declared.command.Command.{Command}
use Rattle.apply_text_terraform.specs.declared.command.Command.TheVariants.{Apply, Destroy, Plan, Saved}
use Rattle.apply_text_terraform.specs.declared.form.Form.TheVariants.{Terraform}
use Rattle.apply_command.specs.Form.{command_form}
use Rattle.apply_command.specs.Notes.{applies, command_notes, has_failed, is_partial}
use Rattle.apply_command.specs.Reading.{CommandInputs, applied_plan, applied_script, extras, failed, form, head_inputs, lines, notes, planned_reading, planning}
use Rattle.apply_planning_failures.specs.Planning.{planning_notes}
use Rattle.apply_run.specs.Bytes.{Inputs}
use Rattle.apply_run.specs.FromBytes.{form_for, work_for}
use Rattle.apply_run.specs.Read as saved
use Rattle.apply_writer.specs.Stream.Form.{StreamForm, stream_in}
use Rattle.laws_command.specs.Streams.{AppliesWholePlan, after_head}
use Rattle.laws_command.proofs.Beginnings.{stream_is}

-- a plan is applied only where its planning did not fail
not_failed : (command : Command) (failed : Bool) → applies command failed ≡ true → failed ≡ false
not_failed Saved true is = absurd cc
not_failed Saved false is = refl
not_failed Plan failed is = absurd cc
not_failed Apply true is = absurd cc
not_failed Apply false is = refl
not_failed Destroy true is = absurd cc
not_failed Destroy false is = refl

-- a plan of all targets whose planning did not fail has no note
no_note : (note : Option PlanNote) (planning : List Note) → has_failed note planning ≡ false → is_partial note ≡ false → note ≡ None
no_note None planning finished whole = refl
no_note (Some Partial) planning finished whole = absurd cc
no_note (Some Unfinished) planning finished whole = absurd cc

module _ (command : Command) (lanes : ℕ) (read : CommandInputs) (whole : AppliesWholePlan command lanes read) where
  note : read.stated.details.note ≡ None
  note = no_note read.stated.details.note (planning_notes (planning command lanes read)) (not_failed command (failed command lanes read) whole.applied) whole.whole

  same_plan : applied_plan command lanes read ≡ saved.applied_plan read.stated
  same_plan =
      ap (λ t. let none : SavedPlan = record { version = read.stated.plan.version; changes = [] } in cond t read.stated.plan none) whole.applied
      ∙ sym (ap (λ (n : Option PlanNote). let none : SavedPlan = record { version = read.stated.plan.version; changes = [] } in cond (saved.is_unfinished n) none read.stated.plan) note)

  same_script : applied_script command lanes read ≡ saved.applied_script read.stated
  same_script =
      ap (λ t. let none : OutcomeMap = [] in cond t read.stated.script none) whole.applied
      ∙ sym (ap (λ (n : Option PlanNote). let none : OutcomeMap = [] in cond (saved.is_unfinished n) none read.stated.script) note)

  same_notes : notes command lanes read ≡ (saved.extras_of read.stated).notes
  same_notes =
      let script = read.stated.extras.notes in
      let forgotten = forgotten_note_of (forgotten_in read.stated.plan.changes read.stated.details.changes) in
      let said = planning_notes (planning command lanes read) in
      let plain : command_notes true None (forgotten_note_of []) said script ≡ script = simp append-nil in
      ap (λ t. command_notes t read.stated.details.note forgotten said script) whole.applied
      ∙ ap (λ (n : Option PlanNote). command_notes true n forgotten said script) note
      ∙ ap (λ (addresses : List (List ℕ)). command_notes true None (forgotten_note_of addresses) said script) whole.forgets_none
      ∙ plain
      ∙ sym (ap (λ (n : Option PlanNote). written_notes n script) note)

  pub same_work : (refresh : Bool) (given : Inputs) → (planned_reading command refresh lanes).work given read ≡ work_for Terraform given read.stated
  same_work refresh given = ap₂ (λ (plan : SavedPlan) (script : OutcomeMap). let work : Work = record { plan = plan; script = script; hooks = given.hooks } in work) same_plan same_script

  module _ (start : ℕ) (operation : Operation) (events : List Event) where
    abbrev planned : StreamForm
    planned = form command lanes read start operation

    abbrev later : ℕ
    later = start + (head_inputs command lanes read start).took

    -- the form of these parts
    abbrev of_parts : (applied : Bool) → SavedPlan → OutcomeMap → List Note → StreamForm
    of_parts applied plan script notes =
        let shown = extras command lanes read in
        command_form (head_inputs command lanes read start) (lines command lanes read) applied plan script
        (record { details = shown.details; notes = notes; outputs = shown.outputs }) operation

    -- after its head it is that of a saved plan
    as_saved : after_head planned events ≡ after_head (form_for Terraform read.stated later operation) events
    as_saved =
        ap (λ t. after_head (of_parts t (applied_plan command lanes read) (applied_script command lanes read) (notes command lanes read)) events) whole.applied
        ∙ ap (λ p. after_head (of_parts true p (applied_script command lanes read) (notes command lanes read)) events) same_plan
        ∙ ap (λ s. after_head (of_parts true (saved.applied_plan read.stated) s (notes command lanes read)) events) same_script
        ∙ ap (λ n. after_head (of_parts true (saved.applied_plan read.stated) (saved.applied_script read.stated) n) events) same_notes

    pub same_stream : stream_in planned events ≡ planned.head ++ after_head (form_for Terraform read.stated later operation) events
    same_stream = stream_is planned events ∙ ap (λ (l : List ℕ). planned.head ++ l) as_saved
