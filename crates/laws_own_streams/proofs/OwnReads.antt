-- What is read of the stream of a run, from what holds of its plan, its script and its events.
use Rattle.std.proofs.Common.{◌≡◌, ℕ, ◌+◌, pos, All, Bool, true, false, cond, List, [], ◌++◌, length, Option, Some, None, Ok, refl, sym, ap, ap₂, ◌∙◌, subst}
use Rattle.std.specs.Prelude.{◌||◌, flat_map, is_some, map, option_map}
use Rattle.std.specs.List.{enumerate_from}
use Rattle.stream_lines.specs.Cut.{cut_lines}
use Rattle.apply_model.specs.declared.details.note.Note.{Note}
use Rattle.apply_model.specs.Plan.SavedPlan.{SavedPlan}
use Rattle.apply_model.specs.Script.OutcomeMap.{OutcomeMap}
use Rattle.apply_events.specs.declared.event.Event.{Event}
use Rattle.apply_events.specs.Fits.{Fits}
use Rattle.apply_events.specs.Totals.{totals_of}
use Rattle.apply_text.specs.declared.operation.Operation.{Operation}
use Rattle.apply_text.specs.declared.operation.Operation.TheVariants.{Apply, Destroy}
use Rattle.apply_text.specs.Lines.{stream_of}
use Rattle.apply_text.specs.Order.{hook_messages_of, notes_of}
use Rattle.apply_writer.specs.Stream.Form.{stream_in}
use Rattle.apply_writer.specs.Stream.Terraform.{StreamExtras, contains_error, terraform_form}
use Rattle.stream_record_lines.specs.declared.outputs.output.Output.{Output}
use Rattle.stream_record_lines.specs.declared.summary.Summary.{Summary}
use Rattle.stream_record_steps.specs.Begun.{Begun, none_begun}
use Rattle.stream_record_steps.specs.Steps.{planned_steps}
use Rattle.stream_record_stream.specs.Reading.{is_of_another_plan, nothing_known, read_of}
use Rattle.stream_record_stream.specs.Streams.{StreamRead, has_error}
use Rattle.stream_record_stream.specs.declared.stream_fault.StreamFault.TheVariants.{NoStepOfPlan}
use Rattle.laws_begun.specs.Telling.{Telling, after_events}
use Rattle.laws_check.specs.FormTexts.{HasFormTexts}
use Rattle.laws_check.specs.Texts.{FitBits, HasTexts}
use Rattle.laws_lines.specs.Reading.{HasRead, IsReadAs, NeverFalls, NoReadFails, outputs_read, summary_told}
use Rattle.laws_lines.specs.Notes.{note_in_form}
use Rattle.laws_lines.specs.Stated.{told_by, told_in_form}
use Rattle.laws_lines.specs.Stated as stated
use Rattle.laws_lines.specs.Streams.{AreTold, planned_told}
use Rattle.laws_lines.proofs.FormReading as form
use Rattle.laws_lines.proofs.PlainReading as plain
use Rattle.laws_own_streams.specs.Runs.{notes_read, notes_read_in_form, planned_count}
use Rattle.laws_own_streams.proofs.CountedLines.{all_lines}
use Rattle.laws_lines.proofs.Happening.{all_loud, all_planned}
use Rattle.laws_own_streams.proofs.OwnNotes.{HaveAddresses, notes_in_form, plain_notes}
use Rattle.laws_own_streams.proofs.ShortLines.{same_read, short_lines}
use Rattle.laws_texts.specs.Streams.{notes_told}
use Rattle.apply_text_terraform.specs.Message.{diagnostic_address}
use Rattle.laws_own_streams.proofs.FilledAddresses.{HaveFilled, all_kept, events_filled}
use Rattle.laws_reads.specs.Runs.{IsOfRun, summary_of, unless}

-- what holds of the events of a run
pub record AreOwn (plan : SavedPlan) (script : OutcomeMap) (start : ℕ) (events : List Event) : Type 0 where
  pub bits : FitBits plan events
  pub told : AreTold script start events
  pub fit : All (Fits plan script) events
  pub falls : NeverFalls (hook_messages_of events)

-- ---- what is read, as a run

same_presence : (o : Option Operation) → is_some (option_map (λ operation. summary_of operation) o) ≡ is_some o
same_presence None = refl
same_presence (Some operation) = refl

module _ (telling : Telling) (start line : ℕ) (events : List Event) (notes : List Note) (outputs : List Output) (summary : Option Operation) (is_default_form : Bool) where
  of_read : (read : StreamRead)
      → HasRead read (after_events telling (pos start) line events (none_begun (planned_steps telling.plan.changes))) notes outputs (option_map (λ operation. summary_of operation) summary) is_default_form
      → (is_some summary || has_error notes) ≡ true → IsOfRun telling start line events notes outputs summary is_default_form read
  of_read read has told = record {
    begun = has.begun_is;
    notes_are = has.notes_are;
    outputs_are = has.outputs_are;
    summary_is = has.summary_is;
    form = has.form_is;
    no_message = has.no_message;
    ephemeral = has.ephemeral;
    whole = ap (λ (b : Bool). cond b None (Some read.last_second))
        (ap₂ (λ (a b : Bool). a || b) (ap is_some has.summary_is ∙ same_presence summary) (ap has_error has.notes_are) ∙ told);
  }

same_summary : (operation : Operation) → stated.summary_of operation ≡ summary_of operation
same_summary Apply = refl
same_summary Destroy = refl

-- what holds of the stream that was read holds of the same stream
of_same : (plan : SavedPlan) (bytes : List ℕ) (begun : Begun) (notes : List Note) (outputs : List Output) (summary : Option Summary) (is_default_form : Bool) (read : StreamRead)
    → IsReadAs plan 0 bytes begun notes outputs summary is_default_form → read_of plan false 0 (cut_lines bytes) ≡ Ok read → HasRead read begun notes outputs summary is_default_form
of_same plan bytes begun notes outputs summary is_default_form read is reads =
    let same = same_read (is_of_another_plan is.stream.begun) NoStepOfPlan is.stream read (sym is.read ∙ reads) in
    subst (λ (r : StreamRead). HasRead r begun notes outputs summary is_default_form) (sym same) is.has

-- ---- both forms

module _ (plan : SavedPlan) (script : OutcomeMap) (start : ℕ) (operation : Operation) (events : List Event) (read : StreamRead) (own : AreOwn plan script start events) where
  pub plain_read : HasTexts plan script → HaveAddresses plan → read_of plan false 0 (cut_lines (stream_of plan script start operation events)) ≡ Ok read
      → IsOfRun (told_by plan script) start 2 (hook_messages_of events) (notes_read plan script events) [] (Some operation) true read
  plain_read texts addresses reads =
      let bytes = stream_of plan script start operation events in
      let planned = all_planned plan script events own.fit in
      let short = short_lines plan 1 (nothing_known plan) (cut_lines bytes) read reads in
      let is = plain.stream_read plan script start operation events planned own.falls 0 texts own.bits own.told short in
      let begun = after_events (told_by plan script) (pos start) 2 (hook_messages_of events) (none_begun (planned_steps plan.changes)) in
      let has = of_same plan bytes begun _ [] (Some (stated.summary_of operation)) true read is reads in
      let noted = subst (λ (l : List Note). HasRead read begun l [] (Some (stated.summary_of operation)) true) (plain_notes plan script events planned addresses) has in
      of_read (told_by plan script) start 2 (hook_messages_of events) (notes_read plan script events) [] (Some operation) true read
      (subst (λ (s : Summary). HasRead read begun (notes_read plan script events) [] (Some s) true) (same_summary operation) noted)
      refl

  -- ---- Terraform's form

  summary_or_none : (left_out : Bool) → cond left_out None (Some (stated.summary_of operation)) ≡ option_map (λ operation. summary_of operation) (unless left_out operation)
  summary_or_none true = refl
  summary_or_none false = ap Some (same_summary operation)

  one_of_both : (error : Bool) → (is_some (unless error operation) || error) ≡ true
  one_of_both true = refl
  one_of_both false = refl

  pub form_read : (extras : StreamExtras) → HasFormTexts plan script extras → HaveAddresses plan → HaveFilled extras.notes → NoReadFails plan script
      → has_error (notes_read_in_form plan script extras events) ≡ contains_error extras.notes (totals_of plan events)
      → read_of plan false 0 (cut_lines (stream_in (terraform_form plan script extras start operation) events)) ≡ Ok read
      → IsOfRun (told_in_form plan script extras.details) start (2 + planned_count plan extras.details) (hook_messages_of events) (notes_read_in_form plan script extras events)
      (outputs_read extras operation (totals_of plan events)) (unless (contains_error extras.notes (totals_of plan events)) operation) false read
  form_read extras texts addresses kept succeed agree reads =
      let bytes = stream_in (terraform_form plan script extras start operation) events in
      let planned = all_planned plan script events own.fit in
      let loud = all_loud plan script events succeed own.fit in
      let short = short_lines plan 1 (nothing_known plan) (cut_lines bytes) read reads in
      let failed = contains_error extras.notes (totals_of plan events) in
      let outputs = outputs_read extras operation (totals_of plan events) in
      let telling = told_in_form plan script extras.details in
      let hooks = hook_messages_of events in
      let begun_at : ℕ → Begun = λ count. after_events telling (pos start) (2 + count) hooks (none_begun (planned_steps plan.changes)) in
      let is = form.stream_read plan script extras start operation events loud own.falls 0 texts own.bits own.told short in
      let changes = flat_map (planned_told start extras.details) (enumerate_from 0 plan.changes) in
      let has = of_same plan bytes (begun_at (length changes)) _ outputs (summary_told extras.notes operation (totals_of plan events)) false read is reads in
      let own_notes = notes_told diagnostic_address plan script events in
      let notes = ap (λ (l : List Note). l ++ map note_in_form extras.notes) (notes_in_form plan script events planned)
      ∙ ap₂ (λ (a b : List Note). a ++ b) (all_kept own_notes (events_filled plan script addresses (notes_of events))) (all_kept extras.notes kept) in
      let noted = subst (λ (l : List Note). HasRead read (begun_at (length changes)) l outputs (summary_told extras.notes operation (totals_of plan events)) false) notes has in
      let counted = subst (λ (n : ℕ). HasRead read (begun_at n) (notes_read_in_form plan script extras events) outputs (summary_told extras.notes operation (totals_of plan events)) false)
      (all_lines start extras.details (enumerate_from 0 plan.changes)) noted in
      of_read telling start (2 + planned_count plan extras.details) hooks (notes_read_in_form plan script extras events) outputs (unless failed operation) false read
      (subst (λ (s : Option Summary). HasRead read (begun_at (planned_count plan extras.details)) (notes_read_in_form plan script extras events) outputs s false) (summary_or_none failed) counted)
      (ap (λ (b : Bool). is_some (unless failed operation) || b) agree ∙ one_of_both failed)
