-- Streams in Terraform's form.
use Rattle.std.proofs.Common.{◌≡◌, ℕ, zero, suc, ◌+◌, ◌<◌, Bool, true, false, ◌||◌, cond, nat_lt, List, [], ◌∷◌, ◌++◌, All, append_assoc, refl, sym, ap, ◌∙◌, arith, lt-ltb}
use Rattle.std.specs.Prelude.{count_by, flat_map}
use Rattle.std.specs.List.{concat, list_any}
use Rattle.std.proofs.lemmas.List.Concat.{flat_map-append}
use Rattle.std.proofs.lemmas.List.Elements.{All-head, All-tail}
use Rattle.std.proofs.lemmas.List.Sums.{sum_by-cons}
use Rattle.apply_model.specs.declared.details.change_details.ChangeDetails.{ChangeDetails}
use Rattle.apply_model.specs.declared.details.note.Note.{Note}
use Rattle.apply_model.specs.declared.details.output.Output.{Output}
use Rattle.apply_model.specs.declared.plan.step_kind.StepKind.TheVariants.{Create, Update, Delete}
use Rattle.apply_model.specs.Plan.SavedPlan.{SavedPlan}
use Rattle.apply_model.specs.Script.OutcomeMap.{OutcomeMap}
use Rattle.apply_events.specs.declared.counts.Counts.{Counts}
use Rattle.apply_events.specs.declared.event.Event.{Event}
use Rattle.apply_events.specs.Diagnostics.{is_note}
use Rattle.apply_events.specs.Totals.{is_errored, is_halted, totals_of}
use Rattle.apply_text.specs.declared.operation.Operation.{Operation}
use Rattle.apply_text.specs.Order.{hook_messages_of}
use Rattle.apply_text_terraform.specs.Lines.{event_text, note_text, summary_text}
use Rattle.apply_text_terraform.specs.Message.{diagnostic_address}
use Rattle.apply_writer.specs.Stream.Form.{stream_in}
use Rattle.apply_writer.specs.Stream.Terraform.{StreamExtras, contains_error, imported_in, is_error, outputs_of_apply, planned_id_of, tail_text, terraform_form, terraform_head_chunks}
use Rattle.laws_texts.specs.Streams.{AreNotHalted, notes_told}
use Rattle.laws_texts.specs.Terraform.{AreSameStreams, IsToldAlike, all_notes}
use Rattle.laws_texts.proofs.NotesOfTimeLines.{are_hooks}
use Rattle.laws_texts.proofs.PlainStreams.{all_both, same_completed}
use Rattle.laws_texts.proofs.WholeStreams.{after_hooks, hooks_clock, same_streams}
use Rattle.laws_texts.proofs.Terraform.HookLines.{same_line}
use Rattle.laws_texts.proofs.Terraform.NoteLines.{lines_of_notes}
use Rattle.laws_texts.proofs.Totals.{counts_failed}

-- ---- totals

none_counted : (p : Event → Bool) (es : List Event) → All (λ e. p e ≡ false) es → count_by p es ≡ 0
none_counted p [] none = refl
none_counted p (e ∷ es) none =
    let nothing : cond {A = ℕ} (p e) 1 0 ≡ 0 = ap (λ t. cond {A = ℕ} t 1 0) (All-head (λ f. p f ≡ false) e es none) in
    let rest = none_counted p es (All-tail (λ f. p f ≡ false) e es none) in
    let all = sum_by-cons (λ (f : Event). cond {A = ℕ} (p f) 1 0) e es in omega arith

same_failed : (events others : List Event) → hook_messages_of others ≡ hook_messages_of events
    → count_by (λ e. is_errored e.what) others ≡ count_by (λ e. is_errored e.what) events
same_failed events others hooks = sym (counts_failed others) ∙ ap (count_by (λ e. is_errored e.what)) hooks ∙ counts_failed events

same_totals : (plan : SavedPlan) (events others : List Event) → hook_messages_of others ≡ hook_messages_of events → AreNotHalted events → AreNotHalted others
    → totals_of plan others ≡ totals_of plan events
same_totals plan events others hooks none others_none =
    let added = same_completed plan Create events others hooks in
    let changed = same_completed plan Update events others hooks in
    let removed = same_completed plan Delete events others hooks in
    let failed = same_failed events others hooks in
    let halted = none_counted (λ e. is_halted e.what) others others_none ∙ sym (none_counted (λ e. is_halted e.what) events none) in
    rw (added, changed, removed, failed, halted) refl

-- ---- the end of a stream

some_failed : (a b : Bool) (failed halted : ℕ) → (failed ≡ 0 → b ≡ a) → halted ≡ 0 → (nat_lt 0 (failed + halted) || b) ≡ (nat_lt 0 (failed + halted) || a)
some_failed a b zero halted same none = ap (λ t. nat_lt 0 (zero + halted) || t) (same refl)
some_failed a b (suc failed) halted same none =
    let some : 0 < suc failed + halted = omega arith in
    let yes : nat_lt 0 (suc failed + halted) ≡ true = lt-ltb 0 (suc failed + halted) some in
    ap (λ t. t || b) yes ∙ sym (ap (λ t. t || a) yes)

module _ (plan : SavedPlan) (details : List ChangeDetails) (outputs : List Output) (start : ℕ) (operation : Operation) where
  abbrev extras_with : List Note → StreamExtras
  extras_with notes = record { details = details; notes = notes; outputs = outputs }

  -- what comes after all diagnostics
  abbrev last : (has_error : Bool) → (clock : ℕ) → Counts → List ℕ
  last has_error clock counts =
      cond has_error [] (summary_text start clock operation counts (imported_in details) ++ outputs_of_apply operation start clock outputs)

  abbrev line_by : OutcomeMap → ℕ → Event → List ℕ
  line_by script clock e = event_text plan script start clock (planned_id_of details e.change) e

  after_is : (script : OutcomeMap) (notes : List Note) (events : List Event) (clock : ℕ) (counts : Counts)
      → after_hooks (line_by script) (λ t. tail_text (extras_with notes) start operation t counts) clock events
      ≡ flat_map (note_text start clock) (all_notes plan script (extras_with notes) events) ++ last (contains_error notes counts) clock counts
  after_is script notes events clock counts =
      let own = notes_told diagnostic_address plan script events in
      let end = last (contains_error notes counts) clock counts in
      ap (λ l. l ++ (flat_map (note_text start clock) notes ++ end)) (lines_of_notes plan script start clock (λ e. planned_id_of details e.change) events)
      ∙ sym (append_assoc (flat_map (note_text start clock) own) (flat_map (note_text start clock) notes) end)
      ∙ ap (λ l. l ++ end) (sym (flat_map-append (note_text start clock) own notes))

  module _ (one other : OutcomeMap) (notes other_notes : List Note) (events others : List Event)
      (same : AreSameStreams plan one other (extras_with notes) (extras_with other_notes) events others) where
    same_errors : contains_error other_notes (totals_of plan events) ≡ contains_error notes (totals_of plan events)
    same_errors =
        some_failed (list_any is_error notes) (list_any is_error other_notes) (totals_of plan events).failed (totals_of plan events).halted same.errors
        (none_counted (λ e. is_halted e.what) events same.not_halted)

    same_after : (clock : ℕ)
        → after_hooks (line_by other) (λ t. tail_text (extras_with other_notes) start operation t (totals_of plan others)) clock others
        ≡ after_hooks (line_by one) (λ t. tail_text (extras_with notes) start operation t (totals_of plan events)) clock events
    same_after clock =
        ap (λ counts. after_hooks (line_by other) (λ t. tail_text (extras_with other_notes) start operation t counts) clock others)
        (same_totals plan events others same.messages.hooks same.not_halted same.others_not_halted)
        ∙ after_is other other_notes others clock (totals_of plan events)
        ∙ ap (λ l. flat_map (note_text start clock) l ++ last (contains_error other_notes (totals_of plan events)) clock (totals_of plan events)) same.notes
        ∙ ap (λ t. flat_map (note_text start clock) (all_notes plan one (extras_with notes) events) ++ last t clock (totals_of plan events)) same_errors
        ∙ sym (after_is one notes events clock (totals_of plan events))

    pub same_with : stream_in (terraform_form plan other (extras_with other_notes) start operation) others
        ≡ stream_in (terraform_form plan one (extras_with notes) start operation) events
    same_with =
        let IsAlike : Event → Type 0 = λ e. IsToldAlike plan one other (planned_id_of details e.change) e in
        same_streams (concat (terraform_head_chunks plan details start)) (line_by one) (line_by other)
        (λ t. tail_text (extras_with notes) start operation t (totals_of plan events)) (λ t. tail_text (extras_with other_notes) start operation t (totals_of plan others))
        events others same.messages.in_time same.messages.others_in_time same.messages.hooks
        (all_both (λ e. is_note e.what ≡ false) IsAlike (λ e. (clock : ℕ) → line_by other clock e ≡ line_by one clock e)
        (hook_messages_of events) (λ e hook alike clock. same_line plan one other start clock (planned_id_of details e.change) e hook alike)
        (are_hooks events) same.messages.alike)
        (same_after (hooks_clock events))

-- ---- extras that are alike

pub same_stream : (plan : SavedPlan) (one other : OutcomeMap) (extras other_extras : StreamExtras) (start : ℕ) (operation : Operation) (events others : List Event)
    → AreSameStreams plan one other extras other_extras events others
    → stream_in (terraform_form plan other other_extras start operation) others ≡ stream_in (terraform_form plan one extras start operation) events
same_stream plan one other extras other_extras start operation events others same =
    let both : List ChangeDetails → List Output → StreamExtras = λ details outputs. record { details = details; notes = other_extras.notes; outputs = outputs } in
    ap (λ details. stream_in (terraform_form plan other (both details other_extras.outputs) start operation) others) same.beyond.details
    ∙ ap (λ outputs. stream_in (terraform_form plan other (both extras.details outputs) start operation) others) same.beyond.outputs
    ∙ same_with plan extras.details extras.outputs start operation one other extras.notes other_extras.notes events others
    (record {
      beyond = record { details = refl; outputs = refl };
      messages = same.messages;
      not_halted = same.not_halted;
      others_not_halted = same.others_not_halted;
      notes = same.notes;
      errors = same.errors;
    })
