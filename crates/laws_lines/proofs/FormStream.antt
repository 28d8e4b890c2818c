-- What the lines of a stream state in Terraform's form.
use Rattle.std.proofs.Common.{◌≡◌, ℕ, zero, suc, ◌+◌, ◌≤◌, List, [], ◌∷◌, ◌++◌, append-nil, append_assoc, codes, cond, flat_map, length, map, IsUtf8, Bool, true, false, Option, Some, None, refl, sym, ap, ap₂, ◌∙◌, subst, slice_get}
use Rattle.std.specs.Prelude.{IfSome}
use Rattle.std.specs.List.{AllByRecursion, concat, enumerate_from}
use Rattle.std.specs.Option.{option_map_or}
use Rattle.std.proofs.lemmas.List.Folds.{concat-append}
use Rattle.stream_lines.specs.Cut.{cut_lines}
use Rattle.apply_model.specs.declared.details.change_details.ChangeDetails.{ChangeDetails}
use Rattle.apply_model.specs.declared.details.note.Note.{Note}
use Rattle.apply_model.specs.declared.plan.step_kind.StepKind.{StepKind}
use Rattle.apply_model.specs.declared.script.outcome.Outcome.{Outcome}
use Rattle.apply_model.specs.Plan.ResourceChange.{ResourceChange}
use Rattle.apply_model.specs.Plan.SavedPlan.{SavedPlan}
use Rattle.apply_model.specs.Script.OutcomeMap.{OutcomeMap, outcome_of}
use Rattle.apply_events.specs.declared.counts.Counts.{Counts}
use Rattle.apply_events.specs.declared.event.Event.{Event}
use Rattle.apply_events.specs.declared.what.What.{What}
use Rattle.apply_events.specs.declared.what.What.TheVariants.{Start, Progress, Complete, Errored, ErrorNote, WarnNote, Halted, ProvisionStart, ProvisionOutput, ProvisionComplete, ProvisionErrored}
use Rattle.apply_events.specs.Diagnostics.{is_note}
use Rattle.apply_events.specs.Totals.{totals_of}
use Rattle.apply_text.specs.declared.operation.Operation.{Operation}
use Rattle.apply_text.specs.declared.operation.Operation.TheVariants.{Apply, Destroy}
use Rattle.apply_text.specs.Latest.{latest_of}
use Rattle.apply_text.specs.Message.{no_diag}
use Rattle.apply_text.specs.Order.{as_written}
use Rattle.apply_text.specs.Start.{last_second}
use Rattle.apply_text_terraform.specs.Details.{planned_word}
use Rattle.apply_text_terraform.specs.Lines.{event_line, event_text, message_line, note_text, outputs_text, planned_text, summary_text, version_text}
use Rattle.apply_text_terraform.specs.Message.{end_id, is_silent, planned_message}
use Rattle.apply_text_terraform.specs.UtcTimestamp.{precise_timestamp_text}
use Rattle.apply_writer.specs.Stream.Form.{stream_in}
use Rattle.apply_writer.specs.Stream.Terraform.{StreamExtras, contains_error, imported_in, outputs_of_apply, planned_at, planned_id_of, terraform_form, terraform_head_chunks}
use Rattle.stream_record_lines.specs.declared.event.Event.{Event as Stated}
use Rattle.stream_record_lines.specs.declared.event.Event.TheVariants as event
use Rattle.stream_record_lines.specs.declared.stated_line.StatedLine.TheVariants.{Message}
use Rattle.stream_record_lines.specs.declared.stated_message.StatedMessage.{StatedMessage}
use Rattle.stream_record_lines.specs.Lines.{stated_line}
use Rattle.laws_check.specs.Forms.{event_diagnostic}
use Rattle.laws_check.specs.FormTexts.{HasFormTexts, HasVerbatimDiagnostics, HasVerbatimTexts}
use Rattle.laws_check.specs.ReadBackInForm.{HasDetailTexts, HasNoteTexts}
use Rattle.laws_check.specs.Texts.{AreSmall, FitBits, HasChangeTexts, IsSmall}
use Rattle.laws_check.proofs.ErrorLevels.{joined}
use Rattle.laws_check.proofs.Given.{gone_on, held_at, numbered}
use Rattle.laws_lines.specs.Notes.{note_in_form, step_note_in_form}
use Rattle.laws_lines.specs.Stated.{IsNamed, IsStatedAs, stated_at, summary_of, told_in_form}
use Rattle.laws_lines.specs.Streams.{AreStatedAs, AreTold, event_told_in_form, messages_told_in_form, outputs_message, planned_told, stream_told_in_form}
use Rattle.laws_begun.specs.Telling.{line_of, stated_of}
use Rattle.laws_lines.proofs.Ends.{form_summary, form_version}
use Rattle.laws_lines.proofs.Instants.{second_of_precise_text}
use Rattle.laws_lines.proofs.LinesInForm.{form_hook, form_note_says, stray_note_says}
use Rattle.laws_lines.proofs.OutputLines.{outputs_says}
use Rattle.laws_lines.proofs.PlannedLines.{planned_says, word_utf8}
use Rattle.laws_lines.proofs.Says.{Says, stated_of as stated_with}
use Rattle.laws_lines.proofs.StatedLines.{all_written, both_stated, latest_within, lines_state, none_stated, one_stated}

-- a line that says an event at the timestamp of the second states it
pub in_second : (line : List ℕ) (seconds : ℕ) (event : Stated) → seconds ≤ last_second → Says line (precise_timestamp_text seconds) event → IsStatedAs line (stated_at seconds event)
in_second line seconds event few is = stated_with line (precise_timestamp_text seconds) seconds event (second_of_precise_text seconds few) is

-- ---- planned changes

one_planned : (start : ℕ) → start ≤ last_second → (change : ResourceChange) → HasChangeTexts change → (located : Option ChangeDetails) → IfSome located HasDetailTexts
    → AreStatedAs (option_map_or (planned_text start change) located [] ∷ []) (option_map_or (λ (d : ChangeDetails). option_map_or (λ word. stated_at start event.Other ∷ []) (planned_word change.steps d.forgets) []) located [])
one_planned start few change has None texts = none_stated
one_planned start few change has (Some details) texts = of_word (planned_word change.steps details.forgets) (word_utf8 change.steps details.forgets)
  where
    of_word : (o : Option (List ℕ)) → IfSome o IsUtf8
        → AreStatedAs (option_map_or (λ word. message_line start (planned_message change word details)) o [] ∷ []) (option_map_or (λ word. stated_at start event.Other ∷ []) o [])
    of_word None h = none_stated
    of_word (Some word) h = one_stated _ _ (in_second _ start event.Other few (planned_says change word details start has texts h))

all_planned : (start : ℕ) → start ≤ last_second → (details : List ChangeDetails) (ps : List (ℕ × ResourceChange)) → AllByRecursion HasDetailTexts details → AllByRecursion (λ (p : ℕ × ResourceChange). HasChangeTexts p.1) ps
    → AreStatedAs (map (planned_at start details) ps) (flat_map (planned_told start details) ps)
all_planned start few details [] texts has = refl
all_planned start few details (p ∷ ps) texts has =
    both_stated (planned_at start details p ∷ []) (map (planned_at start details) ps) (planned_told start details p) (flat_map (planned_told start details) ps)
    (one_planned start few p.1 has.0 (slice_get details p.0) (held_at HasDetailTexts details p.0 texts)) (all_planned start few details ps texts has.1)

-- ---- one event

nothing_verbatim : HasVerbatimTexts no_diag
nothing_verbatim = (None, None, record { range_is = tt; snippet_is = tt })

verbatim_of_event : (outcome : Outcome) → HasVerbatimDiagnostics outcome → (what : What) → HasVerbatimTexts (event_diagnostic outcome what)
verbatim_of_event outcome has Start = nothing_verbatim
verbatim_of_event outcome has (Progress s) = nothing_verbatim
verbatim_of_event outcome has (Complete s) = nothing_verbatim
verbatim_of_event outcome has (Errored s) = nothing_verbatim
verbatim_of_event outcome has ErrorNote = has.failure
verbatim_of_event outcome has WarnNote = has.warning
verbatim_of_event outcome has (Halted phase hook) = nothing_verbatim
verbatim_of_event outcome has (ProvisionStart i) = nothing_verbatim
verbatim_of_event outcome has (ProvisionOutput i line) = nothing_verbatim
verbatim_of_event outcome has (ProvisionComplete i) = nothing_verbatim
verbatim_of_event outcome has (ProvisionErrored i) = nothing_verbatim

module _ (plan : SavedPlan) (script : OutcomeMap) (extras : StreamExtras) (has : HasFormTexts plan script extras) where
  planned_utf8 : (c : ℕ) → IfSome (planned_id_of extras.details c) IsUtf8
  planned_utf8 c = gone_on HasDetailTexts IsUtf8 (λ (d : ChangeDetails). d.planned_id) (slice_get extras.details c) (λ d texts. texts.planned_id) (held_at HasDetailTexts extras.details c has.details)

  module _ (start clock : ℕ) (few : start + clock ≤ last_second) (e : Event) (small : IsSmall e.what) where
    abbrev line : List ℕ
    line = event_text plan script start clock (planned_id_of extras.details e.change) e

    abbrev messages : List StatedMessage
    messages = messages_told_in_form plan script extras.details start clock e

    module _ (change : ResourceChange) (kind : StepKind) (is : slice_get plan.changes e.change ≡ Some change) (at : slice_get change.steps e.step ≡ Some kind) where
      text_is : is_silent kind e.what ≡ false → line ≡ event_line (start + clock) change kind (outcome_of script e.change e.step) (planned_id_of extras.details e.change) e.what
      text_is loud = rw (is, at, loud) refl

      stated_is : stated_of (told_in_form plan script extras.details) e ≡ line_of (told_in_form plan script extras.details) change kind e.change e.step e.what
      stated_is = rw (is, at) refl

      id_is : end_id kind (outcome_of script e.change e.step).result (planned_id_of extras.details e.change) ≡ (told_in_form plan script extras.details).id e.change e.step
      id_is = rw (is, at) refl

      -- a hook message
      pub hook_stated : is_silent kind e.what ≡ false → is_note e.what ≡ false → IsNamed (outcome_of script e.change e.step) e.what
          → IsStatedAs line (stated_at (start + clock) (stated_of (told_in_form plan script extras.details) e))
      hook_stated loud hook named =
          subst (λ (event : Stated). IsStatedAs line (stated_at (start + clock) event)) (sym stated_is)
          (subst (λ (text : List ℕ). IsStatedAs text (stated_at (start + clock) (line_of (told_in_form plan script extras.details) change kind e.change e.step e.what))) (sym (text_is loud))
          (in_second _ (start + clock) _ few
          (form_hook change kind (planned_id_of extras.details e.change) (start + clock) (has.texts.changes e.change change is) (told_in_form plan script extras.details) e.change e.step e.what hook named id_is
          (has.texts.outcomes e.change e.step) small (planned_utf8 e.change))))

      -- a diagnostic
      pub note_stated : is_silent kind e.what ≡ false → is_note e.what ≡ true → IsStatedAs line (stated_at (start + clock) (event.Diagnostic (step_note_in_form change kind (outcome_of script e.change e.step) e.what)))
      note_stated loud note =
          let raw = verbatim_of_event (outcome_of script e.change e.step) (has.raw_texts e.change e.step) e.what in
          subst (λ (text : List ℕ). IsStatedAs text (stated_at (start + clock) (event.Diagnostic (step_note_in_form change kind (outcome_of script e.change e.step) e.what)))) (sym (text_is loud))
          (in_second _ (start + clock) _ few
          (form_note_says change kind (outcome_of script e.change e.step) (planned_id_of extras.details e.change) (start + clock) (has.texts.changes e.change change is) (has.texts.outcomes e.change e.step) e.what note small raw.0 raw.1 raw.2))

      of_note : is_silent kind e.what ≡ false → IsNamed (outcome_of script e.change e.step) e.what → (b : Bool) → is_note e.what ≡ b
          → IsStatedAs line (stated_at (start + clock) (cond b (event.Diagnostic (step_note_in_form change kind (outcome_of script e.change e.step) e.what)) (stated_of (told_in_form plan script extras.details) e)))
      of_note loud named true note = note_stated loud note
      of_note loud named false hook = hook_stated loud hook named

    unplanned : line ≡ [] → messages ≡ [] → AreStatedAs (line ∷ []) messages
    unplanned no_line no_message = subst (λ (text : List ℕ). AreStatedAs (text ∷ []) messages) (sym no_line) (subst (AreStatedAs ([] ∷ [])) (sym no_message) none_stated)

    pub one_told : IsNamed (outcome_of script e.change e.step) e.what → AreStatedAs (line ∷ []) messages
    one_told named = of_change (slice_get plan.changes e.change) refl
      where
        of_silent : (change : ResourceChange) (kind : StepKind) → slice_get plan.changes e.change ≡ Some change → slice_get change.steps e.step ≡ Some kind → (b : Bool) → is_silent kind e.what ≡ b → AreStatedAs (line ∷ []) messages
        of_silent change kind is at true silent = unplanned (rw (is, at, silent) refl) (rw (is, at, silent) refl)
        of_silent change kind is at false loud =
            let messages_are : messages ≡ stated_at (start + clock) (event_told_in_form plan script extras.details change kind e) ∷ [] = rw (is, at, loud) refl in
            subst (AreStatedAs (line ∷ [])) (sym messages_are) (one_stated _ _ (of_note change kind is at loud named (is_note e.what) refl))

        of_step : (change : ResourceChange) → slice_get plan.changes e.change ≡ Some change → (o : Option StepKind) → slice_get change.steps e.step ≡ o → AreStatedAs (line ∷ []) messages
        of_step change is None at = unplanned (rw (is, at) refl) (rw (is, at) refl)
        of_step change is (Some kind) at = of_silent change kind is at (is_silent kind e.what) refl

        of_change : (o : Option ResourceChange) → slice_get plan.changes e.change ≡ o → AreStatedAs (line ∷ []) messages
        of_change None is = unplanned (rw is refl) (rw is refl)
        of_change (Some change) is = of_step change is (slice_get change.steps e.step) refl

-- ---- all of them

by_number : {X : Type 0} (P : X → Type 0) (xs : List X) → ((n : ℕ) (x : X) → slice_get xs n ≡ Some x → P x) → AllByRecursion P xs
by_number P [] holds = tt
by_number P (x ∷ xs) holds = (holds zero x refl, by_number P xs (λ n y is. holds (suc n) y is))

module _ (plan : SavedPlan) (script : OutcomeMap) (extras : StreamExtras) (has : HasFormTexts plan script extras) (start : ℕ) (operation : Operation) where
  abbrev line_of_event : ℕ → Event → List ℕ
  line_of_event latest e = (terraform_form plan script extras start operation).line latest e

  events_told : (latest : ℕ → ℕ) → ((i : ℕ) → start + latest i ≤ last_second) → (n : ℕ) (es : List Event)
      → AllByRecursion (λ (e : Event). IsSmall e.what) es → AllByRecursion (λ (e : Event). IsNamed (outcome_of script e.change e.step) e.what) es
      → AreStatedAs (map (λ p. line_of_event (latest (p.0 + 1)) p.1) (enumerate_from n es)) (flat_map (λ p. messages_told_in_form plan script extras.details start (latest (p.0 + 1)) p.1) (enumerate_from n es))
  events_told latest few n [] small named = refl
  events_told latest few n (e ∷ es) small named =
      both_stated (line_of_event (latest (n + 1)) e ∷ []) (map (λ p. line_of_event (latest (p.0 + 1)) p.1) (enumerate_from (n + 1) es))
      (messages_told_in_form plan script extras.details start (latest (n + 1)) e) (flat_map (λ p. messages_told_in_form plan script extras.details start (latest (p.0 + 1)) p.1) (enumerate_from (n + 1) es))
      (one_told plan script extras has start (latest (n + 1)) (few (n + 1)) e small.0 named.0) (events_told latest few (n + 1) es small.1 named.1)

  notes_told : (latest : ℕ) → start + latest ≤ last_second → (notes : List Note) → AllByRecursion HasNoteTexts notes
      → AreStatedAs (map (note_text start latest) notes) (map (λ note. stated_at (start + latest) (event.Diagnostic (note_in_form note))) notes)
  notes_told latest few [] texts = refl
  notes_told latest few (note ∷ notes) texts =
      both_stated (note_text start latest note ∷ []) (map (note_text start latest) notes) (stated_at (start + latest) (event.Diagnostic (note_in_form note)) ∷ []) (map (λ note. stated_at (start + latest) (event.Diagnostic (note_in_form note))) notes)
      (one_stated _ _ (in_second _ (start + latest) _ few (stray_note_says start latest note texts.0))) (notes_told latest few notes texts.1)

  abbrev outputs_lines : Operation → (latest : ℕ) → List (List ℕ)
  outputs_lines Apply latest = outputs_text start latest extras.outputs ∷ []
  outputs_lines Destroy latest = []

  outputs_are : (o : Operation) (latest : ℕ) → start + latest ≤ last_second → AreStatedAs (outputs_lines o latest) (outputs_message o (start + latest) extras.outputs)
  outputs_are Apply latest few = one_stated _ _ (in_second _ (start + latest) _ few (outputs_says start latest extras.outputs has.outputs))
  outputs_are Destroy latest few = refl

  outputs_joined : (o : Operation) (latest : ℕ) → outputs_of_apply o start latest extras.outputs ≡ concat (outputs_lines o latest)
  outputs_joined Apply latest = sym (append-nil (outputs_text start latest extras.outputs))
  outputs_joined Destroy latest = refl

  -- the summary and the outputs, or neither
  abbrev end_lines : (none : Bool) → (latest : ℕ) → Counts → List (List ℕ)
  end_lines none latest counts = cond none [] (summary_text start latest operation counts (imported_in extras.details) ∷ outputs_lines operation latest)

  end_are : (none : Bool) (latest : ℕ) (counts : Counts) → start + latest ≤ last_second → AreSmall counts
      → AreStatedAs (end_lines none latest counts) (cond none [] (stated_at (start + latest) (event.Summary (summary_of operation)) ∷ outputs_message operation (start + latest) extras.outputs))
  end_are true latest counts few small = refl
  end_are false latest counts few small =
      both_stated (summary_text start latest operation counts (imported_in extras.details) ∷ []) (outputs_lines operation latest)
      (stated_at (start + latest) (event.Summary (summary_of operation)) ∷ []) (outputs_message operation (start + latest) extras.outputs)
      (one_stated _ _ (in_second _ (start + latest) _ few (form_summary start latest operation counts (imported_in extras.details) small has.few_imports))) (outputs_are operation latest few)

  end_joined : (none : Bool) (latest : ℕ) (counts : Counts)
      → cond none [] (summary_text start latest operation counts (imported_in extras.details) ++ outputs_of_apply operation start latest extras.outputs) ≡ concat (end_lines none latest counts)
  end_joined true latest counts = refl
  end_joined false latest counts = ap (λ (l : List ℕ). summary_text start latest operation counts (imported_in extras.details) ++ l) (outputs_joined operation latest)

  pub stream_stated : (taken : List Event) → FitBits plan taken → AreTold script start taken
      → map (stated_line false) (cut_lines (stream_in (terraform_form plan script extras start operation) taken)) ≡ map Message (stream_told_in_form plan script extras start operation taken)
  stream_stated taken fits told =
      let written = as_written taken in
      let latest = latest_of written (length written) in
      let counts = totals_of plan taken in
      let none = contains_error extras.notes counts in
      let within = all_written (λ (e : Event). start + e.at ≤ last_second) taken told.in_time in
      let few : (i : ℕ) → start + latest_of written i ≤ last_second = λ i. latest_within start written i told.starts within in
      let small = all_written (λ (e : Event). IsSmall e.what) taken fits.each in
      let named = all_written (λ (e : Event). IsNamed (outcome_of script e.change e.step) e.what) taken told.named in
      let head = terraform_head_chunks plan extras.details start in
      let line : ℕ × Event → List ℕ = λ p. line_of_event (latest_of written (p.0 + 1)) p.1 in
      let events = map line (enumerate_from 0 written) in
      let notes = map (note_text start latest) extras.notes in
      let ends = end_lines none latest counts in
      let flattened : stream_in (terraform_form plan script extras start operation) taken ≡ concat (head ++ (events ++ (notes ++ ends))) =
      append_assoc (concat head) (flat_map line (enumerate_from 0 written)) (flat_map (note_text start latest) extras.notes ++ cond none [] (summary_text start latest operation counts (imported_in extras.details) ++ outputs_of_apply operation start latest extras.outputs))
      ∙ ap (λ (l : List ℕ). concat head ++ l)
      (ap₂ (λ (a b : List ℕ). a ++ b) (sym (joined line (enumerate_from 0 written)))
      (ap₂ (λ (a b : List ℕ). a ++ b) (sym (joined (note_text start latest) extras.notes)) (end_joined none latest counts) ∙ sym (concat-append notes ends))
      ∙ sym (concat-append events (notes ++ ends)))
      ∙ sym (concat-append head (events ++ (notes ++ ends))) in
      let changes = numbered HasChangeTexts 0 plan.changes (by_number HasChangeTexts plan.changes has.texts.changes) in
      ap (λ (bytes : List ℕ). map (stated_line false) (cut_lines bytes)) flattened
      ∙ lines_state (head ++ (events ++ (notes ++ ends))) (stream_told_in_form plan script extras start operation taken)
      (both_stated (version_text plan start ∷ []) (map (planned_at start extras.details) (enumerate_from 0 plan.changes) ++ (events ++ (notes ++ ends))) (stated_at start (event.Version (Some (codes "1.2"))) ∷ []) _
      (one_stated _ _ (in_second (version_text plan start) start _ told.starts (form_version plan start has.texts.version)))
      (both_stated (map (planned_at start extras.details) (enumerate_from 0 plan.changes)) (events ++ (notes ++ ends)) _ _ (all_planned start told.starts extras.details (enumerate_from 0 plan.changes) has.details changes)
      (both_stated events (notes ++ ends) _ _ (events_told (latest_of written) few 0 written small named)
      (both_stated notes ends _ _ (notes_told latest (few (length written)) extras.notes has.notes) (end_are none latest counts (few (length written)) fits.totals)))))
