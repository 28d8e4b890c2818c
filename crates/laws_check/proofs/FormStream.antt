-- A stream in Terraform's form is lines, and each line is read back as its message.
use Rattle.std.proofs.Common.{◌≡◌, ℕ, zero, suc, ◌+◌, inl, inr, List, [], ◌∷◌, ◌++◌, append-nil, append_assoc, cond, flat_map, length, map, IsUtf8, Bool, true, false, not, Option, Some, None, refl, sym, ap, ap₂, ◌∙◌, slice_get}
use Rattle.std.specs.Prelude.{IfSome}
use Rattle.std.specs.List.{AllByRecursion, concat, enumerate_from}
use Rattle.std.specs.Option.{option_map_or}
use Rattle.std.proofs.lemmas.List.Folds.{concat-append}
use Rattle.apply_model.specs.declared.details.change_details.ChangeDetails.{ChangeDetails}
use Rattle.apply_model.specs.declared.details.note.Note.{Note}
use Rattle.apply_model.specs.declared.plan.step_kind.StepKind.{StepKind}
use Rattle.apply_model.specs.declared.script.outcome.Outcome.{Outcome}
use Rattle.apply_model.specs.Plan.ResourceChange.{ResourceChange}
use Rattle.apply_model.specs.Plan.SavedPlan.{SavedPlan}
use Rattle.apply_model.specs.Script.OutcomeMap.{OutcomeMap, outcome_of}
use Rattle.stream_check.specs.Message.{Message, summary, version}
use Rattle.apply_events.specs.declared.counts.Counts.{Counts}
use Rattle.apply_events.specs.declared.event.Event.{Event}
use Rattle.apply_events.specs.declared.what.What.{What}
use Rattle.apply_events.specs.declared.what.What.TheVariants.{Start, Progress, Complete, Errored, ErrorNote, WarnNote, Halted, ProvisionStart, ProvisionOutput, ProvisionComplete, ProvisionErrored}
use Rattle.apply_events.specs.Diagnostics.{is_note}
use Rattle.apply_events.specs.Totals.{totals_of}
use Rattle.apply_text.specs.declared.operation.Operation.{Operation}
use Rattle.apply_text.specs.declared.operation.Operation.TheVariants.{Apply, Destroy}
use Rattle.apply_text.specs.Latest.{latest_of}
use Rattle.apply_text.specs.Message.{no_diag}
use Rattle.apply_text.specs.Order.{as_written, hook_messages_of, notes_of}
use Rattle.apply_text_terraform.specs.Lines.{event_line, note_text, outputs_text, planned_text, summary_text}
use Rattle.apply_text_terraform.specs.Message.{is_silent}
use Rattle.apply_text_terraform.specs.UtcTimestamp.{precise_timestamp_text}
use Rattle.apply_writer.specs.Stream.Form.{stream_in}
use Rattle.apply_writer.specs.Stream.Terraform.{StreamExtras, terraform_head_chunks, imported_in, outputs_of_apply, planned_at, planned_id_of, contains_error, terraform_form}
use Rattle.laws_check.specs.Accepted.{totals_of_counts}
use Rattle.laws_check.specs.Forms.{event_diagnostic}
use Rattle.laws_check.specs.FormTexts.{HasFormTexts, HasVerbatimTexts, HasVerbatimDiagnostics, StreamIsReadBackAs}
use Rattle.laws_check.specs.Texts.{AreSmall, FitBits, HasChangeTexts, IsSmall}
use Rattle.laws_check.specs.ReadBackInForm.{AreReadBackAs, HasDetailTexts, HasNoteTexts, IsReadBackAs, stream_read_back_in_form, read_back_in_form, outputs_read_back, planned_read_back, planned_read_back_at, end_read_back, event_read_back_in_form, diagnostic_read_back}
use Rattle.laws_check.proofs.FormEnds.{diagnostic_line_read_back, summary_line_read_back, version_line_read_back}
use Rattle.laws_check.proofs.FormReadBack.{event_is_read_back, says}
use Rattle.laws_check.proofs.FormLines.{event_read}
use Rattle.laws_check.proofs.FormOutputs.{outputs_line_read_back}
use Rattle.laws_check.proofs.FormPlanned.{planned_line_read_back}
use Rattle.laws_check.proofs.Given.{gone_on, held_at, numbered}
use Rattle.laws_check.proofs.LinesAccepted.{all_read_back_both}
use Rattle.laws_check.proofs.ErrorLevels.{joined as flattened}
use Rattle.laws_check.proofs.SoundObjects.{all_both, all_filtered}

one_read_back : (line : List ℕ) (message : Message) → IsReadBackAs line message → AreReadBackAs (line ∷ []) (message ∷ [])
one_read_back line message says = inr (message, [], refl, says, refl)

none_read_back : AreReadBackAs ([] ∷ []) []
none_read_back = inl (refl, refl)

-- ---- planned changes

-- what holds of each element by its number holds of all
pub by_number : {X : Type 0} (P : X → Type 0) (xs : List X) → ((n : ℕ) (x : X) → slice_get xs n ≡ Some x → P x) → AllByRecursion P xs
by_number P [] holds = tt
by_number P (x ∷ xs) holds = (holds zero x refl, by_number P xs (λ n y is. holds (suc n) y is))

one_planned : (start : ℕ) (change : ResourceChange) → HasChangeTexts change → (located : Option ChangeDetails) → IfSome located HasDetailTexts
    → AreReadBackAs (option_map_or (planned_text start change) located [] ∷ []) (option_map_or (planned_read_back change) located [])
one_planned start change has None texts = none_read_back
one_planned start change has (Some details) texts = planned_line_read_back change details start has texts

all_planned : (start : ℕ) (details : List ChangeDetails) (ps : List (ℕ × ResourceChange)) → AllByRecursion HasDetailTexts details → AllByRecursion (λ (p : ℕ × ResourceChange). HasChangeTexts p.1) ps
    → AreReadBackAs (map (planned_at start details) ps) (flat_map (planned_read_back_at details) ps)
all_planned start details [] texts has = refl
all_planned start details (p ∷ ps) texts has =
    all_read_back_both (planned_at start details p ∷ []) (map (planned_at start details) ps) (planned_read_back_at details p) (flat_map (planned_read_back_at details) ps)
    (one_planned start p.1 has.0 (slice_get details p.0) (held_at HasDetailTexts details p.0 texts)) (all_planned start details ps texts has.1)

-- ---- events

nothing_kept : HasVerbatimTexts no_diag
nothing_kept = (None, None, record { range_is = tt; snippet_is = tt })

verbatim_of_event : (outcome : Outcome) → HasVerbatimDiagnostics outcome → (what : What) → HasVerbatimTexts (event_diagnostic outcome what)
verbatim_of_event outcome has Start = nothing_kept
verbatim_of_event outcome has (Progress s) = nothing_kept
verbatim_of_event outcome has (Complete s) = nothing_kept
verbatim_of_event outcome has (Errored s) = nothing_kept
verbatim_of_event outcome has ErrorNote = has.failure
verbatim_of_event outcome has WarnNote = has.warning
verbatim_of_event outcome has (Halted phase hook) = nothing_kept
verbatim_of_event outcome has (ProvisionStart i) = nothing_kept
verbatim_of_event outcome has (ProvisionOutput i line) = nothing_kept
verbatim_of_event outcome has (ProvisionComplete i) = nothing_kept
verbatim_of_event outcome has (ProvisionErrored i) = nothing_kept

module _ (plan : SavedPlan) (script : OutcomeMap) (extras : StreamExtras) (start : ℕ) (operation : Operation) (has : HasFormTexts plan script extras) where
  planned_utf8 : (c : ℕ) → IfSome (planned_id_of extras.details c) IsUtf8
  planned_utf8 c = gone_on HasDetailTexts IsUtf8 (λ (d : ChangeDetails). d.planned_id) (slice_get extras.details c) (λ d texts. texts.planned_id) (held_at HasDetailTexts extras.details c has.details)

  one_event : (seconds : ℕ) (e : Event) → IsSmall e.what
      → AreReadBackAs (option_map_or (λ (change : ResourceChange). option_map_or (λ step. cond (is_silent step e.what) [] (event_line seconds change step (outcome_of script e.change e.step) (planned_id_of extras.details e.change) e.what)) (slice_get change.steps e.step) []) (slice_get plan.changes e.change) [] ∷ [])
      (event_read_back_in_form plan script e)
  one_event seconds e small = of_change (slice_get plan.changes e.change) refl
    where
      line_reads : (change : ResourceChange) (step : StepKind) → HasChangeTexts change
          → IsReadBackAs (event_line seconds change step (outcome_of script e.change e.step) (planned_id_of extras.details e.change) e.what) (read_back_in_form change step (outcome_of script e.change e.step) e.what)
      line_reads change step texts =
          let stated = outcome_of script e.change e.step in
          let id = planned_id_of extras.details e.change in
          let raw_texts = verbatim_of_event stated (has.raw_texts e.change e.step) e.what in
          says (event_line seconds change step stated id e.what) _ (read_back_in_form change step stated e.what)
          (event_read change step stated id raw_texts.0 raw_texts.1 e.what seconds texts (has.texts.outcomes e.change e.step) small (planned_utf8 e.change) raw_texts.2)
          (event_is_read_back false change step stated id raw_texts.0 raw_texts.1 e.what (precise_timestamp_text seconds))

      of_test : (change : ResourceChange) (step : StepKind) → HasChangeTexts change → (silent : Bool)
          → AreReadBackAs (cond silent [] (event_line seconds change step (outcome_of script e.change e.step) (planned_id_of extras.details e.change) e.what) ∷ []) (cond silent [] (read_back_in_form change step (outcome_of script e.change e.step) e.what ∷ []))
      of_test change step texts true = none_read_back
      of_test change step texts false = one_read_back _ _ (line_reads change step texts)

      of_step : (change : ResourceChange) → HasChangeTexts change → (step : Option StepKind)
          → AreReadBackAs (option_map_or (λ step. cond (is_silent step e.what) [] (event_line seconds change step (outcome_of script e.change e.step) (planned_id_of extras.details e.change) e.what)) step [] ∷ [])
          (option_map_or (λ step. cond (is_silent step e.what) [] (read_back_in_form change step (outcome_of script e.change e.step) e.what ∷ [])) step [])
      of_step change texts None = none_read_back
      of_step change texts (Some step) = of_test change step texts (is_silent step e.what)

      of_change : (located : Option ResourceChange) → slice_get plan.changes e.change ≡ located
          → AreReadBackAs (option_map_or (λ (change : ResourceChange). option_map_or (λ step. cond (is_silent step e.what) [] (event_line seconds change step (outcome_of script e.change e.step) (planned_id_of extras.details e.change) e.what)) (slice_get change.steps e.step) []) located [] ∷ [])
          (option_map_or (λ (change : ResourceChange). option_map_or (λ step. cond (is_silent step e.what) [] (read_back_in_form change step (outcome_of script e.change e.step) e.what ∷ [])) (slice_get change.steps e.step) []) located [])
      of_change None is = none_read_back
      of_change (Some change) is = of_step change (has.texts.changes e.change change is) (slice_get change.steps e.step)

  abbrev pub line_of : ℕ → Event → List ℕ
  line_of latest e = (terraform_form plan script extras start operation).line latest e

  pub all_events : (latest : ℕ → ℕ) (n : ℕ) (es : List Event) → AllByRecursion (λ (e : Event). IsSmall e.what) es
      → AreReadBackAs (map (λ p. line_of (latest (p.0 + 1)) p.1) (enumerate_from n es)) (flat_map (event_read_back_in_form plan script) es)
  all_events latest n [] small = refl
  all_events latest n (e ∷ es) small =
      all_read_back_both (line_of (latest (n + 1)) e ∷ []) (map (λ p. line_of (latest (p.0 + 1)) p.1) (enumerate_from (n + 1) es)) (event_read_back_in_form plan script e) (flat_map (event_read_back_in_form plan script) es)
      (one_event (start + latest (n + 1)) e small.0) (all_events latest (n + 1) es small.1)

  -- ---- the end

  pub all_notes : (latest : ℕ) (notes : List Note) → AllByRecursion HasNoteTexts notes → AreReadBackAs (map (note_text start latest) notes) (map diagnostic_read_back notes)
  all_notes latest [] texts = refl
  all_notes latest (note ∷ notes) texts = inr (diagnostic_read_back note, map diagnostic_read_back notes, refl, diagnostic_line_read_back note start latest texts.0, all_notes latest notes texts.1)

  abbrev pub outputs_lines : Operation → (latest : ℕ) → List (List ℕ)
  outputs_lines Apply latest = outputs_text start latest extras.outputs ∷ []
  outputs_lines Destroy latest = []

  outputs_read_back_so : (o : Operation) (latest : ℕ) → AreReadBackAs (outputs_lines o latest) (outputs_read_back o)
  outputs_read_back_so Apply latest = one_read_back _ _ (outputs_line_read_back extras.outputs start latest has.outputs)
  outputs_read_back_so Destroy latest = refl

  outputs_joined : (o : Operation) (latest : ℕ) → outputs_of_apply o start latest extras.outputs ≡ concat (outputs_lines o latest)
  outputs_joined Apply latest = sym (append-nil (outputs_text start latest extras.outputs))
  outputs_joined Destroy latest = refl

  -- the summary and the outputs, or neither
  abbrev pub end_lines : (none : Bool) → (latest : ℕ) → Counts → List (List ℕ)
  end_lines none latest counts = cond none [] (summary_text start latest operation counts (imported_in extras.details) ∷ outputs_lines operation latest)

  pub end_line_read_back : (none : Bool) (latest : ℕ) (counts : Counts) → AreSmall counts → AreReadBackAs (end_lines none latest counts) (cond none [] (summary (totals_of_counts counts) ∷ outputs_read_back operation))
  end_line_read_back true latest counts small = refl
  end_line_read_back false latest counts small =
      inr (summary (totals_of_counts counts), outputs_read_back operation, refl, summary_line_read_back start latest operation counts (imported_in extras.details) small has.few_imports, outputs_read_back_so operation latest)

  pub end_joined : (none : Bool) (latest : ℕ) (counts : Counts)
      → cond none [] (summary_text start latest operation counts (imported_in extras.details) ++ outputs_of_apply operation start latest extras.outputs) ≡ concat (end_lines none latest counts)
  end_joined true latest counts = refl
  end_joined false latest counts = ap (λ (l : List ℕ). summary_text start latest operation counts (imported_in extras.details) ++ l) (outputs_joined operation latest)

  -- ---- all of it

  pub stream_line_read_back : (taken : List Event) → FitBits plan taken → StreamIsReadBackAs (stream_in (terraform_form plan script extras start operation) taken) (stream_read_back_in_form plan script extras operation taken)
  stream_line_read_back taken fits =
      let written = as_written taken in
      let latest = latest_of written (length written) in
      let counts = totals_of plan taken in
      let none = contains_error extras.notes counts in
      let small : AllByRecursion (λ (e : Event). IsSmall e.what) written =
      all_both (λ (e : Event). IsSmall e.what) (hook_messages_of taken) (notes_of taken) (all_filtered (λ (e : Event). IsSmall e.what) (λ e. not (is_note e.what)) taken fits.each) (all_filtered (λ (e : Event). IsSmall e.what) (λ e. is_note e.what) taken fits.each) in
      let head = terraform_head_chunks plan extras.details start in
      let line : ℕ × Event → List ℕ = λ p. line_of (latest_of written (p.0 + 1)) p.1 in
      let events = map line (enumerate_from 0 written) in
      let notes = map (note_text start latest) extras.notes in
      let ends = end_lines none latest counts in
      let planned = flat_map (planned_read_back_at extras.details) (enumerate_from 0 plan.changes) in
      let happened = flat_map (event_read_back_in_form plan script) written in
      let noted = map diagnostic_read_back extras.notes in
      let summed = end_read_back extras operation counts in
      record {
        lines = head ++ (events ++ (notes ++ ends));
        joined = append_assoc (concat head) (flat_map line (enumerate_from 0 written)) (flat_map (note_text start latest) extras.notes ++ cond none [] (summary_text start latest operation counts (imported_in extras.details) ++ outputs_of_apply operation start latest extras.outputs))
            ∙ ap (λ (l : List ℕ). concat head ++ l)
            (ap₂ (λ (a b : List ℕ). a ++ b) (sym (flattened line (enumerate_from 0 written)))
            (ap₂ (λ (a b : List ℕ). a ++ b) (sym (flattened (note_text start latest) extras.notes)) (end_joined none latest counts) ∙ sym (concat-append notes ends))
            ∙ sym (concat-append events (notes ++ ends)))
            ∙ sym (concat-append head (events ++ (notes ++ ends)));
        say = all_read_back_both head (events ++ (notes ++ ends)) (version ∷ planned) (happened ++ (noted ++ summed))
            (inr (version, planned, refl, version_line_read_back plan start has.texts.version, all_planned start extras.details (enumerate_from 0 plan.changes) has.details (numbered HasChangeTexts 0 plan.changes (by_number HasChangeTexts plan.changes has.texts.changes))))
            (all_read_back_both events (notes ++ ends) happened (noted ++ summed) (all_events (latest_of written) 0 written small)
            (all_read_back_both notes ends noted summed (all_notes latest extras.notes has.notes) (end_line_read_back none latest counts fits.totals)));
      }
