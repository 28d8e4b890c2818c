-- What the lines of a stream state in the default form.
use Rattle.std.proofs.Common.{◌≡◌, ℕ, ◌+◌, ◌≤◌, List, [], ◌∷◌, ◌++◌, append-nil, append_assoc, codes, cond, flat_map, length, map, Bool, true, false, Option, Some, None, refl, sym, ap, ap₂, ◌∙◌, subst, slice_get}
use Rattle.std.specs.List.{AllByRecursion, concat, enumerate_from}
use Rattle.std.proofs.lemmas.List.Folds.{concat-append}
use Rattle.stream_lines.specs.Cut.{cut_lines}
use Rattle.apply_model.specs.declared.plan.step_kind.StepKind.{StepKind}
use Rattle.apply_model.specs.Plan.ResourceChange.{ResourceChange}
use Rattle.apply_model.specs.Plan.SavedPlan.{SavedPlan}
use Rattle.apply_model.specs.Script.OutcomeMap.{OutcomeMap, outcome_of}
use Rattle.apply_events.specs.declared.event.Event.{Event}
use Rattle.apply_events.specs.Diagnostics.{is_note}
use Rattle.apply_events.specs.Totals.{totals_of}
use Rattle.apply_text.specs.declared.operation.Operation.{Operation}
use Rattle.apply_text.specs.Latest.{latest_of}
use Rattle.apply_text.specs.Lines.{event_text, message_line, stream_of, summary_text, version_text}
use Rattle.apply_text.specs.Message.{end_id, event_message}
use Rattle.apply_text.specs.Order.{as_written}
use Rattle.apply_text.specs.Start.{last_second}
use Rattle.apply_text.specs.UtcTimestamp.{timestamp_text}
use Rattle.stream_record_lines.specs.declared.event.Event.{Event as Stated}
use Rattle.stream_record_lines.specs.declared.event.Event.TheVariants as event
use Rattle.stream_record_lines.specs.declared.stated_line.StatedLine.TheVariants.{Message}
use Rattle.stream_record_lines.specs.Lines.{stated_line}
use Rattle.laws_check.specs.Texts.{FitBits, HasTexts, IsSmall}
use Rattle.laws_check.proofs.ErrorLevels.{joined}
use Rattle.laws_lines.specs.Notes.{plain_note}
use Rattle.laws_lines.specs.Stated.{IsNamed, IsStatedAs, stated_at, told_by}
use Rattle.laws_lines.specs.Streams.{AreStatedAs, AreTold, event_told, messages_told, stream_told}
use Rattle.laws_begun.specs.Telling.{line_of, stated_of}
use Rattle.laws_lines.proofs.Ends.{plain_summary, plain_version}
use Rattle.laws_lines.proofs.Instants.{second_of_text}
use Rattle.laws_lines.proofs.PlainLines.{plain_hook, plain_note_says}
use Rattle.laws_lines.proofs.Says.{Says, stated_of as stated_with}
use Rattle.laws_lines.proofs.StatedLines.{all_written, both_stated, latest_within, lines_state, none_stated, one_stated}

-- a line that says an event at the timestamp of the second states it
pub in_second : (line : List ℕ) (seconds : ℕ) (event : Stated) → seconds ≤ last_second → Says line (timestamp_text seconds) event → IsStatedAs line (stated_at seconds event)
in_second line seconds event few is = stated_with line (timestamp_text seconds) seconds event (second_of_text seconds few) is

-- ---- one event

module _ (plan : SavedPlan) (script : OutcomeMap) (has : HasTexts plan script) (start clock : ℕ) (few : start + clock ≤ last_second) (e : Event) (small : IsSmall e.what) where
  module _ (change : ResourceChange) (kind : StepKind) (is : slice_get plan.changes e.change ≡ Some change) (at : slice_get change.steps e.step ≡ Some kind) where
    text_is : event_text plan script start clock e ≡ message_line (start + clock) (event_message change kind (outcome_of script e.change e.step) e.what)
    text_is = rw (is, at) refl

    stated_is : stated_of (told_by plan script) e ≡ line_of (told_by plan script) change kind e.change e.step e.what
    stated_is = rw (is, at) refl

    id_is : end_id kind (outcome_of script e.change e.step).result ≡ (told_by plan script).id e.change e.step
    id_is = rw (is, at) refl

    -- a hook message
    pub hook_stated : is_note e.what ≡ false → IsNamed (outcome_of script e.change e.step) e.what → IsStatedAs (event_text plan script start clock e) (stated_at (start + clock) (stated_of (told_by plan script) e))
    hook_stated hook named =
        subst (λ (event : Stated). IsStatedAs (event_text plan script start clock e) (stated_at (start + clock) event)) (sym stated_is)
        (subst (λ (line : List ℕ). IsStatedAs line (stated_at (start + clock) (line_of (told_by plan script) change kind e.change e.step e.what))) (sym text_is)
        (in_second _ (start + clock) _ few
        (plain_hook change kind (start + clock) (has.changes e.change change is) (told_by plan script) e.change e.step e.what hook named id_is (has.outcomes e.change e.step) small)))

    -- a diagnostic
    pub note_stated : is_note e.what ≡ true → IsStatedAs (event_text plan script start clock e) (stated_at (start + clock) (event.Diagnostic (plain_note change kind (outcome_of script e.change e.step) e.what)))
    note_stated note =
        subst (λ (line : List ℕ). IsStatedAs line (stated_at (start + clock) (event.Diagnostic (plain_note change kind (outcome_of script e.change e.step) e.what)))) (sym text_is)
        (in_second _ (start + clock) _ few
        (plain_note_says change kind (start + clock) (has.changes e.change change is) (outcome_of script e.change e.step) (has.outcomes e.change e.step) e.what note small))

    of_note : IsNamed (outcome_of script e.change e.step) e.what → (b : Bool) → is_note e.what ≡ b
        → IsStatedAs (event_text plan script start clock e) (stated_at (start + clock) (cond b (event.Diagnostic (plain_note change kind (outcome_of script e.change e.step) e.what)) (stated_of (told_by plan script) e)))
    of_note named true note = note_stated note
    of_note named false hook = hook_stated hook named

    messages_are : messages_told plan script start clock e ≡ stated_at (start + clock) (event_told plan script change kind e) ∷ []
    messages_are = rw (is, at) refl

    event_stated : IsNamed (outcome_of script e.change e.step) e.what → AreStatedAs (event_text plan script start clock e ∷ []) (messages_told plan script start clock e)
    event_stated named = subst (AreStatedAs (event_text plan script start clock e ∷ [])) (sym messages_are) (one_stated _ _ (of_note named (is_note e.what) refl))

  -- the plan has no such step
  unplanned : event_text plan script start clock e ≡ [] → messages_told plan script start clock e ≡ [] → AreStatedAs (event_text plan script start clock e ∷ []) (messages_told plan script start clock e)
  unplanned no_line no_message =
      subst (λ (line : List ℕ). AreStatedAs (line ∷ []) (messages_told plan script start clock e)) (sym no_line) (subst (AreStatedAs ([] ∷ [])) (sym no_message) none_stated)

  pub one_told : IsNamed (outcome_of script e.change e.step) e.what → AreStatedAs (event_text plan script start clock e ∷ []) (messages_told plan script start clock e)
  one_told named = of_change (slice_get plan.changes e.change) refl
    where
      of_step : (change : ResourceChange) → slice_get plan.changes e.change ≡ Some change → (o : Option StepKind) → slice_get change.steps e.step ≡ o → AreStatedAs (event_text plan script start clock e ∷ []) (messages_told plan script start clock e)
      of_step change is None at = unplanned (rw (is, at) refl) (rw (is, at) refl)
      of_step change is (Some kind) at = event_stated change kind is at named

      of_change : (o : Option ResourceChange) → slice_get plan.changes e.change ≡ o → AreStatedAs (event_text plan script start clock e ∷ []) (messages_told plan script start clock e)
      of_change None is = unplanned (rw is refl) (rw is refl)
      of_change (Some change) is = of_step change is (slice_get change.steps e.step) refl

-- ---- all of them

module _ (plan : SavedPlan) (script : OutcomeMap) (has : HasTexts plan script) (start : ℕ) (latest : ℕ → ℕ) (few : (i : ℕ) → start + latest i ≤ last_second) where
  events_told : (n : ℕ) (es : List Event) → AllByRecursion (λ (e : Event). IsSmall e.what) es → AllByRecursion (λ (e : Event). IsNamed (outcome_of script e.change e.step) e.what) es
      → AreStatedAs (map (λ p. event_text plan script start (latest (p.0 + 1)) p.1) (enumerate_from n es)) (flat_map (λ p. messages_told plan script start (latest (p.0 + 1)) p.1) (enumerate_from n es))
  events_told n [] small named = refl
  events_told n (e ∷ es) small named =
      both_stated (event_text plan script start (latest (n + 1)) e ∷ []) (map (λ p. event_text plan script start (latest (p.0 + 1)) p.1) (enumerate_from (n + 1) es))
      (messages_told plan script start (latest (n + 1)) e) (flat_map (λ p. messages_told plan script start (latest (p.0 + 1)) p.1) (enumerate_from (n + 1) es))
      (one_told plan script has start (latest (n + 1)) (few (n + 1)) e small.0 named.0) (events_told (n + 1) es small.1 named.1)

-- the lines of the stream
abbrev stream_lines : SavedPlan → OutcomeMap → (start : ℕ) → Operation → (taken : List Event) → List (List ℕ)
stream_lines plan script start operation taken =
    version_text plan start
    ∷ (map (λ p. event_text plan script start (latest_of (as_written taken) (p.0 + 1)) p.1) (enumerate_from 0 (as_written taken))
    ++ summary_text start (latest_of (as_written taken) (length (as_written taken))) operation (totals_of plan taken) ∷ [])

stream_joined : (plan : SavedPlan) (script : OutcomeMap) (start : ℕ) (operation : Operation) (taken : List Event) → stream_of plan script start operation taken ≡ concat (stream_lines plan script start operation taken)
stream_joined plan script start operation taken =
    let line : ℕ × Event → List ℕ = λ p. event_text plan script start (latest_of (as_written taken) (p.0 + 1)) p.1 in
    let events = enumerate_from 0 (as_written taken) in
    let last = summary_text start (latest_of (as_written taken) (length (as_written taken))) operation (totals_of plan taken) in
    append_assoc (version_text plan start) (flat_map line events) last
    ∙ ap (λ (l : List ℕ). version_text plan start ++ l)
    (ap₂ (λ (a b : List ℕ). a ++ b) (sym (joined line events)) (sym (append-nil last)) ∙ sym (concat-append (map line events) (last ∷ [])))

pub stream_stated : (plan : SavedPlan) (script : OutcomeMap) (start : ℕ) (operation : Operation) (taken : List Event) → HasTexts plan script → FitBits plan taken → AreTold script start taken
    → map (stated_line false) (cut_lines (stream_of plan script start operation taken)) ≡ map Message (stream_told plan script start operation taken)
stream_stated plan script start operation taken has fits told =
    let written = as_written taken in
    let within = all_written (λ (e : Event). start + e.at ≤ last_second) taken told.in_time in
    let few : (i : ℕ) → start + latest_of written i ≤ last_second = λ i. latest_within start written i told.starts within in
    let small = all_written (λ (e : Event). IsSmall e.what) taken fits.each in
    let named = all_written (λ (e : Event). IsNamed (outcome_of script e.change e.step) e.what) taken told.named in
    ap (λ (bytes : List ℕ). map (stated_line false) (cut_lines bytes)) (stream_joined plan script start operation taken)
    ∙ lines_state (stream_lines plan script start operation taken) (stream_told plan script start operation taken)
    (both_stated (version_text plan start ∷ []) _ (stated_at start (event.Version (Some (codes "1.0"))) ∷ []) _
    (one_stated _ _ (in_second (version_text plan start) start _ told.starts (plain_version plan start has.version)))
    (both_stated _ _ _ _ (events_told plan script has start (latest_of written) few 0 written small named)
    (one_stated _ _ (in_second _ (start + latest_of written (length written)) _ (few (length written)) (plain_summary start (latest_of written (length written)) operation (totals_of plan taken) fits.totals)))))
