-- How the stream of a run is read in the default form.
use Rattle.std.proofs.Common.{◌≡◌, ℕ, ◌+◌, pos, List, [], ◌∷◌, ◌++◌, codes, flat_map, length, map, Bool, true, false, Option, Some, None, refl, sym, ap, ◌∙◌, subst, arith}
use Rattle.std.specs.List.{AllByRecursion, enumerate_from}
use Rattle.std.proofs.lemmas.Grind.{flat_map-append}
use Rattle.stream_lines.specs.Cut.{cut_lines}
use Rattle.apply_model.specs.declared.details.note.Note.{Note}
use Rattle.apply_model.specs.Plan.SavedPlan.{SavedPlan}
use Rattle.apply_model.specs.Script.OutcomeMap.{OutcomeMap, outcome_of}
use Rattle.apply_events.specs.declared.event.Event as told
use Rattle.apply_events.specs.Diagnostics.{is_note}
use Rattle.apply_text.specs.declared.operation.Operation.{Operation}
use Rattle.apply_text.specs.declared.operation.Operation.TheVariants.{Apply, Destroy}
use Rattle.apply_text.specs.Latest.{latest_of}
use Rattle.apply_text.specs.Lines.{stream_of}
use Rattle.apply_text.specs.Order.{as_written, hook_messages_of, notes_of}
use Rattle.stream_record_lines.specs.declared.event.Event.TheVariants as event
use Rattle.stream_record_lines.specs.declared.outputs.output.Output as recorded
use Rattle.stream_record_lines.specs.declared.stated_line.StatedLine.TheVariants.{Message}
use Rattle.stream_record_lines.specs.declared.stated_message.StatedMessage.{StatedMessage}
use Rattle.stream_record_lines.specs.declared.summary.Summary.{Summary}
use Rattle.stream_record_steps.specs.Begun.{Begun, none_begun}
use Rattle.stream_record_steps.specs.Steps.{planned_steps}
use Rattle.stream_record_stream.specs.Reading.{nothing_known}
use Rattle.stream_record_stream.specs.Streams.{StreamRead, after_message, no_stream}
use Rattle.laws_check.specs.Applied.{HasShortLines}
use Rattle.laws_check.specs.Texts.{FitBits, HasTexts}
use Rattle.laws_check.proofs.SoundObjects.{all_filtered}
use Rattle.laws_lines.specs.Notes.{plain_note}
use Rattle.laws_lines.specs.Reading.{HasRead, IsPlanned, IsReadAs, NeverFalls, note_told}
use Rattle.laws_lines.specs.Stated.{stated_at, summary_of, told_by}
use Rattle.laws_lines.specs.Streams.{AreTold, messages_told}
use Rattle.laws_begun.specs.Telling.{after_events, stated_of}
use Rattle.laws_lines.proofs.Clock.{clock}
use Rattle.laws_lines.proofs.PlainStream.{stream_stated}
use Rattle.laws_lines.proofs.ReadMessages.{NoVersions, after_both, after_first, after_messages, after_none, each_states, of_apply, of_destroy, of_version, version_read}
use Rattle.laws_lines.proofs.ReadEvents.{ended, enumerated, hooks_are, hooks_no_version, hooks_read, none_both, notes_are, notes_no_version, notes_read}

-- ---- one event

module _ (plan : SavedPlan) (script : OutcomeMap) (start : ℕ) where
  hook_is : (latest : ℕ) (e : told.Event) → IsPlanned plan e → is_note e.what ≡ false → messages_told plan script start latest e ≡ stated_at (start + latest) (stated_of (told_by plan script) e) ∷ []
  hook_is latest e planned hook =
      let is = planned.2 in
      let at = planned.3 in
      rw (is, at, hook) refl

  note_is : (latest : ℕ) (e : told.Event) → IsPlanned plan e → is_note e.what ≡ true
      → (note : Note) × (messages_told plan script start latest e ≡ stated_at (start + latest) (event.Diagnostic note) ∷ []) × (note_told plan script e ≡ note ∷ [])
  note_is latest e planned is_a_note =
      let is = planned.2 in
      let at = planned.3 in
      (plain_note planned.0 planned.1 (outcome_of script e.change e.step) e.what, rw (is, at, is_a_note) refl, rw (is, at) refl)

-- ---- the summary

last_read : (plan : SavedPlan) (n second : ℕ) (operation : Operation) (s : StreamRead) (begun : Begun) (notes : List Note) (outputs : List recorded.Output) (summary : Option Summary) (form : Bool) → HasRead s begun notes outputs summary form
    → HasRead (after_message plan n (stated_at second (event.Summary (summary_of operation))) s) begun notes outputs (Some (summary_of operation)) form
last_read plan n second Apply s begun notes outputs summary form has = of_apply plan n second s begun notes outputs summary form has
last_read plan n second Destroy s begun notes outputs summary form has = of_destroy plan n second s begun notes outputs summary form has

pub summary_read : (plan : SavedPlan) (n second : ℕ) (operation : Operation) (s : StreamRead) (begun : Begun) (notes : List Note) (outputs : List recorded.Output) (summary : Option Summary) (form : Bool) → HasRead s begun notes outputs summary form
    → HasRead (after_messages plan n (stated_at second (event.Summary (summary_of operation)) ∷ []) s) begun notes outputs (Some (summary_of operation)) form
summary_read plan n second operation s begun notes outputs summary form has =
    let m = stated_at second (event.Summary (summary_of operation)) in
    subst (λ (r : StreamRead). HasRead r begun notes outputs (Some (summary_of operation)) form) (sym (after_first plan n m [] s ∙ after_none plan (n + 1) (after_message plan n m s)))
    (last_read plan n second operation s begun notes outputs summary form has)

pub nothing_read : (plan : SavedPlan) → HasRead (no_stream plan) (none_begun (planned_steps plan.changes)) [] [] None false
nothing_read plan = record { begun_is = refl; notes_are = refl; outputs_are = refl; summary_is = refl; form_is = refl; no_message = refl; ephemeral = refl }

-- ---- the whole stream

module _ (plan : SavedPlan) (script : OutcomeMap) (start : ℕ) (operation : Operation) (taken : List told.Event)
    (planned : AllByRecursion (IsPlanned plan) taken) (falls : NeverFalls (hook_messages_of taken)) (before : ℕ) where
  abbrev hooks : List told.Event
  hooks = hook_messages_of taken

  abbrev noted : List told.Event
  noted = notes_of taken

  abbrev latest : ℕ → ℕ
  latest i = latest_of (as_written taken) i

  abbrev messages : ℕ → List told.Event → List StatedMessage
  messages k es = flat_map (λ p. messages_told plan script start (latest (p.0 + 1)) p.1) (enumerate_from k es)

  abbrev last : List StatedMessage
  last = stated_at (start + latest (length (as_written taken))) (event.Summary (summary_of operation)) ∷ []

  abbrev rest : List StatedMessage
  rest = (messages 0 hooks ++ messages (0 + length hooks) noted) ++ last

  rest_is : messages 0 (as_written taken) ++ last ≡ rest
  rest_is =
      ap (λ (l : List StatedMessage). l ++ last)
      (ap (flat_map (λ p. messages_told plan script start (latest (p.0 + 1)) p.1)) (enumerated 0 hooks noted)
      ∙ flat_map-append (λ p. messages_told plan script start (latest (p.0 + 1)) p.1) (enumerate_from 0 hooks) (enumerate_from (0 + length hooks) noted))

  planned_hooks : AllByRecursion (IsPlanned plan) hooks
  planned_hooks = all_filtered (IsPlanned plan) _ taken planned

  planned_notes : AllByRecursion (IsPlanned plan) noted
  planned_notes = all_filtered (IsPlanned plan) _ taken planned

  no_versions : NoVersions rest
  no_versions =
      none_both (messages 0 hooks ++ messages (0 + length hooks) noted) last
      (none_both (messages 0 hooks) (messages (0 + length hooks) noted)
      (hooks_no_version plan (told_by plan script) start latest (messages_told plan script start) (IsPlanned plan) (hook_is plan script start) 0 hooks planned_hooks (hooks_are taken))
      (notes_no_version plan (told_by plan script) start latest (messages_told plan script start) (IsPlanned plan) (note_told plan script) (note_is plan script start) (0 + length hooks) noted planned_notes (notes_are taken)))
      (refl, tt)

  rest_read : (s : StreamRead) → HasRead s (none_begun (planned_steps plan.changes)) [] [] None true
      → HasRead (after_messages plan (before + 2) rest s) (after_events (told_by plan script) (pos start) (before + 2) hooks (none_begun (planned_steps plan.changes))) (flat_map (note_told plan script) noted) [] (Some (summary_of operation)) true
  rest_read s has =
      let n = before + 2 in
      let b = after_events (told_by plan script) (pos start) n hooks (none_begun (planned_steps plan.changes)) in
      let one = messages 0 hooks in
      let two = messages (0 + length hooks) noted in
      let s1 = after_messages plan n one s in
      let n2 = n + length one in
      let s2 = after_messages plan n2 two s1 in
      let first = hooks_read plan (told_by plan script) start latest (messages_told plan script start) (IsPlanned plan) (hook_is plan script start) n 0 hooks planned_hooks (hooks_are taken) (clock hooks noted falls) s _ [] [] None true has in
      let second = notes_read plan (told_by plan script) start latest (messages_told plan script start) (IsPlanned plan) (note_told plan script) (note_is plan script start) n2 (0 + length hooks) noted planned_notes (notes_are taken) s1 b [] [] None true first in
      let third = summary_read plan (n + length (one ++ two)) (start + latest (length (as_written taken))) operation s2 b (flat_map (note_told plan script) noted) [] None true second in
      let joined : after_messages plan n rest s ≡ after_messages plan (n + length (one ++ two)) last s2 =
      after_both plan n (one ++ two) last s ∙ ap (after_messages plan (n + length (one ++ two)) last) (after_both plan n one two s) in
      subst (λ (r : StreamRead). HasRead r b (flat_map (note_told plan script) noted) [] (Some (summary_of operation)) true) (sym joined) third

  pub stream_read : HasTexts plan script → FitBits plan taken → AreTold script start taken → HasShortLines (stream_of plan script start operation taken)
      → IsReadAs plan before (stream_of plan script start operation taken)
      (after_events (told_by plan script) (pos start) (before + 2) hooks (none_begun (planned_steps plan.changes))) (flat_map (note_told plan script) noted) [] (Some (summary_of operation)) true
  stream_read has fits told short =
      let bytes = stream_of plan script start operation taken in
      let m = stated_at start (event.Version (Some (codes "1.0"))) in
      let states = stream_stated plan script start operation taken has fits told ∙ ap (λ (l : List StatedMessage). map Message (m ∷ l)) rest_is in
      let each = each_states (cut_lines bytes) (m ∷ rest) states short in
      let read = version_read plan (cut_lines bytes) m rest (before + 1) (nothing_known plan) each refl no_versions in
      let s = after_message plan (before + 1) m (no_stream plan) in
      let next : before + 1 + 1 ≡ before + 2 = omega arith in
      let all : after_messages plan (before + 1) (m ∷ rest) (no_stream plan) ≡ after_messages plan (before + 2) rest s = after_first plan (before + 1) m rest (no_stream plan) ∙ ap (λ n. after_messages plan n rest s) next in
      let first = of_version plan (before + 1) start (no_stream plan) _ [] [] None false (nothing_read plan) (codes "1.0") in
      record {
        stream = after_messages plan (before + 1) (m ∷ rest) (no_stream plan);
        read = ended plan _ _ read;
        has = subst (λ (r : StreamRead). HasRead r (after_events (told_by plan script) (pos start) (before + 2) hooks (none_begun (planned_steps plan.changes))) (flat_map (note_told plan script) noted) [] (Some (summary_of operation)) true) (sym all)
            (rest_read s first);
      }
