-- How the stream of a run is read in Terraform's form.
use Rattle.std.proofs.Common.{◌≡◌, ℕ, ◌+◌, pos, List, [], ◌∷◌, ◌++◌, append-nil, append_assoc, codes, cond, flat_map, length, map, Bool, true, false, Option, Some, None, refl, sym, ap, ◌∙◌, subst, slice_get, arith}
use Rattle.std.specs.List.{AllByRecursion, enumerate_from}
use Rattle.std.specs.Option.{option_map_or}
use Rattle.std.proofs.lemmas.Grind.{flat_map-append}
use Rattle.stream_lines.specs.Cut.{cut_lines}
use Rattle.apply_model.specs.declared.details.change_details.ChangeDetails.{ChangeDetails}
use Rattle.apply_model.specs.declared.details.note.Note.{Note}
use Rattle.apply_model.specs.declared.plan.step_kind.StepKind.{StepKind}
use Rattle.apply_model.specs.Plan.ResourceChange.{ResourceChange}
use Rattle.apply_model.specs.Plan.SavedPlan.{SavedPlan}
use Rattle.apply_model.specs.Script.OutcomeMap.{OutcomeMap, outcome_of}
use Rattle.apply_events.specs.declared.event.Event as told
use Rattle.apply_events.specs.Diagnostics.{is_note}
use Rattle.apply_events.specs.Totals.{totals_of}
use Rattle.apply_text.specs.declared.operation.Operation.{Operation}
use Rattle.apply_text.specs.declared.operation.Operation.TheVariants.{Apply, Destroy}
use Rattle.apply_text.specs.Latest.{latest_of}
use Rattle.apply_text.specs.Order.{as_written, hook_messages_of, notes_of}
use Rattle.apply_text_terraform.specs.Details.{planned_word}
use Rattle.apply_writer.specs.Stream.Form.{stream_in}
use Rattle.apply_writer.specs.Stream.Terraform.{StreamExtras, contains_error, terraform_form}
use Rattle.stream_record_lines.specs.declared.event.Event.TheVariants as event
use Rattle.stream_record_lines.specs.declared.outputs.output.Output as recorded
use Rattle.stream_record_lines.specs.declared.stated_line.StatedLine.TheVariants.{Message}
use Rattle.stream_record_lines.specs.declared.stated_message.StatedMessage.{StatedMessage}
use Rattle.stream_record_lines.specs.declared.summary.Summary.{Summary}
use Rattle.stream_record_steps.specs.Begun.{Begun, none_begun}
use Rattle.stream_record_steps.specs.Steps.{planned_steps}
use Rattle.stream_record_stream.specs.Reading.{is_version, nothing_known}
use Rattle.stream_record_stream.specs.Streams.{StreamRead, after_message, no_stream}
use Rattle.laws_check.specs.Applied.{HasShortLines}
use Rattle.laws_check.specs.FormTexts.{HasFormTexts}
use Rattle.laws_check.specs.Texts.{FitBits}
use Rattle.laws_check.proofs.SoundObjects.{all_filtered}
use Rattle.laws_lines.specs.Notes.{note_in_form, step_note_in_form}
use Rattle.laws_lines.specs.Outputs.{outputs_told}
use Rattle.laws_lines.specs.Reading.{HasRead, IsLoud, IsReadAs, NeverFalls, note_told_in_form, outputs_of_apply, outputs_read, summary_told}
use Rattle.laws_lines.specs.Stated.{stated_at, summary_of, told_in_form}
use Rattle.laws_lines.specs.Streams.{AreTold, end_told, messages_told_in_form, outputs_message, planned_told}
use Rattle.laws_begun.specs.Telling.{after_events, stated_of}
use Rattle.laws_lines.proofs.Clock.{clock}
use Rattle.laws_lines.proofs.FormStream.{stream_stated}
use Rattle.laws_lines.proofs.PlainReading.{nothing_read, summary_read}
use Rattle.laws_lines.proofs.ReadMessages.{NoVersions, after_both, after_first, after_messages, after_none, each_states, of_note, of_outputs, of_step, of_version, version_read}
use Rattle.laws_lines.proofs.ReadEvents.{ended, enumerated, hooks_are, hooks_no_version, hooks_read, none_both, notes_are, notes_no_version, notes_read}

-- ---- planned changes

-- messages that state nothing
abbrev StateNothing : (start : ℕ) → List StatedMessage → Type 0
StateNothing start ms = AllByRecursion (λ (m : StatedMessage). m ≡ stated_at start event.Other) ms

nothing_both : (start : ℕ) (xs ys : List StatedMessage) → StateNothing start xs → StateNothing start ys → StateNothing start (xs ++ ys)
nothing_both start [] ys all others = others
nothing_both start (x ∷ xs) ys all others = (all.0, nothing_both start xs ys all.1 others)

one_planned : (start : ℕ) (steps : List StepKind) (o : Option ChangeDetails) → StateNothing start (option_map_or (λ (d : ChangeDetails). option_map_or (λ word. stated_at start event.Other ∷ []) (planned_word steps d.forgets) []) o [])
one_planned start steps None = tt
one_planned start steps (Some details) = of_word (planned_word steps details.forgets)
  where
    of_word : (o : Option (List ℕ)) → StateNothing start (option_map_or (λ word. stated_at start event.Other ∷ []) o [])
    of_word None = tt
    of_word (Some word) = (refl, tt)

all_planned : (start : ℕ) (details : List ChangeDetails) (ps : List (ℕ × ResourceChange)) → StateNothing start (flat_map (planned_told start details) ps)
all_planned start details [] = tt
all_planned start details (p ∷ ps) = nothing_both start (planned_told start details p) (flat_map (planned_told start details) ps) (one_planned start p.1.steps (slice_get details p.0)) (all_planned start details ps)

nothing_no_version : (start : ℕ) (ms : List StatedMessage) → StateNothing start ms → NoVersions ms
nothing_no_version start [] all = tt
nothing_no_version start (m ∷ ms) all = (ap (λ (x : StatedMessage). is_version x.event) all.0, nothing_no_version start ms all.1)

planned_read : (plan : SavedPlan) (start n : ℕ) (ms : List StatedMessage) → StateNothing start ms → (s : StreamRead) (begun : Begun) (notes : List Note) (outputs : List recorded.Output) (summary : Option Summary) (form : Bool) → HasRead s begun notes outputs summary form
    → HasRead (after_messages plan n ms s) begun notes outputs summary form
planned_read plan start n [] all s begun notes outputs summary form has = subst (λ (r : StreamRead). HasRead r begun notes outputs summary form) (sym (after_none plan n s)) has
planned_read plan start n (m ∷ ms) all s begun notes outputs summary form has =
    let one = of_step plan n start s begun notes outputs summary form has event.Other tt in
    let first = subst (λ (x : StatedMessage). HasRead (after_message plan n x s) begun notes outputs summary form) (sym all.0) one in
    subst (λ (r : StreamRead). HasRead r begun notes outputs summary form) (sym (after_first plan n m ms s)) (planned_read plan start (n + 1) ms all.1 (after_message plan n m s) begun notes outputs summary form first)

-- ---- one event

module _ (plan : SavedPlan) (script : OutcomeMap) (details : List ChangeDetails) (start : ℕ) where
  hook_is : (latest : ℕ) (e : told.Event) → IsLoud plan e → is_note e.what ≡ false → messages_told_in_form plan script details start latest e ≡ stated_at (start + latest) (stated_of (told_in_form plan script details) e) ∷ []
  hook_is latest e planned hook =
      let is = planned.2 in
      let at = planned.3 in
      let loud = planned.4 in
      rw (is, at, loud, hook) refl

  note_is : (latest : ℕ) (e : told.Event) → IsLoud plan e → is_note e.what ≡ true
      → (note : Note) × (messages_told_in_form plan script details start latest e ≡ stated_at (start + latest) (event.Diagnostic note) ∷ []) × (note_told_in_form plan script e ≡ note ∷ [])
  note_is latest e planned is_a_note =
      let is = planned.2 in
      let at = planned.3 in
      let loud = planned.4 in
      (step_note_in_form planned.0 planned.1 (outcome_of script e.change e.step) e.what, rw (is, at, loud, is_a_note) refl, rw (is, at) refl)

-- ---- diagnostics of no step, and the end

strays_read : (plan : SavedPlan) (n second : ℕ) (strays : List Note) (s : StreamRead) (begun : Begun) (notes : List Note) (outputs : List recorded.Output) (summary : Option Summary) (form : Bool) → HasRead s begun notes outputs summary form
    → HasRead (after_messages plan n (map (λ note. stated_at second (event.Diagnostic (note_in_form note))) strays) s) begun (notes ++ map note_in_form strays) outputs summary form
strays_read plan n second [] s begun notes outputs summary form has =
    subst (λ (l : List Note). HasRead (after_messages plan n [] s) begun l outputs summary form) (sym (append-nil notes))
    (subst (λ (r : StreamRead). HasRead r begun notes outputs summary form) (sym (after_none plan n s)) has)
strays_read plan n second (note ∷ strays) s begun notes outputs summary form has =
    let m = stated_at second (event.Diagnostic (note_in_form note)) in
    let ms = map (λ note. stated_at second (event.Diagnostic (note_in_form note))) strays in
    let first = of_note plan n second s begun notes outputs summary form has (note_in_form note) in
    let rest = strays_read plan (n + 1) second strays (after_message plan n m s) begun (notes ++ note_in_form note ∷ []) outputs summary form first in
    subst (λ (r : StreamRead). HasRead r begun (notes ++ map note_in_form (note ∷ strays)) outputs summary form) (sym (after_first plan n m ms s))
    (subst (λ (l : List Note). HasRead (after_messages plan (n + 1) ms (after_message plan n m s)) begun l outputs summary form) (append_assoc notes (note_in_form note ∷ []) (map note_in_form strays)) rest)

strays_no_version : (second : ℕ) (strays : List Note) → NoVersions (map (λ note. stated_at second (event.Diagnostic (note_in_form note))) strays)
strays_no_version second [] = tt
strays_no_version second (note ∷ strays) = (refl, strays_no_version second strays)

outputs_are : (plan : SavedPlan) (n second : ℕ) (operation : Operation) (extras : StreamExtras) (s : StreamRead) (begun : Begun) (notes : List Note) (summary : Option Summary) (form : Bool) → HasRead s begun notes [] summary form
    → HasRead (after_messages plan n (outputs_message operation second extras.outputs) s) begun notes (outputs_of_apply operation (outputs_told extras.outputs)) summary form
outputs_are plan n second Apply extras s begun notes summary form has =
    let m = stated_at second (event.Outputs (outputs_told extras.outputs)) in
    subst (λ (r : StreamRead). HasRead r begun notes (outputs_told extras.outputs) summary form) (sym (after_first plan n m [] s ∙ after_none plan (n + 1) (after_message plan n m s)))
    (of_outputs plan n second s begun notes [] summary form has (outputs_told extras.outputs))
outputs_are plan n second Destroy extras s begun notes summary form has = subst (λ (r : StreamRead). HasRead r begun notes [] summary form) (sym (after_none plan n s)) has

-- with an error, or without
end_read : (plan : SavedPlan) (n second : ℕ) (operation : Operation) (extras : StreamExtras) (failed : Bool) (s : StreamRead) (begun : Begun) (notes : List Note) (form : Bool) → HasRead s begun notes [] None form
    → HasRead (after_messages plan n (cond failed [] (stated_at second (event.Summary (summary_of operation)) ∷ outputs_message operation second extras.outputs)) s)
    begun notes (cond failed [] (outputs_of_apply operation (outputs_told extras.outputs))) (cond failed None (Some (summary_of operation))) form
end_read plan n second operation extras true s begun notes form has = subst (λ (r : StreamRead). HasRead r begun notes [] None form) (sym (after_none plan n s)) has
end_read plan n second operation extras false s begun notes form has =
    let m = stated_at second (event.Summary (summary_of operation)) in
    let more = outputs_message operation second extras.outputs in
    let s1 = after_messages plan n (m ∷ []) s in
    let first = summary_read plan n second operation s begun notes [] None form has in
    subst (λ (r : StreamRead). HasRead r begun notes (outputs_of_apply operation (outputs_told extras.outputs)) (Some (summary_of operation)) form) (sym (after_both plan n (m ∷ []) more s))
    (outputs_are plan (n + length (m ∷ [])) second operation extras s1 begun notes (Some (summary_of operation)) form first)

end_no_version : (second : ℕ) (operation : Operation) (extras : StreamExtras) (failed : Bool) → NoVersions (cond failed [] (stated_at second (event.Summary (summary_of operation)) ∷ outputs_message operation second extras.outputs))
end_no_version second operation extras true = tt
end_no_version second Apply extras false = (refl, (refl, tt))
end_no_version second Destroy extras false = (refl, tt)

-- ---- the whole stream

module _ (plan : SavedPlan) (script : OutcomeMap) (extras : StreamExtras) (start : ℕ) (operation : Operation) (taken : List told.Event)
    (planned : AllByRecursion (IsLoud plan) taken) (falls : NeverFalls (hook_messages_of taken)) (before : ℕ) where
  abbrev hooks : List told.Event
  hooks = hook_messages_of taken

  abbrev noted : List told.Event
  noted = notes_of taken

  abbrev latest : ℕ → ℕ
  latest i = latest_of (as_written taken) i

  abbrev last : ℕ
  last = start + latest (length (as_written taken))

  abbrev messages : ℕ → List told.Event → List StatedMessage
  messages k es = flat_map (λ p. messages_told_in_form plan script extras.details start (latest (p.0 + 1)) p.1) (enumerate_from k es)

  abbrev changes : List StatedMessage
  changes = flat_map (planned_told start extras.details) (enumerate_from 0 plan.changes)

  abbrev strays : List StatedMessage
  strays = map (λ note. stated_at last (event.Diagnostic (note_in_form note))) extras.notes

  abbrev end : List StatedMessage
  end = end_told extras operation last (totals_of plan taken)

  abbrev rest : List StatedMessage
  rest = changes ++ ((messages 0 hooks ++ messages (0 + length hooks) noted) ++ (strays ++ end))

  rest_is : changes ++ (messages 0 (as_written taken) ++ (strays ++ end)) ≡ rest
  rest_is =
      ap (λ (l : List StatedMessage). changes ++ (l ++ (strays ++ end)))
      (ap (flat_map (λ p. messages_told_in_form plan script extras.details start (latest (p.0 + 1)) p.1)) (enumerated 0 hooks noted)
      ∙ flat_map-append (λ p. messages_told_in_form plan script extras.details start (latest (p.0 + 1)) p.1) (enumerate_from 0 hooks) (enumerate_from (0 + length hooks) noted))

  planned_hooks : AllByRecursion (IsLoud plan) hooks
  planned_hooks = all_filtered (IsLoud plan) _ taken planned

  planned_notes : AllByRecursion (IsLoud plan) noted
  planned_notes = all_filtered (IsLoud plan) _ taken planned

  no_versions : NoVersions rest
  no_versions =
      none_both changes ((messages 0 hooks ++ messages (0 + length hooks) noted) ++ (strays ++ end)) (nothing_no_version start changes (all_planned start extras.details (enumerate_from 0 plan.changes)))
      (none_both (messages 0 hooks ++ messages (0 + length hooks) noted) (strays ++ end)
      (none_both (messages 0 hooks) (messages (0 + length hooks) noted)
      (hooks_no_version plan (told_in_form plan script extras.details) start latest (messages_told_in_form plan script extras.details start) (IsLoud plan) (hook_is plan script extras.details start) 0 hooks planned_hooks (hooks_are taken))
      (notes_no_version plan (told_in_form plan script extras.details) start latest (messages_told_in_form plan script extras.details start) (IsLoud plan) (note_told_in_form plan script) (note_is plan script extras.details start) (0 + length hooks) noted planned_notes
      (notes_are taken)))
      (none_both strays end (strays_no_version last extras.notes) (end_no_version last operation extras (contains_error extras.notes (totals_of plan taken)))))

  abbrev begun_with : Begun
  begun_with = after_events (told_in_form plan script extras.details) (pos start) (before + 2 + length changes) hooks (none_begun (planned_steps plan.changes))

  abbrev all_notes : List Note
  all_notes = flat_map (note_told_in_form plan script) noted ++ map note_in_form extras.notes

  rest_read : (s : StreamRead) → HasRead s (none_begun (planned_steps plan.changes)) [] [] None false
      → HasRead (after_messages plan (before + 2) rest s) begun_with all_notes (outputs_read extras operation (totals_of plan taken)) (summary_told extras.notes operation (totals_of plan taken)) false
  rest_read s has =
      let failed = contains_error extras.notes (totals_of plan taken) in
      let n = before + 2 in
      let one = messages 0 hooks in
      let two = messages (0 + length hooks) noted in
      let n1 = n + length changes in
      let s1 = after_messages plan n changes s in
      let s2 = after_messages plan n1 one s1 in
      let n2 = n1 + length one in
      let s3 = after_messages plan n2 two s2 in
      let n3 = n1 + length (one ++ two) in
      let s4 = after_messages plan n3 strays s3 in
      let n4 = n3 + length strays in
      let first = planned_read plan start n changes (all_planned start extras.details (enumerate_from 0 plan.changes)) s (none_begun (planned_steps plan.changes)) [] [] None false has in
      let second = hooks_read plan (told_in_form plan script extras.details) start latest (messages_told_in_form plan script extras.details start) (IsLoud plan) (hook_is plan script extras.details start) n1 0 hooks planned_hooks (hooks_are taken)
      (clock hooks noted falls) s1 (none_begun (planned_steps plan.changes)) [] [] None false first in
      let third = notes_read plan (told_in_form plan script extras.details) start latest (messages_told_in_form plan script extras.details start) (IsLoud plan) (note_told_in_form plan script) (note_is plan script extras.details start) n2 (0 + length hooks) noted
      planned_notes (notes_are taken) s2 begun_with [] [] None false second in
      let fourth = strays_read plan n3 last extras.notes s3 begun_with (flat_map (note_told_in_form plan script) noted) [] None false third in
      let fifth = end_read plan n4 last operation extras failed s4 begun_with all_notes false fourth in
      let joined : after_messages plan n rest s ≡ after_messages plan n4 end s4 =
      after_both plan n changes ((one ++ two) ++ (strays ++ end)) s
      ∙ after_both plan n1 (one ++ two) (strays ++ end) s1
      ∙ ap (after_messages plan n3 (strays ++ end)) (after_both plan n1 one two s1)
      ∙ after_both plan n3 strays end s3 in
      subst (λ (r : StreamRead). HasRead r begun_with all_notes (outputs_read extras operation (totals_of plan taken)) (summary_told extras.notes operation (totals_of plan taken)) false) (sym joined) fifth

  pub stream_read : HasFormTexts plan script extras → FitBits plan taken → AreTold script start taken → HasShortLines (stream_in (terraform_form plan script extras start operation) taken)
      → IsReadAs plan before (stream_in (terraform_form plan script extras start operation) taken)
      begun_with all_notes (outputs_read extras operation (totals_of plan taken)) (summary_told extras.notes operation (totals_of plan taken)) false
  stream_read has fits told short =
      let bytes = stream_in (terraform_form plan script extras start operation) taken in
      let m = stated_at start (event.Version (Some (codes "1.2"))) in
      let states = stream_stated plan script extras has start operation taken fits told ∙ ap (λ (l : List StatedMessage). map Message (m ∷ l)) rest_is in
      let each = each_states (cut_lines bytes) (m ∷ rest) states short in
      let read = version_read plan (cut_lines bytes) m rest (before + 1) (nothing_known plan) each refl no_versions in
      let s = after_message plan (before + 1) m (no_stream plan) in
      let next : before + 1 + 1 ≡ before + 2 = omega arith in
      let all : after_messages plan (before + 1) (m ∷ rest) (no_stream plan) ≡ after_messages plan (before + 2) rest s = after_first plan (before + 1) m rest (no_stream plan) ∙ ap (λ n. after_messages plan n rest s) next in
      let first = of_version plan (before + 1) start (no_stream plan) (none_begun (planned_steps plan.changes)) [] [] None false (nothing_read plan) (codes "1.2") in
      record {
        stream = after_messages plan (before + 1) (m ∷ rest) (no_stream plan);
        read = ended plan _ _ read;
        has = subst (λ (r : StreamRead). HasRead r begun_with all_notes (outputs_read extras operation (totals_of plan taken)) (summary_told extras.notes operation (totals_of plan taken)) false) (sym all) (rest_read s first);
      }
