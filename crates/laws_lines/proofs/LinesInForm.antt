-- What the lines of events, and of diagnostics of no step, state in Terraform's form.
use Rattle.std.proofs.Common.{◌≡◌, ℕ, ◌+◌, ◌++◌, List, codes, cond, false, true, Bool, IsUtf8, Option, Some, None, refl}
use Rattle.std.specs.Prelude.{IfSome, ◌&&◌, is_some, not}
use Rattle.json.proofs.Printed.Utf8.{IsUtf8-are_ascii}
use Rattle.serde_json.specs.Data.{Data}
use Rattle.apply_model.specs.declared.details.note.Note.{Note}
use Rattle.apply_model.specs.declared.details.note.Severity.{Severity}
use Rattle.apply_model.specs.declared.details.note.Severity.TheVariants.{Error, Warning}
use Rattle.apply_model.specs.declared.plan.step_kind.StepKind.{StepKind}
use Rattle.apply_model.specs.declared.plan.step_kind.StepKind.TheVariants as step_kind
use Rattle.apply_model.specs.declared.script.diag.Diag.{Diag}
use Rattle.apply_model.specs.declared.script.outcome.Outcome.{Outcome}
use Rattle.apply_model.specs.Plan.ResourceChange.{ResourceChange}
use Rattle.apply_model.specs.Plan.StepKind.{is_kind}
use Rattle.apply_model.specs.Script.Outcome.{first_diag}
use Rattle.apply_model.specs.Script.OutcomeMap.{outcome_of}
use Rattle.apply_events.specs.Diagnostics.{is_note}
use Rattle.apply_events.specs.declared.what.What.{What}
use Rattle.apply_events.specs.declared.what.What.TheVariants.{Start, Progress, Complete, Errored, ErrorNote, WarnNote, Halted, ProvisionStart, ProvisionOutput, ProvisionComplete, ProvisionErrored}
use Rattle.apply_text.specs.Message.{failure_diag, halt_of, name_of, output_of, start_id, warning_of}
use Rattle.apply_text_terraform.specs.Lines.{event_line, note_text}
use Rattle.apply_text_terraform.specs.Message.{diagnostic_address, end_id}
use Rattle.apply_text_terraform.specs.UtcTimestamp.{precise_timestamp_text}
use Rattle.stream_record_lines.specs.declared.event.Event.TheVariants as event
use Rattle.stream_record_lines.specs.Messages.{message_of}
use Rattle.laws_check.specs.Forms.{AreVerbatim, event_diagnostic, message_in_form}
use Rattle.laws_check.specs.ReadBackInForm.{HasNoteTexts}
use Rattle.laws_check.specs.Texts.{HasChangeTexts, HasDiagTexts, HasOutcomeTexts, IsSmall}
use Rattle.laws_check.proofs.FormLines.{event_read}
use Rattle.laws_check.proofs.SoundObjects.{halt_texts}
use Rattle.laws_check.proofs.SoundParts.{three}
use Rattle.laws_lines.specs.Notes.{note_in_form, step_note_in_form}
use Rattle.laws_lines.specs.Stated.{IsNamed}
use Rattle.laws_begun.specs.Telling.{Telling, line_of}
use Rattle.laws_lines.proofs.FormDiagnostics.{note_says}
use Rattle.laws_lines.proofs.HookEvents.{end_says, named_complete, named_errored, named_output, named_start}
use Rattle.laws_lines.proofs.HookMessages.{at, errored_is, object_at, progress_is, start_is}
use Rattle.laws_lines.proofs.Says.{Says, says_of}

-- ---- hook messages

-- a hook message has no verbatim texts
nothing_verbatim : (outcome : Outcome) (what : What) → is_note what ≡ false → AreVerbatim (event_diagnostic outcome what) None None
nothing_verbatim outcome Start hook = record { range_is = tt; snippet_is = tt }
nothing_verbatim outcome (Progress s) hook = record { range_is = tt; snippet_is = tt }
nothing_verbatim outcome (Complete s) hook = record { range_is = tt; snippet_is = tt }
nothing_verbatim outcome (Errored s) hook = record { range_is = tt; snippet_is = tt }
nothing_verbatim outcome ErrorNote hook = absurd cc
nothing_verbatim outcome WarnNote hook = absurd cc
nothing_verbatim outcome (Halted phase i) hook = absurd cc
nothing_verbatim outcome (ProvisionStart i) hook = record { range_is = tt; snippet_is = tt }
nothing_verbatim outcome (ProvisionOutput i line) hook = record { range_is = tt; snippet_is = tt }
nothing_verbatim outcome (ProvisionComplete i) hook = record { range_is = tt; snippet_is = tt }
nothing_verbatim outcome (ProvisionErrored i) hook = record { range_is = tt; snippet_is = tt }

module _ (raw : List ℕ) (change : ResourceChange) (moment : List ℕ) (telling : Telling) (kind : StepKind) (c k : ℕ) (planned : Option (List ℕ)) where
  tree_says : (what : What) → is_note what ≡ false → IsNamed (outcome_of telling.script c k) what → end_id kind (outcome_of telling.script c k).result planned ≡ telling.id c k
      → message_of raw (object_at moment (message_in_form change kind (outcome_of telling.script c k) planned None None what)) ≡ Some (at moment (line_of telling change kind c k what))
  tree_says Start hook named same = start_is raw change moment kind _ (start_id kind change)
  tree_says (Progress s) hook named same = progress_is raw change moment kind _ s
  tree_says (Complete s) hook named same = end_says raw change moment telling kind c k s (end_id kind (outcome_of telling.script c k).result planned) same
  tree_says (Errored s) hook named same = errored_is raw change moment kind _ s
  tree_says ErrorNote hook named same = absurd cc
  tree_says WarnNote hook named same = absurd cc
  tree_says (Halted phase i) hook named same = absurd cc
  tree_says (ProvisionStart i) hook named same = named_start raw change moment (name_of (outcome_of telling.script c k) i) _ named
  tree_says (ProvisionOutput i line) hook named same = named_output raw change moment (name_of (outcome_of telling.script c k) i) _ (output_of (outcome_of telling.script c k) i line) named
  tree_says (ProvisionComplete i) hook named same = named_complete raw change moment (name_of (outcome_of telling.script c k) i) _ named
  tree_says (ProvisionErrored i) hook named same = named_errored raw change moment (name_of (outcome_of telling.script c k) i) _ named

module _ (change : ResourceChange) (kind : StepKind) (planned : Option (List ℕ)) (seconds : ℕ) (has : HasChangeTexts change) where
  pub form_hook : (telling : Telling) (c k : ℕ) (what : What) → is_note what ≡ false → IsNamed (outcome_of telling.script c k) what → end_id kind (outcome_of telling.script c k).result planned ≡ telling.id c k
      → HasOutcomeTexts (outcome_of telling.script c k) → IsSmall what → IfSome planned IsUtf8
      → Says (event_line seconds change kind (outcome_of telling.script c k) planned what) (precise_timestamp_text seconds) (line_of telling change kind c k what)
  form_hook telling c k what hook named same texts small utf8 =
      let outcome = outcome_of telling.script c k in
      let moment = precise_timestamp_text seconds in
      says_of (event_line seconds change kind outcome planned what) moment (object_at moment (message_in_form change kind outcome planned None None what)) (line_of telling change kind c k what)
      (event_read change kind outcome planned None None what seconds has texts small utf8 (nothing_verbatim outcome what hook))
      (λ raw. tree_says raw change moment telling kind c k planned what hook named same)

-- ---- diagnostics of a step

address_utf8 : (change : ResourceChange) (kind : StepKind) (outcome : Outcome) → HasChangeTexts change → IfSome (diagnostic_address change kind outcome) IsUtf8
address_utf8 change kind outcome has = of_test (is_kind step_kind.Delete kind && not (is_some (first_diag outcome.provisioners)))
  where
    of_test : (b : Bool) → IfSome (cond b None (Some change.address)) IsUtf8
    of_test true = tt
    of_test false = has.address

error_text : (summary : List ℕ) → IsUtf8 summary → IsUtf8 (codes "Error" ++ codes ": " ++ summary)
error_text summary utf8 = three (codes "Error") (codes ": ") summary (IsUtf8-are_ascii (codes "Error") refl) (IsUtf8-are_ascii (codes ": ") refl) utf8

warning_text : (summary : List ℕ) → IsUtf8 summary → IsUtf8 (codes "Warning" ++ codes ": " ++ summary)
warning_text summary utf8 = three (codes "Warning") (codes ": ") summary (IsUtf8-are_ascii (codes "Warning") refl) (IsUtf8-are_ascii (codes ": ") refl) utf8

module _ (change : ResourceChange) (kind : StepKind) (outcome : Outcome) (planned : Option (List ℕ)) (seconds : ℕ) (has : HasChangeTexts change) (texts : HasOutcomeTexts outcome) where
  pub form_note_says : (what : What) → is_note what ≡ true → IsSmall what → (range snippet : Option Data) → AreVerbatim (event_diagnostic outcome what) range snippet
      → Says (event_line seconds change kind outcome planned what) (precise_timestamp_text seconds) (event.Diagnostic (step_note_in_form change kind outcome what))
  form_note_says ErrorNote note small range snippet are =
      note_says seconds (codes "error") (codes "Error" ++ codes ": " ++ (failure_diag outcome).summary) Error (diagnostic_address change kind outcome) (failure_diag outcome)
      (IsUtf8-are_ascii (codes "error") refl) (error_text (failure_diag outcome).summary texts.failure.summary) (address_utf8 change kind outcome has) texts.failure range snippet are
  form_note_says WarnNote note small range snippet are =
      note_says seconds (codes "warn") (codes "Warning" ++ codes ": " ++ (warning_of outcome.result).summary) Warning (diagnostic_address change kind outcome) (warning_of outcome.result)
      (IsUtf8-are_ascii (codes "warn") refl) (warning_text (warning_of outcome.result).summary texts.warning.summary) (address_utf8 change kind outcome has) texts.warning range snippet are
  form_note_says (Halted phase hook) note small range snippet are =
      let diag = halt_of kind phase hook in
      let says = halt_texts change has seconds kind phase hook small in
      note_says seconds (codes "error") (codes "Error" ++ codes ": " ++ diag.summary) Error (Some change.address) diag
      (IsUtf8-are_ascii (codes "error") refl) (error_text diag.summary says.summary) has.address says None None (record { range_is = tt; snippet_is = tt })
  form_note_says Start note small range snippet are = absurd cc
  form_note_says (Progress s) note small range snippet are = absurd cc
  form_note_says (Complete s) note small range snippet are = absurd cc
  form_note_says (Errored s) note small range snippet are = absurd cc
  form_note_says (ProvisionStart i) note small range snippet are = absurd cc
  form_note_says (ProvisionOutput i line) note small range snippet are = absurd cc
  form_note_says (ProvisionComplete i) note small range snippet are = absurd cc
  form_note_says (ProvisionErrored i) note small range snippet are = absurd cc

-- ---- diagnostics of no step

of_severity : (start clock : ℕ) (severity : Severity) (diag : Diag) (address : Option (List ℕ)) (range snippet : Option Data) → HasDiagTexts diag → IfSome address IsUtf8 → AreVerbatim diag range snippet
    → Says (note_text start clock (record { severity = severity; diag = diag; address = address })) (precise_timestamp_text (start + clock)) (event.Diagnostic (note_in_form (record { severity = severity; diag = diag; address = address })))
of_severity start clock Error diag address range snippet has is are =
    note_says (start + clock) (codes "error") (codes "Error" ++ codes ": " ++ diag.summary) Error address diag
    (IsUtf8-are_ascii (codes "error") refl) (error_text diag.summary has.summary) is has range snippet are
of_severity start clock Warning diag address range snippet has is are =
    note_says (start + clock) (codes "warn") (codes "Warning" ++ codes ": " ++ diag.summary) Warning address diag
    (IsUtf8-are_ascii (codes "warn") refl) (warning_text diag.summary has.summary) is has range snippet are

pub stray_note_says : (start clock : ℕ) (note : Note) → HasNoteTexts note → Says (note_text start clock note) (precise_timestamp_text (start + clock)) (event.Diagnostic (note_in_form note))
stray_note_says start clock note has = of_severity start clock note.severity note.diag note.address has.raw_texts.0 has.raw_texts.1 has.diag has.address has.raw_texts.2
