-- What the lines of events state in the default form.
use Rattle.std.proofs.Common.{◌≡◌, ℕ, ◌++◌, codes, false, true, Option, refl, ap, ◌∙◌}
use Rattle.serde_json.specs.Data.{Data}
use Rattle.serde_json.specs.Written.{compact_text}
use Rattle.apply_json.specs.Tree.{◌>>=◌}
use Rattle.apply_model.specs.declared.details.note.Severity.TheVariants.{Error, Warning}
use Rattle.apply_model.specs.declared.plan.step_kind.StepKind.{StepKind}
use Rattle.apply_model.specs.declared.script.outcome.Outcome.{Outcome}
use Rattle.apply_model.specs.Plan.ResourceChange.{ResourceChange}
use Rattle.apply_model.specs.Script.OutcomeMap.{outcome_of}
use Rattle.apply_events.specs.Diagnostics.{is_note}
use Rattle.apply_events.specs.declared.what.What.{What}
use Rattle.apply_events.specs.declared.what.What.TheVariants.{Start, Progress, Complete, Errored, ErrorNote, WarnNote, Halted, ProvisionStart, ProvisionOutput, ProvisionComplete, ProvisionErrored}
use Rattle.apply_text.specs.Lines as plain
use Rattle.apply_text.specs.Message.{end_id, event_message, failure_diag, halt_of, warning_of}
use Rattle.apply_text.specs.UtcTimestamp.{timestamp_text}
use Rattle.stream_record_lines.specs.declared.event.Event.TheVariants as event
use Rattle.stream_record_lines.specs.Messages.{message_of}
use Rattle.laws_check.specs.Texts.{HasChangeTexts, HasOutcomeTexts, IsSmall}
use Rattle.laws_check.proofs.FormFeeds.{plain_feeds}
use Rattle.laws_check.proofs.FormLines.{plain_read}
use Rattle.laws_check.proofs.ObjectsBack.{event_back}
use Rattle.laws_check.proofs.SoundObjects.{event_sound, halt_texts}
use Rattle.laws_lines.specs.Notes.{plain_note}
use Rattle.laws_lines.specs.Stated.{IsNamed}
use Rattle.laws_begun.specs.Telling.{Telling, line_of}
use Rattle.laws_lines.proofs.Diagnostics.{plain_says}
use Rattle.laws_lines.proofs.HookEvents.{hook_says}
use Rattle.laws_lines.proofs.HookMessages.{object_at}
use Rattle.laws_lines.proofs.Says.{Says, says_of}

module _ (change : ResourceChange) (kind : StepKind) (seconds : ℕ) (has : HasChangeTexts change) where
  -- the line of a hook message
  pub plain_hook : (telling : Telling) (c k : ℕ) (what : What) → is_note what ≡ false → IsNamed (outcome_of telling.script c k) what → end_id kind (outcome_of telling.script c k).result ≡ telling.id c k
      → HasOutcomeTexts (outcome_of telling.script c k) → IsSmall what
      → Says (plain.message_line seconds (event_message change kind (outcome_of telling.script c k) what)) (timestamp_text seconds) (line_of telling change kind c k what)
  plain_hook telling c k what hook named same texts small =
      let outcome = outcome_of telling.script c k in
      says_of (plain.message_line seconds (event_message change kind outcome what)) (timestamp_text seconds) (object_at (timestamp_text seconds) (event_message change kind outcome what)) (line_of telling change kind c k what)
      (plain_read change kind outcome what seconds has texts small)
      (λ raw. hook_says raw change (timestamp_text seconds) telling kind c k what hook named same)

  -- the line of a diagnostic
  module _ (outcome : Outcome) (texts : HasOutcomeTexts outcome) where
    pub plain_note_says : (what : What) → is_note what ≡ true → IsSmall what
        → Says (plain.message_line seconds (event_message change kind outcome what)) (timestamp_text seconds) (event.Diagnostic (plain_note change kind outcome what))
    plain_note_says ErrorNote note small =
        let d = object_at (timestamp_text seconds) (event_message change kind outcome ErrorNote) in
        record {
          text = compact_text d;
          line_is = refl;
          no_feed = plain_feeds d;
          says = ap (λ (o : Option Data). o >>= message_of (compact_text d)) (event_back change kind outcome ErrorNote seconds (event_sound change has seconds kind outcome ErrorNote texts small))
              ∙ plain_says (codes "error") (codes "Error" ++ codes ": " ++ (failure_diag outcome).summary) (timestamp_text seconds) change.address Error (failure_diag outcome) (event_sound change has seconds kind outcome ErrorNote texts small) has.address texts.failure;
        }
    plain_note_says WarnNote note small =
        let d = object_at (timestamp_text seconds) (event_message change kind outcome WarnNote) in
        record {
          text = compact_text d;
          line_is = refl;
          no_feed = plain_feeds d;
          says = ap (λ (o : Option Data). o >>= message_of (compact_text d)) (event_back change kind outcome WarnNote seconds (event_sound change has seconds kind outcome WarnNote texts small))
              ∙ plain_says (codes "warn") (codes "Warning" ++ codes ": " ++ (warning_of outcome.result).summary) (timestamp_text seconds) change.address Warning (warning_of outcome.result) (event_sound change has seconds kind outcome WarnNote texts small) has.address texts.warning;
        }
    plain_note_says (Halted phase hook) note small =
        let d = object_at (timestamp_text seconds) (event_message change kind outcome (Halted phase hook)) in
        let diag = halt_of kind phase hook in
        record {
          text = compact_text d;
          line_is = refl;
          no_feed = plain_feeds d;
          says = ap (λ (o : Option Data). o >>= message_of (compact_text d)) (event_back change kind outcome (Halted phase hook) seconds (event_sound change has seconds kind outcome (Halted phase hook) texts small))
              ∙ plain_says (codes "error") (codes "Error" ++ codes ": " ++ diag.summary) (timestamp_text seconds) change.address Error diag (event_sound change has seconds kind outcome (Halted phase hook) texts small) has.address
              (halt_texts change has seconds kind phase hook small);
        }
    plain_note_says Start note small = absurd cc
    plain_note_says (Progress s) note small = absurd cc
    plain_note_says (Complete s) note small = absurd cc
    plain_note_says (Errored s) note small = absurd cc
    plain_note_says (ProvisionStart i) note small = absurd cc
    plain_note_says (ProvisionOutput i line) note small = absurd cc
    plain_note_says (ProvisionComplete i) note small = absurd cc
    plain_note_says (ProvisionErrored i) note small = absurd cc
