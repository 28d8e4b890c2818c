-- The lines of diagnostics in the default form, by what they show.
use Rattle.std.proofs.Common.{◌≡◌, ℕ, ◌+◌, true, true≢false, List, [], ◌∷◌, ◌++◌, map, refl, sym, ap, ◌∙◌}
use Rattle.std.specs.Prelude.{codes, flat_map, slice_get, unwrap_or}
use Rattle.std.specs.Option.{option_map_or}
use Rattle.std.proofs.lemmas.List.Elements.{All-weaker, filter_passes}
use Rattle.apply_model.specs.declared.details.note.Note.{Note}
use Rattle.apply_model.specs.declared.details.note.Severity.{Severity}
use Rattle.apply_model.specs.declared.details.note.Severity.TheVariants.{Error, Warning}
use Rattle.apply_model.specs.declared.plan.step_kind.StepKind.{StepKind}
use Rattle.apply_model.specs.declared.script.diag.Diag.{Diag}
use Rattle.apply_model.specs.declared.script.outcome.Outcome.{Outcome}
use Rattle.apply_model.specs.Plan.ResourceChange.{ResourceChange}
use Rattle.apply_model.specs.Plan.SavedPlan.{SavedPlan}
use Rattle.apply_model.specs.Script.OutcomeMap.{OutcomeMap, outcome_of}
use Rattle.apply_events.specs.declared.event.Event.{Event}
use Rattle.apply_events.specs.declared.what.What.{What}
use Rattle.apply_events.specs.declared.what.What.TheVariants.{Start, Progress, Complete, Errored, ErrorNote, WarnNote, Halted, ProvisionStart, ProvisionOutput, ProvisionComplete, ProvisionErrored}
use Rattle.apply_events.specs.Diagnostics.{is_note}
use Rattle.apply_text.specs.Lines.{event_text, message_line}
use Rattle.apply_text.specs.Message.{Message, diagnostic_message, event_message}
use Rattle.apply_text.specs.Objects.{diagnostic_object}
use Rattle.apply_text.specs.Order.{notes_of}
use Rattle.laws_texts.specs.Streams.{diagnostic_of, notes_told, plain_address, told_by, without_place}
use Rattle.laws_texts.proofs.LookedUp.{found_text, texts_of_notes}

abbrev message_about : Severity → (address : List ℕ) → Diag → Message
message_about Error address diag = diagnostic_message address (codes "error") (codes "error") (codes "Error") diag
message_about Warning address diag = diagnostic_message address (codes "warn") (codes "warning") (codes "Warning") diag

-- the line of a diagnostic of a step
abbrev pub note_line : (seconds : ℕ) → Note → List ℕ
note_line seconds note = message_line seconds (message_about note.severity (unwrap_or note.address []) note.diag)

line_without_place : (seconds : ℕ) (note : Note) → note_line seconds note ≡ note_line seconds (without_place note)
unfolding diagnostic_object
line_without_place seconds note = of_severity note.severity
  where
    of_severity : (severity : Severity) → message_line seconds (message_about severity (unwrap_or note.address []) note.diag) ≡ message_line seconds (message_about severity (unwrap_or note.address []) (without_place note).diag)
    of_severity Error = refl
    of_severity Warning = refl

pub lines_without_place : (seconds : ℕ) (notes : List Note) → flat_map (note_line seconds) notes ≡ flat_map (note_line seconds) (map without_place notes)
lines_without_place seconds [] = refl
lines_without_place seconds (note ∷ notes) =
    ap (λ l. l ++ flat_map (note_line seconds) notes) (line_without_place seconds note) ∙ ap (λ l. note_line seconds (without_place note) ++ l) (lines_without_place seconds notes)

line_shows : (seconds : ℕ) (change : ResourceChange) (kind : StepKind) (outcome : Outcome) (what : What) → is_note what ≡ true
    → message_line seconds (event_message change kind outcome what) ≡ option_map_or (note_line seconds) (diagnostic_of plain_address change kind outcome what) []
line_shows seconds change kind outcome ErrorNote is = refl
line_shows seconds change kind outcome WarnNote is = refl
line_shows seconds change kind outcome (Halted phase hook) is = refl
line_shows seconds change kind outcome Start is = absurd (true≢false (sym is))
line_shows seconds change kind outcome (Progress n) is = absurd (true≢false (sym is))
line_shows seconds change kind outcome (Complete n) is = absurd (true≢false (sym is))
line_shows seconds change kind outcome (Errored n) is = absurd (true≢false (sym is))
line_shows seconds change kind outcome (ProvisionStart i) is = absurd (true≢false (sym is))
line_shows seconds change kind outcome (ProvisionOutput i line) is = absurd (true≢false (sym is))
line_shows seconds change kind outcome (ProvisionComplete i) is = absurd (true≢false (sym is))
line_shows seconds change kind outcome (ProvisionErrored i) is = absurd (true≢false (sym is))

module _ (plan : SavedPlan) (script : OutcomeMap) (start clock : ℕ) where
  text_shows : (e : Event) → is_note e.what ≡ true → event_text plan script start clock e ≡ option_map_or (note_line (start + clock)) (told_by plain_address plan script e) []
  text_shows e is =
      let outcome = outcome_of script e.change e.step in
      found_text (slice_get plan.changes e.change) e.step
      (λ change kind. message_line (start + clock) (event_message change kind outcome e.what))
      (λ change kind. diagnostic_of plain_address change kind outcome e.what) (note_line (start + clock))
      (λ change kind. line_shows (start + clock) change kind outcome e.what is)

  pub lines_of_notes : (events : List Event) → flat_map (event_text plan script start clock) (notes_of events) ≡ flat_map (note_line (start + clock)) (notes_told plain_address plan script events)
  lines_of_notes events =
      texts_of_notes (event_text plan script start clock) (told_by plain_address plan script) (note_line (start + clock)) (notes_of events)
      (All-weaker (λ (e : Event). is_note e.what ≡ true) (λ e. event_text plan script start clock e ≡ option_map_or (note_line (start + clock)) (told_by plain_address plan script e) [])
      text_shows (notes_of events) (filter_passes (λ (e : Event). is_note e.what) events))
