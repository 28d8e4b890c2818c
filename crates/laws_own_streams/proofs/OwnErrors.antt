-- Among the diagnostics that are read is an error if and only if the writer reports one.
use Rattle.std.proofs.Common.{◌≡◌, ◌+◌, ◌<◌, Bool, true, false, cond, List, [], ◌∷◌, length, map, Option, refl, sym, ap, ap₂, ◌∙◌}
use Rattle.std.specs.Prelude.{◌||◌, filter_map, nat_lt}
use Rattle.std.specs.List.{AllByRecursion, cons_option, list_any}
use Rattle.apply_model.specs.declared.details.note.Note.{Note}
use Rattle.apply_model.specs.declared.details.note.Severity.{Severity}
use Rattle.apply_model.specs.declared.details.note.Severity.TheVariants.{Error, Warning}
use Rattle.apply_events.specs.declared.event.Event.{Event}
use Rattle.apply_events.specs.declared.what.What.{What}
use Rattle.apply_events.specs.declared.what.What.TheVariants.{Start, Progress, Complete, Errored, ErrorNote, WarnNote, Halted, ProvisionStart, ProvisionOutput, ProvisionComplete, ProvisionErrored}
use Rattle.apply_events.specs.Diagnostics.{is_note}
use Rattle.apply_events.specs.Step.{Work}
use Rattle.apply_events.specs.Totals.{is_halted, totals_of}
use Rattle.apply_text.specs.Order.{notes_of}
use Rattle.apply_text_terraform.specs.Message.{diagnostic_address}
use Rattle.apply_writer.specs.Stream.Terraform.{StreamExtras, contains_error, is_severe}
use Rattle.apply_writer.specs.Stream.Terraform as writer
use Rattle.stream_record_stream.specs.Streams.{has_error, is_error}
use Rattle.laws_check.specs.WholeSteps.{IsOfWholeSteps}
use Rattle.laws_check.proofs.Errors as checked
use Rattle.laws_check.proofs.Errors.{any_both, errors_counted, is_error_note}
use Rattle.laws_check.proofs.Parts.{each_weaker}
use Rattle.laws_check.proofs.Tallies.{are_planned, is_within}
use Rattle.laws_lines.specs.Notes.{note_in_form, severity_of}
use Rattle.laws_lines.specs.Reading.{IsPlanned, note_told_in_form}
use Rattle.laws_lines.proofs.ReadEvents.{notes_are}
use Rattle.laws_own_streams.specs.Runs.{notes_read_in_form, shown_in_form}
use Rattle.laws_own_streams.proofs.OwnNotes.{AreShown, are_shown_in_form}
use Rattle.laws_texts.specs.Streams.{notes_told, told_by}

same_severity : (severity : Severity) → is_error severity ≡ is_severe severity
same_severity Error = refl
same_severity Warning = refl

-- ---- the diagnostics that are read

as_written : (notes : List Note) → has_error (map shown_in_form notes) ≡ list_any writer.is_error notes
as_written [] = refl
as_written (note ∷ notes) = ap₂ (λ (a b : Bool). a || b) (same_severity note.severity) (as_written notes)

-- ---- those of events

-- the event is an error or a halt
abbrev tells : Event → Bool
tells e = is_error_note e.what || is_halted e.what

severe : (what : What) → is_note what ≡ true → is_severe (severity_of what) ≡ (is_error_note what || is_halted what)
severe ErrorNote is = refl
severe WarnNote is = refl
severe (Halted phase hook) is = refl
severe Start is = absurd cc
severe (Progress seconds) is = absurd cc
severe (Complete seconds) is = absurd cc
severe (Errored seconds) is = absurd cc
severe (ProvisionStart i) is = absurd cc
severe (ProvisionOutput i line) is = absurd cc
severe (ProvisionComplete i) is = absurd cc
severe (ProvisionErrored i) is = absurd cc

any_told : (read : Event → List Note) (told : Event → Option Note) (events : List Event) → AllByRecursion (λ (e : Event). is_note e.what ≡ true) events → AreShown note_in_form read told events
    → list_any writer.is_error (filter_map told events) ≡ list_any tells events
any_told read told [] notes each = refl
any_told read told (e ∷ events) notes each =
    ap (λ (o : Option Note). list_any writer.is_error (cons_option o (filter_map told events))) each.0.told_is
    ∙ ap₂ (λ (a b : Bool). a || b) (ap is_severe each.0.severity ∙ severe e.what notes.0) (any_told read told events notes.1 each.1)

-- a hook message tells no error
quiet : (what : What) → is_note what ≡ false → (is_error_note what || is_halted what) ≡ false
quiet ErrorNote is = absurd cc
quiet WarnNote is = absurd cc
quiet (Halted phase hook) is = absurd cc
quiet Start is = refl
quiet (Progress seconds) is = refl
quiet (Complete seconds) is = refl
quiet (Errored seconds) is = refl
quiet (ProvisionStart i) is = refl
quiet (ProvisionOutput i line) is = refl
quiet (ProvisionComplete i) is = refl
quiet (ProvisionErrored i) is = refl

any_noted : (events : List Event) → list_any tells (notes_of events) ≡ list_any tells events
any_noted [] = refl
any_noted (e ∷ events) = at (is_note e.what) refl (any_noted events)
  where
    at : (b : Bool) → is_note e.what ≡ b → list_any tells (notes_of events) ≡ list_any tells events
        → list_any tells (cond b (e ∷ notes_of events) (notes_of events)) ≡ (tells e || list_any tells events)
    at true is rest = ap (λ (b : Bool). tells e || b) rest
    at false is rest = rest ∙ ap (λ (b : Bool). b || list_any tells events) (sym (quiet e.what is))

-- ---- the run

module _ (work : Work) (events : List Event) (steps : IsOfWholeSteps work events) where
  counted : list_any tells events ≡ nat_lt 0 ((totals_of work.plan events).failed + (totals_of work.plan events).halted)
  counted =
      let limit = length work.plan.changes in
      let planned = are_planned work.plan events steps.planned in
      errors_counted work limit events (each_weaker (checked.IsPlanned work.plan) (λ e. e.change < limit) (is_within work.plan) events planned) steps.whole

  pub errors_agree : (extras : StreamExtras) → AllByRecursion (IsPlanned work.plan) events
      → has_error (notes_read_in_form work.plan work.script extras events) ≡ contains_error extras.notes (totals_of work.plan events)
  errors_agree extras planned =
      let own = notes_told diagnostic_address work.plan work.script events in
      any_both (λ (note : Note). is_error note.severity) (map shown_in_form own) (map shown_in_form extras.notes)
      ∙ ap₂ (λ (a b : Bool). a || b) (as_written own) (as_written extras.notes)
      ∙ ap (λ (b : Bool). b || list_any writer.is_error extras.notes)
      (any_told (note_told_in_form work.plan work.script) (told_by diagnostic_address work.plan work.script) (notes_of events) (notes_are events) (are_shown_in_form work.plan work.script events planned)
      ∙ any_noted events ∙ counted)
