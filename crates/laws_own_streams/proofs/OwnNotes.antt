-- The diagnostics that are read of the lines of events are those that the events tell.
use Rattle.std.proofs.Common.{◌≡◌, ◌≢◌, ℕ, true, List, [], ◌∷◌, ◌++◌, map, Option, Some, refl, sym, ap, ◌∙◌, slice_get, flat_map}
use Rattle.std.specs.Prelude.{filter_map}
use Rattle.std.specs.List.{AllByRecursion, cons_option}
use Rattle.apply_json.specs.Tree.{unless_empty}
use Rattle.apply_model.specs.declared.details.note.Note.{Note}
use Rattle.apply_model.specs.declared.details.note.Severity.{Severity}
use Rattle.apply_model.specs.declared.details.note.Severity.TheVariants.{Error, Warning}
use Rattle.apply_model.specs.declared.plan.step_kind.StepKind.{StepKind}
use Rattle.apply_model.specs.declared.script.diag.Diag.{Diag}
use Rattle.apply_model.specs.declared.script.outcome.Outcome.{Outcome}
use Rattle.apply_model.specs.Plan.ResourceChange.{ResourceChange}
use Rattle.apply_model.specs.Plan.SavedPlan.{SavedPlan}
use Rattle.apply_model.specs.Script.OutcomeMap.{OutcomeMap, outcome_of}
use Rattle.apply_events.specs.declared.event.Event.{Event}
use Rattle.apply_events.specs.declared.what.What.{What}
use Rattle.apply_events.specs.declared.what.What.TheVariants.{Start, Progress, Complete, Errored, ErrorNote, WarnNote, Halted, ProvisionStart, ProvisionOutput, ProvisionComplete, ProvisionErrored}
use Rattle.apply_events.specs.Diagnostics.{is_note}
use Rattle.apply_text.specs.Message.{failure_diag, halt_of, warning_of}
use Rattle.apply_text.specs.Order.{notes_of}
use Rattle.apply_text_terraform.specs.Message.{diagnostic_address}
use Rattle.laws_check.proofs.Given.{held_at, is_given}
use Rattle.laws_check.proofs.SoundObjects.{all_filtered}
use Rattle.laws_lines.specs.Notes.{note_in_form, plain_diag, plain_note, severity_of, step_note_in_form}
use Rattle.laws_lines.specs.Reading.{IsPlanned, note_told, note_told_in_form}
use Rattle.laws_lines.proofs.ReadEvents.{notes_are}
use Rattle.laws_texts.specs.Streams.{diagnostic_of, plain_address, told_by, without_place}

-- each change of the plan has an address
abbrev pub HaveAddresses : SavedPlan → Type 0
HaveAddresses plan = AllByRecursion (λ (change : ResourceChange). change.address ≢ []) plan.changes

pub filled : (text : List ℕ) → text ≢ [] → unless_empty text ≡ Some text
filled [] some = absurd (some refl)
filled (byte ∷ bytes) some = refl

-- ---- one diagnostic

-- The event tells a diagnostic, and its line is read as that diagnostic is shown.
pub record IsShown (shown : Note → Note) (read : List Note) (told : Option Note) (what : What) : Type 0 where
  pub note : Note
  pub read_is : read ≡ shown note ∷ []
  pub told_is : told ≡ Some note
  pub severity : note.severity ≡ severity_of what

-- in the default form
plain_shown : (change : ResourceChange) (kind : StepKind) (outcome : Outcome) (what : What) → change.address ≢ [] → is_note what ≡ true
    → IsShown without_place (plain_note change kind outcome what ∷ []) (diagnostic_of plain_address change kind outcome what) what
plain_shown change kind outcome what some is = of what is
  where
    -- at the address of the change
    at_address : (severity : Severity) (diag : Diag) (what : What) → severity ≡ severity_of what
        → IsShown without_place (record { severity = severity; diag = plain_diag diag; address = unless_empty change.address } ∷ [])
        (Some (record { severity = severity; diag = diag; address = Some change.address })) what
    at_address severity diag what same = record {
      note = record { severity = severity; diag = diag; address = Some change.address };
      read_is = ap (λ (address : Option (List ℕ)). (let note : Note = record { severity = severity; diag = plain_diag diag; address = address } in note) ∷ []) (filled change.address some);
      told_is = refl;
      severity = same;
    }

    of : (what : What) → is_note what ≡ true → IsShown without_place (plain_note change kind outcome what ∷ []) (diagnostic_of plain_address change kind outcome what) what
    of ErrorNote is = at_address Error (failure_diag outcome) ErrorNote refl
    of WarnNote is = at_address Warning (warning_of outcome.result) WarnNote refl
    of (Halted phase hook) is = at_address Error (halt_of kind phase hook) (Halted phase hook) refl
    of Start is = absurd cc
    of (Progress seconds) is = absurd cc
    of (Complete seconds) is = absurd cc
    of (Errored seconds) is = absurd cc
    of (ProvisionStart i) is = absurd cc
    of (ProvisionOutput i line) is = absurd cc
    of (ProvisionComplete i) is = absurd cc
    of (ProvisionErrored i) is = absurd cc

-- in Terraform's form
form_shown : (change : ResourceChange) (kind : StepKind) (outcome : Outcome) (what : What) → is_note what ≡ true
    → IsShown note_in_form (step_note_in_form change kind outcome what ∷ []) (diagnostic_of diagnostic_address change kind outcome what) what
form_shown change kind outcome ErrorNote is = record { note = _; read_is = refl; told_is = refl; severity = refl }
form_shown change kind outcome WarnNote is = record { note = _; read_is = refl; told_is = refl; severity = refl }
form_shown change kind outcome (Halted phase hook) is = record { note = _; read_is = refl; told_is = refl; severity = refl }
form_shown change kind outcome Start is = absurd cc
form_shown change kind outcome (Progress seconds) is = absurd cc
form_shown change kind outcome (Complete seconds) is = absurd cc
form_shown change kind outcome (Errored seconds) is = absurd cc
form_shown change kind outcome (ProvisionStart i) is = absurd cc
form_shown change kind outcome (ProvisionOutput i line) is = absurd cc
form_shown change kind outcome (ProvisionComplete i) is = absurd cc
form_shown change kind outcome (ProvisionErrored i) is = absurd cc

-- ---- all of them

abbrev pub AreShown : (shown : Note → Note) → (read : Event → List Note) → (told : Event → Option Note) → List Event → Type 0
AreShown shown read told events = AllByRecursion (λ (e : Event). IsShown shown (read e) (told e) e.what) events

all_shown : (shown : Note → Note) (read : Event → List Note) (told : Event → Option Note) (events : List Event) → AreShown shown read told events
    → flat_map read events ≡ map shown (filter_map told events)
all_shown shown read told [] each = refl
all_shown shown read told (e ∷ events) each =
    let one = each.0 in
    ap (λ (l : List Note). l ++ flat_map read events) one.read_is
    ∙ ap (λ (l : List Note). shown one.note ∷ l) (all_shown shown read told events each.1)
    ∙ ap (λ (o : Option Note). map shown (cons_option o (filter_map told events))) (sym one.told_is)

module _ (plan : SavedPlan) (script : OutcomeMap) where
  abbrev IsNote : Event → Type 0
  IsNote e = is_note e.what ≡ true

  each_plain : (events : List Event) → HaveAddresses plan → AllByRecursion (IsPlanned plan) events → AllByRecursion IsNote events
      → AreShown without_place (note_told plan script) (told_by plain_address plan script) events
  each_plain [] addresses planned notes = tt
  each_plain (e ∷ events) addresses planned notes = (one e planned.0 notes.0, each_plain events addresses planned.1 notes.1)
    where
      one : (e : Event) → IsPlanned plan e → IsNote e → IsShown without_place (note_told plan script e) (told_by plain_address plan script e) e.what
      one e of note =
          let some = is_given (λ (change : ResourceChange). change.address ≢ []) (slice_get plan.changes e.change) of.0 (held_at (λ (change : ResourceChange). change.address ≢ []) plan.changes e.change addresses) of.2 in
          let is = plain_shown of.0 of.1 (outcome_of script e.change e.step) e.what some note in
          let read : note_told plan script e ≡ plain_note of.0 of.1 (outcome_of script e.change e.step) e.what ∷ [] = rw (of.2, of.3) refl in
          let told : told_by plain_address plan script e ≡ diagnostic_of plain_address of.0 of.1 (outcome_of script e.change e.step) e.what = rw (of.2, of.3) refl in
          record { note = is.note; read_is = read ∙ is.read_is; told_is = told ∙ is.told_is; severity = is.severity }

  each_in_form : (events : List Event) → AllByRecursion (IsPlanned plan) events → AllByRecursion IsNote events
      → AreShown note_in_form (note_told_in_form plan script) (told_by diagnostic_address plan script) events
  each_in_form [] planned notes = tt
  each_in_form (e ∷ events) planned notes = (one e planned.0 notes.0, each_in_form events planned.1 notes.1)
    where
      one : (e : Event) → IsPlanned plan e → IsNote e → IsShown note_in_form (note_told_in_form plan script e) (told_by diagnostic_address plan script e) e.what
      one e of note =
          let is = form_shown of.0 of.1 (outcome_of script e.change e.step) e.what note in
          let read : note_told_in_form plan script e ≡ step_note_in_form of.0 of.1 (outcome_of script e.change e.step) e.what ∷ [] = rw (of.2, of.3) refl in
          let told : told_by diagnostic_address plan script e ≡ diagnostic_of diagnostic_address of.0 of.1 (outcome_of script e.change e.step) e.what = rw (of.2, of.3) refl in
          record { note = is.note; read_is = read ∙ is.read_is; told_is = told ∙ is.told_is; severity = is.severity }

  -- ---- those of a run

  module _ (taken : List Event) (planned : AllByRecursion (IsPlanned plan) taken) where
    planned_notes : AllByRecursion (IsPlanned plan) (notes_of taken)
    planned_notes = all_filtered (IsPlanned plan) _ taken planned

    pub plain_notes : HaveAddresses plan → flat_map (note_told plan script) (notes_of taken) ≡ map without_place (filter_map (told_by plain_address plan script) (notes_of taken))
    plain_notes addresses =
        all_shown without_place (note_told plan script) (told_by plain_address plan script) (notes_of taken) (each_plain (notes_of taken) addresses planned_notes (notes_are taken))

    pub are_shown_in_form : AreShown note_in_form (note_told_in_form plan script) (told_by diagnostic_address plan script) (notes_of taken)
    are_shown_in_form = each_in_form (notes_of taken) planned_notes (notes_are taken)

    pub notes_in_form : flat_map (note_told_in_form plan script) (notes_of taken) ≡ map note_in_form (filter_map (told_by diagnostic_address plan script) (notes_of taken))
    notes_in_form = all_shown note_in_form (note_told_in_form plan script) (told_by diagnostic_address plan script) (notes_of taken) are_shown_in_form
