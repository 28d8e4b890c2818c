-- What two streams of one plan have in common if they are the same.
use Rattle.std.specs.Prelude.{◌≡◌, ◌≤◌, ℕ, All, false, List, length, slice_get, Option, Some, None, filter_map, if◌then◌else◌, option_and_then}
use Rattle.apply_model.specs.declared.details.note.Note.{Note}
use Rattle.apply_model.specs.declared.details.note.Severity.TheVariants.{Error, Warning}
use Rattle.apply_model.specs.declared.plan.step_kind.StepKind.{StepKind}
use Rattle.apply_model.specs.declared.script.outcome.Outcome.{Outcome}
use Rattle.apply_model.specs.Plan.ResourceChange.{ResourceChange}
use Rattle.apply_model.specs.Plan.SavedPlan.{SavedPlan}
use Rattle.apply_model.specs.Script.Outcome.{fails}
use Rattle.apply_model.specs.Script.OutcomeMap.{OutcomeMap, outcome_of}
use Rattle.apply_events.specs.declared.event.Event.{Event}
use Rattle.apply_events.specs.declared.what.What.{What}
use Rattle.apply_events.specs.declared.what.What.TheVariants.{ErrorNote, WarnNote, Halted}
use Rattle.apply_events.specs.Step.{has_warning}
use Rattle.apply_events.specs.Totals.{is_halted}
use Rattle.apply_text.specs.Latest.{latest_of}
use Rattle.apply_text.specs.Message.{failure_diag, halt_of, warning_of}
use Rattle.apply_text.specs.Order.{hook_messages_of, notes_of}

-- ---- diagnostics

-- The address that the line of a step's diagnostic shows in the default form: that of its change.
abbrev pub plain_address : ResourceChange → StepKind → Outcome → Option (List ℕ)
plain_address change kind outcome = Some change.address

-- What the line of a diagnostic of a step shows, but for its time. `address` is the address that it
-- shows, unless a hook halted the step. A hook message shows no diagnostic.
abbrev pub diagnostic_of : (address : ResourceChange → StepKind → Outcome → Option (List ℕ))
    → ResourceChange → StepKind → Outcome → What → Option Note
diagnostic_of address change kind outcome ErrorNote =
    Some (record { severity = Error; diag = failure_diag outcome; address = address change kind outcome })
diagnostic_of address change kind outcome WarnNote =
    Some (record { severity = Warning; diag = warning_of outcome.result; address = address change kind outcome })
diagnostic_of address change kind outcome (Halted phase hook) =
    Some (record { severity = Error; diag = halt_of kind phase hook; address = Some change.address })
diagnostic_of address change kind outcome _ = None

-- What is known of a step of the plan. There is nothing if the plan has no such step.
abbrev pub at_step : {X : Type 0} → SavedPlan → Event → (ResourceChange → StepKind → Option X) → Option X
at_step plan event known =
    option_and_then (λ change. option_and_then (λ kind. known change kind) (slice_get change.steps event.step))
    (slice_get plan.changes event.change)

-- The diagnostic that the line of an event shows.
abbrev pub told_by : (address : ResourceChange → StepKind → Outcome → Option (List ℕ)) → SavedPlan → OutcomeMap → Event → Option Note
told_by address plan script event =
    at_step plan event (λ change kind. diagnostic_of address change kind (outcome_of script event.change event.step) event.what)

-- The diagnostics that a stream of these events shows, in order.
abbrev pub notes_told : (address : ResourceChange → StepKind → Outcome → Option (List ℕ)) → SavedPlan → OutcomeMap → List Event → List Note
notes_told address plan script events = filter_map (told_by address plan script) (notes_of events)

-- The diagnostic of a step with that outcome: its error if it fails, else its warning, if it warns.
abbrev pub note_of_step : (address : Option (List ℕ)) → Outcome → Option Note
note_of_step address outcome =
    if fails outcome then Some (record { severity = Error; diag = failure_diag outcome; address = address })
    else if has_warning outcome.result then Some (record { severity = Warning; diag = warning_of outcome.result; address = address })
    else None

-- The diagnostic that the stream shows of the step that the event ends.
abbrev pub told_after : (address : ResourceChange → StepKind → Outcome → Option (List ℕ)) → SavedPlan → OutcomeMap → (end : Event) → Option Note
told_after address plan script end =
    at_step plan end (λ change kind.
    note_of_step (address change kind (outcome_of script end.change end.step)) (outcome_of script end.change end.step))

-- The diagnostic as the default form shows it: without a range and a snippet.
abbrev pub without_place : Note → Note
without_place note = record {
  severity = note.severity;
  diag = record { summary = note.diag.summary; detail = note.diag.detail; range = None; snippet = None };
  address = note.address;
}

-- ---- times

-- No diagnostic comes later than the last hook message.
abbrev pub AreNotesInTime : List Event → Type 0
AreNotesInTime events =
    All (λ note. note.at ≤ latest_of (hook_messages_of events) (length (hook_messages_of events))) (notes_of events)

-- ---- streams

-- Both have the same hook messages, and the message of each shows the same. No diagnostic comes
-- later than the last of them.
pub record AreSame (IsAlike : Event → Type 0) (events others : List Event) : Type 0 where
  pub hooks : hook_messages_of others ≡ hook_messages_of events
  pub alike : All IsAlike (hook_messages_of events)
  pub in_time : AreNotesInTime events
  pub others_in_time : AreNotesInTime others

-- No hook halts a step.
abbrev pub AreNotHalted : List Event → Type 0
AreNotHalted events = All (λ event. is_halted event.what ≡ false) events
