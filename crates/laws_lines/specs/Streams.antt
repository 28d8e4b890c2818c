-- What the lines of a whole stream state, in both forms.
use Rattle.std.specs.Prelude.{◌≡◌, ◌⊎◌, ℕ, ◌+◌, ◌≤◌, List, [], ◌∷◌, ◌++◌, codes, flat_map, length, map, slice_get, if◌then◌else◌, Some}
use Rattle.std.specs.List.{AllByRecursion, enumerate_from}
use Rattle.std.specs.Option.{option_map_or}
use Rattle.apply_model.specs.declared.details.change_details.ChangeDetails.{ChangeDetails}
use Rattle.apply_model.specs.declared.details.output.Output.{Output}
use Rattle.apply_model.specs.declared.plan.step_kind.StepKind.{StepKind}
use Rattle.apply_model.specs.Plan.ResourceChange.{ResourceChange}
use Rattle.apply_model.specs.Plan.SavedPlan.{SavedPlan}
use Rattle.apply_model.specs.Script.OutcomeMap.{OutcomeMap, outcome_of}
use Rattle.apply_events.specs.declared.counts.Counts.{Counts}
use Rattle.apply_events.specs.declared.event.Event as told
use Rattle.apply_events.specs.Diagnostics.{is_note}
use Rattle.apply_events.specs.Totals.{totals_of}
use Rattle.apply_text.specs.declared.operation.Operation.{Operation}
use Rattle.apply_text.specs.declared.operation.Operation.TheVariants.{Apply, Destroy}
use Rattle.apply_text.specs.Latest.{latest_of}
use Rattle.apply_text.specs.Order.{as_written}
use Rattle.apply_text.specs.Start.{last_second}
use Rattle.apply_text_terraform.specs.Details.{planned_word}
use Rattle.apply_text_terraform.specs.Message.{is_silent}
use Rattle.apply_writer.specs.Stream.Terraform.{StreamExtras, contains_error}
use Rattle.stream_record_lines.specs.declared.event.Event.{Event}
use Rattle.stream_record_lines.specs.declared.event.Event.TheVariants as event
use Rattle.stream_record_lines.specs.declared.stated_message.StatedMessage.{StatedMessage}
use Rattle.laws_lines.specs.Notes.{note_in_form, plain_note, step_note_in_form}
use Rattle.laws_lines.specs.Outputs.{outputs_told}
use Rattle.laws_lines.specs.Stated.{IsNamed, IsStatedAs, stated_at, summary_of, told_by, told_in_form}
use Rattle.laws_begun.specs.Telling.{stated_of}

-- ---- lines

-- Each line states one of the messages, in the same order, but for lines that are empty.
abbrev pub AreStatedAs : (lines : List (List ℕ)) → List StatedMessage → Type 0
AreStatedAs [] messages = messages ≡ []
AreStatedAs (line ∷ lines) messages =
    ((line ≡ []) × AreStatedAs lines messages)
    ⊎ ((message : StatedMessage) × (later : List StatedMessage) × (messages ≡ message ∷ later) × IsStatedAs line message × AreStatedAs lines later)

-- What has to hold of the events of a run: a provisioner has a name, and no second is too late for
-- a timestamp.
pub record AreTold (script : OutcomeMap) (start : ℕ) (events : List told.Event) : Type 0 where
  pub named : AllByRecursion (λ (one : told.Event). IsNamed (outcome_of script one.change one.step) one.what) events
  pub in_time : AllByRecursion (λ (one : told.Event). start + one.at ≤ last_second) events
  pub starts : start ≤ last_second

-- ---- the default form

-- a hook message states its event, and any other event is told as a diagnostic
abbrev pub event_told : SavedPlan → OutcomeMap → ResourceChange → StepKind → told.Event → Event
event_told plan script change kind one =
    if is_note one.what then event.Diagnostic (plain_note change kind (outcome_of script one.change one.step) one.what)
    else stated_of (told_by plan script) one

-- the message of an event so many seconds after the start; none if the plan has no such step
abbrev pub messages_told : SavedPlan → OutcomeMap → (start latest : ℕ) → told.Event → List StatedMessage
messages_told plan script start latest one =
    option_map_or (λ change.
    option_map_or (λ kind. stated_at (start + latest) (event_told plan script change kind one) ∷ []) (slice_get change.steps one.step) [])
    (slice_get plan.changes one.change) []

-- the messages of the stream of the events that were taken: the version, the events in the order in
-- which they are written, the summary
abbrev pub stream_told : SavedPlan → OutcomeMap → (start : ℕ) → Operation → (taken : List told.Event) → List StatedMessage
stream_told plan script start operation taken =
    stated_at start (event.Version (Some (codes "1.0")))
    ∷ (flat_map (λ p. messages_told plan script start (latest_of (as_written taken) (p.0 + 1)) p.1) (enumerate_from 0 (as_written taken))
    ++ stated_at (start + latest_of (as_written taken) (length (as_written taken))) (event.Summary (summary_of operation)) ∷ [])

-- ---- Terraform's form

-- the line of a planned change states nothing that a script repeats
abbrev pub planned_told : (start : ℕ) → List ChangeDetails → ℕ × ResourceChange → List StatedMessage
planned_told start details p =
    option_map_or (λ (d : ChangeDetails). option_map_or (λ word. stated_at start event.Other ∷ []) (planned_word p.1.steps d.forgets) []) (slice_get details p.0) []

abbrev pub event_told_in_form : SavedPlan → OutcomeMap → List ChangeDetails → ResourceChange → StepKind → told.Event → Event
event_told_in_form plan script details change kind one =
    if is_note one.what then event.Diagnostic (step_note_in_form change kind (outcome_of script one.change one.step) one.what)
    else stated_of (told_in_form plan script details) one

-- none for the end of a read that failed
abbrev pub messages_told_in_form : SavedPlan → OutcomeMap → List ChangeDetails → (start latest : ℕ) → told.Event → List StatedMessage
messages_told_in_form plan script details start latest one =
    option_map_or (λ change.
    option_map_or (λ kind. if is_silent kind one.what then [] else stated_at (start + latest) (event_told_in_form plan script details change kind one) ∷ [])
    (slice_get change.steps one.step) [])
    (slice_get plan.changes one.change) []

-- the outputs, in an apply
abbrev pub outputs_message : Operation → (second : ℕ) → List Output → List StatedMessage
outputs_message Apply second outputs = stated_at second (event.Outputs (outputs_told outputs)) ∷ []
outputs_message Destroy second outputs = []

-- the summary and the outputs; nothing if there is an error
abbrev pub end_told : StreamExtras → Operation → (second : ℕ) → Counts → List StatedMessage
end_told extras operation second counts =
    if contains_error extras.notes counts then [] else stated_at second (event.Summary (summary_of operation)) ∷ outputs_message operation second extras.outputs

-- the version, the planned changes, the events in the order in which they are written, the
-- diagnostics of no step, and the end
abbrev pub stream_told_in_form : SavedPlan → OutcomeMap → StreamExtras → (start : ℕ) → Operation → (taken : List told.Event) → List StatedMessage
stream_told_in_form plan script extras start operation taken =
    stated_at start (event.Version (Some (codes "1.2")))
    ∷ (flat_map (planned_told start extras.details) (enumerate_from 0 plan.changes)
    ++ (flat_map (λ p. messages_told_in_form plan script extras.details start (latest_of (as_written taken) (p.0 + 1)) p.1) (enumerate_from 0 (as_written taken))
    ++ (map (λ note. stated_at (start + latest_of (as_written taken) (length (as_written taken))) (event.Diagnostic (note_in_form note))) extras.notes
    ++ end_told extras operation (start + latest_of (as_written taken) (length (as_written taken))) (totals_of plan taken))))
