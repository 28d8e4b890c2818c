-- How `record` reads the whole stream of a run.
use Rattle.std.specs.Prelude.{◌≡◌, ℕ, ◌≤◌, List, [], ◌∷◌, Bool, false, slice_get, if◌then◌else◌, Option, Some, None, Ok, Err, ⊤}
use Rattle.std.specs.List.{AllByRecursion}
use Rattle.std.specs.Option.{option_map_or}
use Rattle.stream_lines.specs.Cut.{cut_lines}
use Rattle.apply_model.specs.declared.details.note.Note.{Note}
use Rattle.apply_model.specs.declared.plan.step_kind.StepKind.{StepKind}
use Rattle.apply_model.specs.declared.plan.step_kind.StepKind.TheVariants.{Read}
use Rattle.apply_model.specs.Plan.ResourceChange.{ResourceChange}
use Rattle.apply_model.specs.Plan.SavedPlan.{SavedPlan}
use Rattle.apply_model.specs.Script.Outcome.{fails}
use Rattle.apply_model.specs.Script.OutcomeMap.{OutcomeMap, outcome_of}
use Rattle.apply_events.specs.declared.counts.Counts.{Counts}
use Rattle.apply_events.specs.declared.event.Event as told
use Rattle.apply_text.specs.declared.operation.Operation.{Operation}
use Rattle.apply_text.specs.declared.operation.Operation.TheVariants.{Apply, Destroy}
use Rattle.apply_text_terraform.specs.Message.{is_silent}
use Rattle.apply_writer.specs.Stream.Terraform.{StreamExtras, contains_error}
use Rattle.stream_record_lines.specs.declared.outputs.output.Output as recorded
use Rattle.stream_record_lines.specs.declared.summary.Summary.{Summary}
use Rattle.stream_record_steps.specs.Begun.{Begun}
use Rattle.stream_record_steps.specs.Tallies.{no_lines}
use Rattle.stream_record_stream.specs.Reading.{is_of_another_plan, read_of}
use Rattle.stream_record_stream.specs.Streams.{StreamRead}
use Rattle.stream_record_stream.specs.declared.stream_fault.StreamFault.TheVariants.{NoStepOfPlan}
use Rattle.laws_lines.specs.Notes.{plain_note, step_note_in_form}
use Rattle.laws_lines.specs.Outputs.{outputs_told}
use Rattle.laws_lines.specs.Stated.{summary_of}

-- ---- what is read

-- what the messages of a stream state of the steps, of diagnostics, of outputs and of the summary,
-- and whether the version is that of the default form
pub record HasRead (stream : StreamRead) (begun : Begun) (notes : List Note) (outputs : List recorded.Output) (summary : Option Summary) (is_default_form : Bool) : Type 0 where
  pub begun_is : stream.begun ≡ begun
  pub notes_are : stream.notes ≡ notes
  pub outputs_are : stream.outputs ≡ outputs
  pub summary_is : stream.summary ≡ summary
  pub form_is : stream.is_default_form ≡ is_default_form
  pub no_message : stream.no_message ≡ no_lines
  pub ephemeral : stream.ephemeral ≡ None

-- The bytes, after so many lines of the input, are read as this stream. The stream is refused if
-- steps began, and none of them is of the plan.
pub record IsReadAs (plan : SavedPlan) (before : ℕ) (bytes : List ℕ) (begun : Begun) (notes : List Note) (outputs : List recorded.Output) (summary : Option Summary) (is_default_form : Bool) : Type 0 where
  pub stream : StreamRead
  pub read : read_of plan false before (cut_lines bytes) ≡ (if is_of_another_plan stream.begun then Err NoStepOfPlan else Ok stream)
  pub has : HasRead stream begun notes outputs summary is_default_form

-- ---- the events

-- the plan has the step of the event, and the event has a line, in the default form and in
-- Terraform's
abbrev pub IsPlanned : SavedPlan → told.Event → Type 0
IsPlanned plan one =
    (change : ResourceChange) × (kind : StepKind) × (slice_get plan.changes one.change ≡ Some change) × (slice_get change.steps one.step ≡ Some kind)

abbrev pub IsLoud : SavedPlan → told.Event → Type 0
IsLoud plan one =
    (change : ResourceChange) × (kind : StepKind) × (slice_get plan.changes one.change ≡ Some change) × (slice_get change.steps one.step ≡ Some kind)
    × (is_silent kind one.what ≡ false)

-- no read of the plan fails, as the script states
abbrev pub NoReadFails : SavedPlan → OutcomeMap → Type 0
NoReadFails plan script =
    (c k : ℕ) (change : ResourceChange) → slice_get plan.changes c ≡ Some change → slice_get change.steps k ≡ Some Read
    → fails (outcome_of script c k) ≡ false

-- the time never falls from one event to the next
abbrev pub NeverFalls : List told.Event → Type 0
NeverFalls [] = ⊤
NeverFalls (one ∷ events) = AllByRecursion (λ (other : told.Event). one.at ≤ other.at) events × NeverFalls events

-- ---- their diagnostics

-- the diagnostic of an event; none if the plan has no such step
abbrev pub note_told : SavedPlan → OutcomeMap → told.Event → List Note
note_told plan script one =
    option_map_or (λ change. option_map_or (λ kind. plain_note change kind (outcome_of script one.change one.step) one.what ∷ []) (slice_get change.steps one.step) [])
    (slice_get plan.changes one.change) []

abbrev pub note_told_in_form : SavedPlan → OutcomeMap → told.Event → List Note
note_told_in_form plan script one =
    option_map_or (λ change. option_map_or (λ kind. step_note_in_form change kind (outcome_of script one.change one.step) one.what ∷ []) (slice_get change.steps one.step) [])
    (slice_get plan.changes one.change) []

-- ---- the end in Terraform's form

-- the summary and the outputs; nothing if there is an error
abbrev pub summary_told : List Note → Operation → Counts → Option Summary
summary_told notes operation counts = if contains_error notes counts then None else Some (summary_of operation)

abbrev pub outputs_of_apply : Operation → List recorded.Output → List recorded.Output
outputs_of_apply Apply outputs = outputs
outputs_of_apply Destroy outputs = []

abbrev pub outputs_read : StreamExtras → Operation → Counts → List recorded.Output
outputs_read extras operation counts = if contains_error extras.notes counts then [] else outputs_of_apply operation (outputs_told extras.outputs)
