-- The messages that a checker reads back from a stream in Terraform's form, and its verdict on the
-- stream.
use Rattle.std.specs.Prelude.{◌≡◌, ◌⊎◌, ℕ, List, [], ◌∷◌, ◌++◌, true, false, flat_map, IfSome, IsUtf8, if◌then◌else◌, length, map, slice_get, Option, None, Some, Ok}
use Rattle.std.specs.List.{enumerate_from}
use Rattle.std.specs.Option.{option_map_or}
use Rattle.serde_json.specs.Data.{Data}
use Rattle.apply_model.specs.declared.details.change_details.ChangeDetails.{ChangeDetails}
use Rattle.apply_model.specs.declared.details.note.Note.{Note}
use Rattle.apply_model.specs.declared.details.previous_resource.PreviousResource.{PreviousResource}
use Rattle.apply_model.specs.declared.plan.step_kind.StepKind.{StepKind}
use Rattle.apply_model.specs.declared.script.outcome.Outcome.{Outcome}
use Rattle.apply_model.specs.Plan.Address.{provider_of}
use Rattle.apply_model.specs.Plan.ResourceChange.{ResourceChange}
use Rattle.apply_model.specs.Plan.SavedPlan.{SavedPlan}
use Rattle.apply_model.specs.Script.OutcomeMap.{OutcomeMap, outcome_of}
use Rattle.stream_check.specs.declared.verdict.whole.Whole.{Whole}
use Rattle.stream_check.specs.Lines.{text_message}
use Rattle.stream_check.specs.Message.{Message, diagnostic, intent_named, outputs, planned, summary, version}
use Rattle.apply_events.specs.declared.counts.Counts.{Counts}
use Rattle.apply_events.specs.declared.event.Event.{Event}
use Rattle.apply_events.specs.declared.what.What.{What}
use Rattle.apply_events.specs.declared.what.What.TheVariants.{ErrorNote, WarnNote}
use Rattle.apply_events.specs.Totals.{totals_of}
use Rattle.apply_text.specs.declared.operation.Operation.{Operation}
use Rattle.apply_text.specs.declared.operation.Operation.TheVariants.{Apply, Destroy}
use Rattle.apply_text.specs.Laws.{line_feeds}
use Rattle.apply_text.specs.Objects.{key_data}
use Rattle.apply_text.specs.Order.{as_written}
use Rattle.apply_text_terraform.specs.Details.{planned_word}
use Rattle.apply_text_terraform.specs.Message.{is_silent, diagnostic_address}
use Rattle.apply_run.specs.declared.form_report.FormReport.{FormReport}
use Rattle.apply_writer.specs.Stream.Terraform.{StreamExtras, is_error, contains_error}
use Rattle.laws_check.specs.Accepted.{totals_of_counts}
use Rattle.laws_check.specs.Forms.{AreVerbatim}
use Rattle.laws_check.specs.Sound.{IsSound}
use Rattle.laws_check.specs.Texts.{HasDiagTexts}
use Rattle.laws_check.specs.ReadBack.{action_of, read_back}

-- ---- a line

-- the line is one text and its line feed, and the text is read back as the message
pub record IsReadBackAs (line : List ℕ) (message : Message) : Type 0 where
  pub text : List ℕ
  pub line_is : line ≡ text ++ 10 ∷ []
  pub no_feed : line_feeds text ≡ 0
  pub says : text_message false text ≡ Ok message

-- each line is read back as one of the messages, in the same order, but for lines that are empty
abbrev pub AreReadBackAs : (lines : List (List ℕ)) → List Message → Type 0
AreReadBackAs [] messages = messages ≡ []
AreReadBackAs (line ∷ lines) messages =
    ((line ≡ []) × AreReadBackAs lines messages)
    ⊎ ((message : Message) × (later : List Message) × (messages ≡ message ∷ later) × IsReadBackAs line message × AreReadBackAs lines later)

-- ---- what is planned

-- the message of a planned change, by its details; none if nothing is planned
abbrev pub planned_read_back : ResourceChange → ChangeDetails → List Message
planned_read_back change details =
    option_map_or (λ word. planned (intent_named word) (Some change.address) ∷ []) (planned_word change.steps details.forgets) []

-- the message of a change with its number, by the details with that number
abbrev pub planned_read_back_at : List ChangeDetails → ℕ × ResourceChange → List Message
planned_read_back_at details p = option_map_or (planned_read_back p.1) (slice_get details p.0) []

-- ---- what happens

-- the message of an event of a step with that outcome; a delete's diagnostic may have no address
abbrev pub read_back_in_form : ResourceChange → StepKind → Outcome → What → Message
read_back_in_form change step outcome ErrorNote = diagnostic true (diagnostic_address change step outcome)
read_back_in_form change step outcome WarnNote = diagnostic false (diagnostic_address change step outcome)
read_back_in_form change step outcome what = read_back change.address (action_of step) what

-- the message of an event; none for the end of a read that failed, and none if the plan has no such
-- step
abbrev pub event_read_back_in_form : SavedPlan → OutcomeMap → Event → List Message
event_read_back_in_form plan script event =
    option_map_or (λ change.
    option_map_or (λ step.
    if is_silent step event.what then []
    else read_back_in_form change step (outcome_of script event.change event.step) event.what ∷ [])
    (slice_get change.steps event.step) [])
    (slice_get plan.changes event.change) []

-- ---- the end

-- the message of a diagnostic of no step
abbrev pub diagnostic_read_back : Note → Message
diagnostic_read_back note = diagnostic (is_error note) note.address

-- the message of the outputs, in an apply
abbrev pub outputs_read_back : Operation → List Message
outputs_read_back Apply = outputs ∷ []
outputs_read_back Destroy = []

-- the summary and, in an apply, the outputs; nothing if there is an error
abbrev pub end_read_back : StreamExtras → Operation → Counts → List Message
end_read_back extras operation counts =
    if contains_error extras.notes counts then [] else summary (totals_of_counts counts) ∷ outputs_read_back operation

-- ---- texts

-- the texts of the resource that an object was before
pub record HasPreviousTexts (previous : PreviousResource) : Type 0 where
  pub address : IsUtf8 previous.address
  pub module_address : IsUtf8 previous.module_address
  pub resource : IsUtf8 previous.resource
  pub provider : IsUtf8 (provider_of previous.kind_name)
  pub kind_name : IsUtf8 previous.kind_name
  pub name : IsUtf8 previous.name
  pub key : IsSound (key_data previous.key)

-- the texts of a planned change, by its details
pub record HasDetailTexts (details : ChangeDetails) : Type 0 where
  pub importing : IfSome details.importing (λ importing. IfSome importing.id IsUtf8)
  pub generated_config : IfSome details.generated_config IsUtf8
  pub planned_id : IfSome details.planned_id IsUtf8
  pub previous : IfSome details.previous HasPreviousTexts

-- the texts of a diagnostic of no step
pub record HasNoteTexts (note : Note) : Type 0 where
  pub diag : HasDiagTexts note.diag
  pub address : IfSome note.address IsUtf8
  pub raw_texts : (range : Option Data) × (snippet : Option Data) × AreVerbatim note.diag range snippet

-- ---- all of it

-- the messages of planned changes, of events, and of diagnostics of no step
abbrev pub read_back_before_end : SavedPlan → OutcomeMap → StreamExtras → (taken : List Event) → List Message
read_back_before_end plan script extras taken =
    flat_map (planned_read_back_at extras.details) (enumerate_from 0 plan.changes)
    ++ (flat_map (event_read_back_in_form plan script) (as_written taken) ++ map diagnostic_read_back extras.notes)

-- all messages of the stream, from the version to the end
abbrev pub stream_read_back_in_form : SavedPlan → OutcomeMap → StreamExtras → Operation → (taken : List Event) → List Message
stream_read_back_in_form plan script extras operation taken =
    version ∷ (flat_map (planned_read_back_at extras.details) (enumerate_from 0 plan.changes)
    ++ (flat_map (event_read_back_in_form plan script) (as_written taken)
    ++ (map diagnostic_read_back extras.notes ++ end_read_back extras operation (totals_of plan taken))))

-- The stream is whole. The totals are those of the events, and it has a line for each message.
-- There is an error if a step failed or was halted, or if a diagnostic of no step is an error.
abbrev pub whole_in_form : SavedPlan → OutcomeMap → StreamExtras → Operation → (taken : List Event) → Whole
whole_in_form plan script extras operation taken = record {
  totals = totals_of_counts (totals_of plan taken);
  has_errors = contains_error extras.notes (totals_of plan taken);
  lines = length (stream_read_back_in_form plan script extras operation taken);
  is_plan = false;
  passed = None;
}

-- The verdict on a stream of a run with this report and with so many lines: the same totals, and
-- errors if and only if the report has some.
abbrev pub whole_reported_in_form : FormReport → (lines : ℕ) → Whole
whole_reported_in_form report lines = record {
  totals = totals_of_counts report.run.counts;
  has_errors = report.contains_error;
  lines = lines;
  is_plan = false;
  passed = None;
}
