-- The messages that a checker reads back from the lines before an apply.
use Rattle.std.specs.Prelude.{ℕ, List, [], ◌∷◌, flat_map, slice_get, Some}
use Rattle.std.specs.Option.{option_map_or}
use Rattle.apply_model.specs.declared.details.change_details.ChangeDetails.{ChangeDetails}
use Rattle.apply_model.specs.declared.plan.mode.Mode.{Mode}
use Rattle.apply_model.specs.declared.plan.mode.Mode.TheVariants.{Managed, DataSource}
use Rattle.apply_model.specs.Plan.ResourceChange.{ResourceChange}
use Rattle.stream_check.specs.declared.messages.action.Action.TheVariants.{Read, Refresh}
use Rattle.stream_check.specs.declared.messages.timed_stage.TimedStage.TheVariants as stage
use Rattle.stream_check.specs.declared.messages.totals.Totals.{Totals}
use Rattle.stream_check.specs.Message.{Message, intent_named, other, outputs, plan_summary, planned, step, version}
use Rattle.apply_events.specs.declared.event.Event.{Event}
use Rattle.apply_events.specs.declared.what.What.{What}
use Rattle.apply_events.specs.declared.what.What.TheVariants.{Start, Progress, Complete, Errored, ErrorNote, WarnNote, Halted, ProvisionStart, ProvisionOutput, ProvisionComplete, ProvisionErrored}
use Rattle.apply_planning.specs.declared.told.Told.{Told}
use Rattle.apply_text_planning.specs.declared.plan_totals.PlanTotals.{PlanTotals}
use Rattle.apply_text_planning.specs.Words.{command_word}
use Rattle.apply_command.specs.declared.head_line.HeadLine.{HeadLine}
use Rattle.apply_command.specs.declared.head_line.HeadLine.TheVariants as line
use Rattle.apply_command.specs.Head.{HeadInputs}

-- ---- while the plan is made

-- the message of an event of a refresh; none if it has no line. A refresh has no seconds.
abbrev pub refresh_read_back : (address : List ℕ) → What → List Message
refresh_read_back address Start = step address Refresh stage.Start ∷ []
refresh_read_back address (Progress seconds) = []
refresh_read_back address (Complete seconds) = step address Refresh (stage.Complete 0) ∷ []
refresh_read_back address (Errored seconds) = []
refresh_read_back address ErrorNote = []
refresh_read_back address WarnNote = []
refresh_read_back address (Halted phase hook) = []
refresh_read_back address (ProvisionStart i) = []
refresh_read_back address (ProvisionOutput i n) = []
refresh_read_back address (ProvisionComplete i) = []
refresh_read_back address (ProvisionErrored i) = []

-- the message of an event of a read; none if it has no line
abbrev pub reading_read_back : (address : List ℕ) → What → List Message
reading_read_back address Start = step address Read stage.Start ∷ []
reading_read_back address (Progress seconds) = step address Read (stage.Progress seconds) ∷ []
reading_read_back address (Complete seconds) = step address Read (stage.Complete seconds) ∷ []
reading_read_back address (Errored seconds) = []
reading_read_back address ErrorNote = []
reading_read_back address WarnNote = []
reading_read_back address (Halted phase hook) = []
reading_read_back address (ProvisionStart i) = []
reading_read_back address (ProvisionOutput i n) = []
reading_read_back address (ProvisionComplete i) = []
reading_read_back address (ProvisionErrored i) = []

abbrev pub told_read_back : Mode → (address : List ℕ) → What → List Message
told_read_back Managed address what = refresh_read_back address what
told_read_back DataSource address what = reading_read_back address what

-- the message of an event of the planning
abbrev pub planning_read_back : List Told → Event → List Message
planning_read_back told event =
    option_map_or (λ (t : Told). told_read_back t.object.mode t.object.address event.what) (slice_get told event.change) []

-- ---- the plan

-- the message of a planned change; none if it has no line
abbrev pub command_read_back : ResourceChange → ChangeDetails → List Message
command_read_back change details =
    option_map_or (λ word. planned (intent_named word) (Some change.address) ∷ []) (command_word change.steps details) []

-- the message of a planned change, by its number
abbrev pub planned_read_back_at : HeadInputs → ℕ → List Message
planned_read_back_at inputs number =
    option_map_or (λ change.
    option_map_or (λ details. command_read_back change details) (slice_get inputs.details number) [])
    (slice_get inputs.plan.changes number) []

abbrev pub drift_read_back_at : HeadInputs → ℕ → List Message
drift_read_back_at inputs number = option_map_or (λ drift. other ∷ []) (slice_get inputs.drifts number) []

abbrev pub totals_of_plan : PlanTotals → Totals
totals_of_plan totals = record { added = totals.added; changed = totals.changed; removed = totals.removed }

-- ---- all lines

abbrev pub line_read_back : HeadInputs → HeadLine → List Message
line_read_back inputs line.Version = version ∷ []
line_read_back inputs (line.Planning event) = planning_read_back inputs.told event
line_read_back inputs (line.Drift number) = drift_read_back_at inputs number
line_read_back inputs (line.Planned number) = planned_read_back_at inputs number
line_read_back inputs line.Summary = plan_summary (totals_of_plan inputs.totals) ∷ []
line_read_back inputs line.Outputs = outputs ∷ []

abbrev pub head_read_back : HeadInputs → List HeadLine → List Message
head_read_back inputs lines = flat_map (line_read_back inputs) lines
