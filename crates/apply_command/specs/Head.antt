-- What a command prints before its apply.
use Rattle.std.specs.Prelude.{ℕ, ◌+◌, List, [], ◌∷◌, ◌++◌, Bool, true, false, flat_map, if◌then◌else◌, map, slice_get}
use Rattle.std.specs.Option.{option_map_or}
use Rattle.apply_model.specs.declared.details.change_details.ChangeDetails.{ChangeDetails}
use Rattle.apply_model.specs.declared.plan.mode.Mode.{Mode}
use Rattle.apply_model.specs.declared.plan.mode.Mode.TheVariants.{Managed, DataSource}
use Rattle.apply_model.specs.Plan.SavedPlan.{SavedPlan}
use Rattle.apply_events.specs.declared.event.Event.{Event}
use Rattle.apply_events.specs.declared.what.What.{What}
use Rattle.apply_events.specs.declared.what.What.TheVariants.{Start, Progress, Complete, Errored, ErrorNote, WarnNote, Halted, ProvisionStart, ProvisionOutput, ProvisionComplete, ProvisionErrored}
use Rattle.apply_prior.specs.declared.drift.Drift.{Drift}
use Rattle.apply_prior.specs.declared.planned_output.PlannedOutput.{PlannedOutput}
use Rattle.apply_planning.specs.declared.told.Told.{Told}
use Rattle.apply_text_terraform.specs.Lines.{message_line, version_text}
use Rattle.apply_text_planning.specs.declared.plan_totals.PlanTotals.{PlanTotals}
use Rattle.apply_text_planning.specs.Lines.{command_text}
use Rattle.apply_text_planning.specs.Message.{drift_message, plan_outputs_message, plan_summary_message, read_complete_message, read_progress_message, read_start_message, refresh_complete_message, refresh_start_message}
use Rattle.apply_command.specs.declared.head_line.HeadLine.{HeadLine}
use Rattle.apply_command.specs.declared.head_line.HeadLine.TheVariants as line

-- ---- one line

-- the line of an event of an object that is refreshed; empty where it has none
abbrev pub refresh_text : (seconds : ℕ) → Told → What → List ℕ
refresh_text seconds told Start = message_line seconds (refresh_start_message told.object told.id_before)
refresh_text seconds told (Progress elapsed) = []
refresh_text seconds told (Complete elapsed) = message_line seconds (refresh_complete_message told.object told.id_after)
refresh_text seconds told (Errored elapsed) = []
refresh_text seconds told ErrorNote = []
refresh_text seconds told WarnNote = []
refresh_text seconds told (Halted phase hook) = []
refresh_text seconds told (ProvisionStart i) = []
refresh_text seconds told (ProvisionOutput i n) = []
refresh_text seconds told (ProvisionComplete i) = []
refresh_text seconds told (ProvisionErrored i) = []

-- the line of an event of a data source that is read; empty where it has none
abbrev pub read_text : (seconds : ℕ) → Told → What → List ℕ
read_text seconds told Start = message_line seconds (read_start_message told.object)
read_text seconds told (Progress elapsed) = message_line seconds (read_progress_message told.object elapsed)
read_text seconds told (Complete elapsed) = message_line seconds (read_complete_message told.object elapsed told.id_after)
read_text seconds told (Errored elapsed) = []
read_text seconds told ErrorNote = []
read_text seconds told WarnNote = []
read_text seconds told (Halted phase hook) = []
read_text seconds told (ProvisionStart i) = []
read_text seconds told (ProvisionOutput i n) = []
read_text seconds told (ProvisionComplete i) = []
read_text seconds told (ProvisionErrored i) = []

abbrev pub told_text : Mode → (seconds : ℕ) → Told → What → List ℕ
told_text Managed seconds told what = refresh_text seconds told what
told_text DataSource seconds told what = read_text seconds told what

-- the line of an event of the planning
abbrev pub event_text : (start : ℕ) → List Told → Event → List ℕ
event_text start told event =
    option_map_or (λ (t : Told). told_text t.object.mode (start + event.at) t event.what) (slice_get told event.change) []

-- what the lines are made of
pub record HeadInputs : Type 0 where
  pub plan : SavedPlan
  pub details : List ChangeDetails
  pub drifts : List Drift
  pub outputs : List PlannedOutput
  pub told : List Told
  pub totals : PlanTotals
  -- when the planning begins, in seconds from 1970, and how long it takes
  pub start : ℕ
  pub took : ℕ

-- the line of a planned change, by its number; empty where it has none
abbrev pub planned_at : HeadInputs → ℕ → List ℕ
planned_at inputs number =
    option_map_or (λ change.
    option_map_or (λ details. command_text (inputs.start + inputs.took) change details)
    (slice_get inputs.details number) [])
    (slice_get inputs.plan.changes number) []

abbrev pub drift_at : HeadInputs → ℕ → List ℕ
drift_at inputs number =
    option_map_or (λ (drift : Drift). message_line (inputs.start + inputs.took) (drift_message drift.change drift.details))
    (slice_get inputs.drifts number) []

abbrev pub line_text : HeadInputs → HeadLine → List ℕ
line_text inputs line.Version = version_text inputs.plan inputs.start
line_text inputs (line.Planning event) = event_text inputs.start inputs.told event
line_text inputs (line.Drift number) = drift_at inputs number
line_text inputs (line.Planned number) = planned_at inputs number
line_text inputs line.Summary = message_line (inputs.start + inputs.took) (plan_summary_message inputs.totals)
line_text inputs line.Outputs = message_line (inputs.start + inputs.took) (plan_outputs_message inputs.outputs)

-- ---- which lines

-- there are none
abbrev pub is_none : {X : Type 0} → List X → Bool
is_none [] = true
is_none (x ∷ xs) = false

-- the sums, and the outputs where there are some
abbrev pub sums : List PlannedOutput → List HeadLine
sums [] = line.Summary ∷ []
sums (output ∷ outputs) = line.Summary ∷ line.Outputs ∷ []

-- the plan: drifts and planned changes by their numbers, then the sums; nothing where it is not told
abbrev pub plan_lines : (is_told : Bool) → (drifts changes : List ℕ) → List PlannedOutput → List HeadLine
plan_lines is_told drifts changes outputs =
    if is_told then map line.Drift drifts ++ map line.Planned changes ++ sums outputs else []

-- the version, the planning, the plan
abbrev pub head_lines : (events : List Event) → (plan : List HeadLine) → List HeadLine
head_lines events plan = line.Version ∷ map line.Planning events ++ plan

-- the bytes before the apply
abbrev pub head_text : HeadInputs → List HeadLine → List ℕ
head_text inputs lines = flat_map (line_text inputs) lines
