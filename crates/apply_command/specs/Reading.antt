-- How a command reads its inputs, and what it prints and applies of them.
use Rattle.std.specs.Prelude.{◌≡◌, ◌⊎◌, ℕ, List, [], map, Bool, true, false, ◌&&◌, IsTrue, if◌then◌else◌, Option, Some, Result, Ok, Err}
use Rattle.std.specs.List.{filter_map}
use Rattle.apply_model.specs.declared.details.note.Note.{Note}
use Rattle.apply_model.specs.Plan.SavedPlan.{SavedPlan}
use Rattle.apply_model.specs.Script.OutcomeMap.{OutcomeMap}
use Rattle.apply_plan.specs.declared.script.script_error.ScriptError.{ScriptError}
use Rattle.apply_plan_terraform.specs.declared.plan_notes.PlanNote.{PlanNote}
use Rattle.apply_plan_terraform.specs.Outputs.{written_outputs}
use Rattle.apply_events.specs.Waits.Merging.{time_line}
use Rattle.apply_prior.specs.declared.drift.Drift.{Drift}
use Rattle.apply_prior.specs.declared.planned_output.PlannedOutput.{PlannedOutput}
use Rattle.apply_prior.specs.declared.prior.Prior.{Prior}
use Rattle.apply_prior.specs.Prior.{prior_of, prior_view}
use Rattle.apply_planning.specs.declared.told.Told.{Told}
use Rattle.apply_planning.specs.PlanningWork.{planning_work}
use Rattle.apply_planning.specs.Schedule.{last_second}
use Rattle.apply_planning_script.specs.declared.rules.PlanningRules.{PlanningRules}
use Rattle.apply_planning_script.specs.Told.{ToldObject, told_by_script, told_view}
use Rattle.apply_planning_failures.specs.Planning.{Planning, planning_notes}
use Rattle.apply_planning_failures.specs.PlansPart.{details_at, kept}
use Rattle.apply_text.specs.declared.operation.Operation.{Operation}
use Rattle.apply_text_terraform.specs.declared.command.Command.{Command}
use Rattle.apply_text_terraform.specs.declared.command.Command.TheVariants.{Saved, Plan, Apply, Destroy}
use Rattle.apply_text_planning.specs.Notes.{forgotten_in, forgotten_note_of}
use Rattle.apply_text_planning.specs.Totals.{planned_totals}
use Rattle.apply_command.specs.declared.head_line.HeadLine.{HeadLine}
use Rattle.apply_command.specs.Form.{command_form}
use Rattle.apply_command.specs.Head.{HeadInputs, head_lines, is_none, plan_lines}
use Rattle.apply_command.specs.Notes.{applies, command_notes, has_failed, is_partial, tells_plan}
use Rattle.apply_run.specs.declared.refusal.Refusal.{Refusal}
use Rattle.apply_run.specs.declared.refusal.Refusal.TheVariants as refusal
use Rattle.apply_run.specs.Bytes.{Inputs}
use Rattle.apply_run.specs.FromBytes.{Reading}
use Rattle.apply_run.specs.Read.{IsStated, StatedInputs, WasNotRead}
use Rattle.apply_writer.specs.Stream.Form.{StreamForm}
use Rattle.apply_writer.specs.Stream.Terraform.{StreamExtras, contains_error}

-- ---- what bytes state

-- what a command reads: the plan, the script and the extras of both, as of a saved plan; the drifts
-- and the planned changes of outputs; and the objects that the stream tells of
pub record CommandInputs : Type 0 where
  pub stated : StatedInputs
  pub drifts : List Drift
  pub outputs : List PlannedOutput
  pub told : List Told

-- it destroys all that there is
abbrev pub destroys : Command → Bool
destroys Saved = false
destroys Plan = false
destroys Apply = false
destroys Destroy = true

abbrev pub rules_of : Command → (refresh : Bool) → Option PlanNote → PlanningRules
rules_of command refresh note = record { destroys = destroys command; refreshes = refresh; is_partial = is_partial note }

-- the objects that a stream of the command tells of, by the script, are those, or the script is
-- refused for what it says of the planning
abbrev pub told_for : Command → (refresh : Bool) → StatedInputs → Prior → (script : Option (List ℕ)) → Result (List ToldObject) ScriptError
told_for command refresh stated prior script = told_by_script (rules_of command refresh stated.details.note)
    (record { changes = stated.plan.changes; details = stated.details.changes; drifts = prior.drifts.items }) prior.objects.items script

-- the bytes state these inputs
pub record AreStated (command : Command) (refresh : Bool) (given : Inputs) (read : CommandInputs) : Type 0 where
  pub stated : IsStated given.plan given.script read.stated
  pub prior : Prior
  pub prior_is : prior_of given.plan ≡ Some (prior_view prior)
  pub drifts_are : read.drifts ≡ prior.drifts.items
  pub outputs_are : read.outputs ≡ prior.outputs.items
  pub told_are : told_for command refresh read.stated prior given.script ≡ Ok (map told_view read.told)

-- what the script says of the planning is refused with this error
pub record IsMisplanned (command : Command) (refresh : Bool) (given : Inputs) (error : ScriptError) : Type 0 where
  pub stated : StatedInputs
  pub stated_is : IsStated given.plan given.script stated
  pub prior : Prior
  pub prior_is : prior_of given.plan ≡ Some (prior_view prior)
  pub refused : told_for command refresh stated prior given.script ≡ Err error

-- the plan, the script or its extras are refused as of a saved plan, else what the script says of
-- the planning
abbrev pub AreUnstated : Command → (refresh : Bool) → Inputs → Refusal → Type 0
AreUnstated command refresh given (refusal.Plan error) = WasNotRead given.plan given.script (refusal.Plan error)
AreUnstated command refresh given (refusal.Script error) =
    WasNotRead given.plan given.script (refusal.Script error) ⊎ IsMisplanned command refresh given error
AreUnstated command refresh given refusal.Waits = ⊥
AreUnstated command refresh given refusal.Size = ⊥
AreUnstated command refresh given (refusal.Fault fault) = ⊥

-- ---- what they come to

module _ (command : Command) (lanes : ℕ) (read : CommandInputs) where
  -- when the told objects are refreshed and read
  abbrev pub planning : Planning
  planning = record { told = read.told; events = time_line (planning_work read.told) lanes }

  abbrev pub failed : Bool
  failed = has_failed read.stated.details.note (planning_notes planning)

  abbrev pub is_applied : Bool
  is_applied = applies command failed

  -- the numbers of the changes and of the drifts that are told
  abbrev pub kept_changes : List ℕ
  kept_changes = kept failed planning read.stated.plan.changes

  abbrev pub kept_drifts : List ℕ
  kept_drifts = kept failed planning (map (λ drift. drift.change) read.drifts)

  -- what the lines before the apply are made of
  abbrev pub head_inputs : (start : ℕ) → HeadInputs
  head_inputs start = record {
    plan = read.stated.plan;
    details = read.stated.details.changes;
    drifts = read.drifts;
    outputs = read.outputs;
    told = read.told;
    totals = planned_totals (filter_map (details_at read.stated.plan.changes read.stated.details.changes) kept_changes);
    start = start;
    took = last_second planning.events;
  }

  -- and these lines
  abbrev pub lines : List HeadLine
  lines = head_lines planning.events
      (plan_lines (tells_plan command failed (planning_notes planning) (is_none read.stated.plan.changes && is_none read.outputs))
      kept_drifts kept_changes read.outputs)

  abbrev pub notes : List Note
  notes = command_notes is_applied read.stated.details.note (forgotten_note_of (forgotten_in read.stated.plan.changes read.stated.details.changes))
      (planning_notes planning) read.stated.extras.notes

  -- the plan that is applied: one without changes where none is
  abbrev pub applied_plan : SavedPlan
  applied_plan = if is_applied then read.stated.plan else record { version = read.stated.plan.version; changes = [] }

  abbrev pub applied_script : OutcomeMap
  applied_script = if is_applied then read.stated.script else []

  -- what the stream prints behind the head beyond the steps
  abbrev pub extras : StreamExtras
  extras = record {
    details = read.stated.details.changes;
    notes = notes;
    outputs = written_outputs read.stated.details.outputs read.stated.extras.outputs;
  }

  abbrev pub form : (start : ℕ) → Operation → StreamForm
  form start operation = command_form (head_inputs start) lines is_applied applied_plan applied_script extras operation

-- ---- the reading

-- a plan that the command makes itself
abbrev pub planned_reading : Command → (refresh : Bool) → (lanes : ℕ) → Reading
planned_reading command refresh lanes = record {
  Read = CommandInputs;
  IsRead = AreStated command refresh;
  IsUnread = AreUnstated command refresh;
  script = λ read. read.stated.script;
  work = λ given read. record { plan = applied_plan command lanes read; script = applied_script command lanes read; hooks = given.hooks };
  form = λ read. form command lanes read;
  notes = λ read. notes command lanes read;
  ReportsError = λ read counts. IsTrue (contains_error (notes command lanes read) counts);
}
