-- The lines of a command, for the types that build them.
use Rattle.std.specs.Prelude.{ℕ, List, if◌then◌else◌}
use Rattle.apply_model.specs.Plan.SavedPlan.{SavedPlan}
use Rattle.apply_model.specs.Script.OutcomeMap.{OutcomeMap}
use Rattle.apply_events.specs.Waits.Merging.{time_line}
use Rattle.apply_planning.specs.PlanningWork.{planning_work}
use Rattle.apply_text.specs.declared.operation.Operation.{Operation}
use Rattle.apply_command.specs.declared.command_head.CommandHead.{CommandHead}
use Rattle.apply_command.specs.declared.head_line.HeadLine.{HeadLine}
use Rattle.apply_command.specs.declared.prepared.Prepared.{Prepared}
use Rattle.apply_command.specs.Form.{command_form}
use Rattle.apply_command.specs.Head.{HeadInputs, head_lines}
use Rattle.apply_writer.specs.Stream.Form.{StreamForm}
use Rattle.apply_writer.specs.declared.forms.terraform_extras.TerraformExtras.{TerraformExtras}
use Rattle.apply_writer.specs.Stream.Terraform.{StreamExtras}

-- what the lines before an apply are made of
abbrev pub head_view : CommandHead → HeadInputs
head_view head = record {
  plan = head.plan.now;
  details = head.details.now;
  drifts = head.drifts.now;
  outputs = head.outputs.now;
  told = head.told.now;
  totals = head.totals;
  start = head.start;
  took = head.took;
}

-- what the stream shows beyond the steps
abbrev pub extras_view : TerraformExtras → StreamExtras
extras_view extras = record { details = extras.details.now; notes = extras.notes.now; outputs = extras.outputs.now }

-- ---- what was prepared

abbrev pub prepared_head : Prepared → (start : ℕ) → HeadInputs
prepared_head prepared start = record {
  plan = prepared.plan;
  details = prepared.details.items;
  drifts = prepared.drifts.items;
  outputs = prepared.planned_outputs.items;
  told = prepared.told.items;
  totals = prepared.totals;
  start = start;
  took = prepared.took;
}

-- the plan that is applied, and the script for it
abbrev pub prepared_plan : Prepared → SavedPlan
prepared_plan prepared = if prepared.applies then prepared.plan else prepared.no_changes

abbrev pub prepared_script : Prepared → OutcomeMap
prepared_script prepared = if prepared.applies then prepared.script else prepared.no_script

abbrev pub prepared_extras : Prepared → StreamExtras
prepared_extras prepared = record { details = prepared.details.items; notes = prepared.notes.items; outputs = prepared.outputs.items }

-- the lines before the apply
abbrev pub prepared_lines : Prepared → List HeadLine
prepared_lines prepared = head_lines (time_line (planning_work prepared.told.items) prepared.lanes) prepared.plan_lines.items

-- the stream of a command that plans
abbrev pub prepared_form : Prepared → (start : ℕ) → Operation → StreamForm
prepared_form prepared start operation =
    command_form (prepared_head prepared start) (prepared_lines prepared) prepared.applies (prepared_plan prepared) (prepared_script prepared)
    (prepared_extras prepared) operation
