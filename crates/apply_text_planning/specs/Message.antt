-- The messages about a planning and about a plan (Machine-Readable UI).
use Rattle.std.specs.Prelude.{ℕ, List, [], ◌++◌, codes, decimal, length, ◌==◌, if◌then◌else◌, Option, Some, None}
use Rattle.serde_json.specs.Data.{object}
use Rattle.apply_model.specs.declared.details.change_details.ChangeDetails.{ChangeDetails}
use Rattle.apply_model.specs.declared.plan.step_kind.StepKind.TheVariants.{Read}
use Rattle.apply_model.specs.Plan.ResourceChange.{ResourceChange}
use Rattle.apply_prior.specs.declared.planned_output.PlannedOutput.{PlannedOutput}
use Rattle.apply_text.specs.Message.{Message, complete_message, id_suffix, progress_message, start_message}
use Rattle.apply_text_terraform.specs.Message.{with_body}
use Rattle.apply_text_terraform.specs.Objects.{hook_object}
use Rattle.apply_text_planning.specs.declared.plan_totals.PlanTotals.{PlanTotals}
use Rattle.apply_text_planning.specs.Objects.{drift_object, output_members, plan_changes_object, refresh_object}
use Rattle.apply_text_planning.specs.Words.{drift_word}

-- ---- refreshes

-- a message about the refresh of an object, with the object's id where given
abbrev pub refresh_message : ResourceChange → (words : List ℕ) → (id : Option (List ℕ)) → (type_name : List ℕ) → Message
refresh_message change words id type_name = record {
  level = codes "info";
  text = change.address ++ (codes ": " ++ (words ++ id_suffix id));
  name = codes "hook";
  body = refresh_object change id;
  type_name = type_name;
}

abbrev pub refresh_start_message : ResourceChange → (id : Option (List ℕ)) → Message
refresh_start_message change id = refresh_message change (codes "Refreshing state...") id (codes "refresh_start")

abbrev pub refresh_complete_message : ResourceChange → (id : Option (List ℕ)) → Message
refresh_complete_message change id = refresh_message change (codes "Refresh complete") id (codes "refresh_complete")

-- ---- reads of data sources: the messages of a step that reads

-- the start of a read shows no id
abbrev pub read_start_message : ResourceChange → Message
read_start_message change = with_body (start_message change Read None) (hook_object change Read None None)

abbrev pub read_progress_message : ResourceChange → (seconds : ℕ) → Message
read_progress_message change seconds =
    with_body (progress_message change Read seconds) (hook_object change Read (Some seconds) None)

abbrev pub read_complete_message : ResourceChange → (seconds : ℕ) → (id : Option (List ℕ)) → Message
read_complete_message change seconds id =
    with_body (complete_message change Read seconds id) (hook_object change Read (Some seconds) id)

-- ---- drift

-- how an object has changed outside of Terraform
abbrev pub drift_message : ResourceChange → ChangeDetails → Message
drift_message change details = record {
  level = codes "info";
  text = change.address ++ (codes ": Drift detected (" ++ (drift_word change.steps details.forgets ++ codes ")"));
  name = codes "change";
  body = drift_object change (drift_word change.steps details.forgets) details.previous;
  type_name = codes "resource_drift";
}

-- ---- the plan as a whole

-- the part of the summary about imports; empty where there are none
abbrev pub to_import_text : (imported : ℕ) → List ℕ
to_import_text imported = if imported == 0 then [] else (decimal imported ++ codes " to import, ")

-- the summary of what is planned
abbrev pub plan_summary_message : PlanTotals → Message
plan_summary_message totals = record {
  level = codes "info";
  text =
      codes "Plan: " ++ (to_import_text totals.imported ++ (decimal totals.added ++ (codes " to add, "
      ++ (decimal totals.changed ++ (codes " to change, " ++ (decimal totals.removed ++ codes " to destroy."))))));
  name = codes "changes";
  body = plan_changes_object totals;
  type_name = codes "change_summary";
}

-- the planned changes of outputs, in this order
abbrev pub plan_outputs_message : List PlannedOutput → Message
plan_outputs_message outputs = record {
  level = codes "info";
  text = codes "Outputs: " ++ decimal (length outputs);
  name = codes "outputs";
  body = object (output_members outputs);
  type_name = codes "outputs";
}
