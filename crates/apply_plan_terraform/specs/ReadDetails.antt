-- What only Terraform's form needs of a saved plan.
use Rattle.std.specs.Prelude.{ℕ, List, Option, Some}
use Rattle.serde_json.specs.Read.{of_json}
use Rattle.apply_json.specs.Tree.{◌>>=◌}
use Rattle.apply_model.specs.declared.details.change_details.ChangeDetails.{ChangeDetails}
use Rattle.apply_plan_terraform.specs.declared.plan_notes.PlanNote.{PlanNote}
use Rattle.apply_plan_terraform.specs.declared.details.Details.{Details}
use Rattle.apply_plan_terraform.specs.declared.texts.part.Part.TheVariants as part
use Rattle.apply_plan_terraform.specs.Changes.{changes_of}
use Rattle.apply_plan_terraform.specs.Outputs.{OutputsOfPlan, outputs_of_plan, outputs_view}
use Rattle.apply_plan_terraform.specs.Plan.{note_of}
use Rattle.apply_plan_terraform.specs.Texts.{json_of, with_texts}

-- the details of the elements, the note about the plan, and the outputs
pub record DetailsOfPlan : Type 0 where
  pub changes : List ChangeDetails
  pub note : Option PlanNote
  pub outputs : OutputsOfPlan

-- what the bytes of a plan give; nothing where they are no JSON
abbrev pub details_of : List ℕ → Option DetailsOfPlan
details_of bytes =
    json_of bytes >>= λ j. (of_json j >>= λ whole. Some (record {
      changes = changes_of whole;
      note = note_of whole;
      outputs = outputs_of_plan (with_texts part.Plan j);
    }))

-- what the code's value of these stands for
abbrev pub details_view : Details → DetailsOfPlan
details_view details = record { changes = details.plan.changes.items; note = details.plan.note; outputs = outputs_view details.outputs }
