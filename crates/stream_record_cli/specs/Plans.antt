-- What is read of a plan.
use Rattle.std.specs.Prelude.{◌≡◌, ⊤, ℕ, List, Option, Some, Err}
use Rattle.apply_plan.specs.Plan.SavedPlan.{plan_of}
use Rattle.apply_plan_terraform.specs.Outputs.{OutputsOfPlan}
use Rattle.apply_plan_terraform.specs.ReadDetails.{DetailsOfPlan, details_of}
use Rattle.apply_plan_terraform.specs.declared.plan_notes.PlanNote.{PlanNote}
use Rattle.stream_record_cli.specs.declared.record_fault.RecordFault.{RecordFault}
use Rattle.stream_record_cli.specs.declared.record_fault.RecordFault.TheVariants as fault

-- A run refuses the plan for this cause, or memory was refused.
abbrev pub IsPlanFault : (bytes : List ℕ) → RecordFault → Type 0
IsPlanFault bytes (fault.Input why) = ⊥
IsPlanFault bytes (fault.Plan why) = plan_of bytes ≡ Err why
IsPlanFault bytes (fault.Graph why) = ⊥
IsPlanFault bytes (fault.Stream why) = ⊥
IsPlanFault bytes (fault.NoRun missing) = ⊥
IsPlanFault bytes fault.TooLarge = ⊥
IsPlanFault bytes fault.Memory = ⊤
IsPlanFault bytes fault.Gone = ⊥
IsPlanFault bytes fault.Unwritten = ⊥

-- The plan has this note about the whole of it, and these outputs.
pub record HasDetails (bytes : List ℕ) (note : Option PlanNote) (outputs : OutputsOfPlan) : Type 0 where
  pub details : DetailsOfPlan
  pub read : details_of bytes ≡ Some details
  pub note_is : note ≡ details.note
  pub outputs_are : outputs ≡ details.outputs
