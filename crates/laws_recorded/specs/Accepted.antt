-- Scripts that a run accepts.
use Rattle.std.specs.Prelude.{◌≡◌, ℕ, List, Ok, Some}
use Rattle.apply_model.specs.Plan.SavedPlan.{SavedPlan}
use Rattle.apply_model.specs.Script.OutcomeMap.{OutcomeMap}
use Rattle.apply_plan.specs.Plan.SavedPlan.{plan_of}
use Rattle.apply_plan.specs.Script.OutcomeMap.{script_of}
use Rattle.apply_plan_terraform.specs.Extras.{ExtrasOfScript, extras_of_bytes}
use Rattle.apply_plan_terraform.specs.ReadDetails.{DetailsOfPlan, details_of}

-- A run of the plan accepts the script, in both forms. `plan` and `text` are the bytes of the two.
-- Terraform's form also reads the outputs, and the diagnostics of no step.
pub record IsAccepted (plan text : List ℕ) : Type 0 where
  pub saved : SavedPlan
  pub plan_read : plan_of plan ≡ Ok saved
  pub steps : OutcomeMap
  pub steps_read : script_of saved text ≡ Ok steps
  pub details : DetailsOfPlan
  pub details_read : details_of plan ≡ Some details
  pub extras : ExtrasOfScript
  pub extras_read : extras_of_bytes details.outputs text ≡ Ok extras
