-- A saved plan (JSON Output Format, "Plan Representation").
use Rattle.std.specs.Prelude.{ℕ, List}
use Rattle.apply_model.specs.Plan.ResourceChange.{ResourceChange}

-- A saved plan.
pub record SavedPlan : Type 0 where
  -- The version of Terraform that made the plan.
  pub version : List ℕ
  pub changes : List ResourceChange

-- The most changes of a plan.
abbrev pub max_changes : ℕ
max_changes = 10000
