-- The totals of a plan.
use Rattle.std.specs.Prelude.{ℕ, ◌+◌, ◌≤◌, List, count_by, is_some}
use Rattle.std.specs.List.{sum_by}
use Rattle.apply_model.specs.declared.details.change_details.ChangeDetails.{ChangeDetails}
use Rattle.apply_model.specs.declared.plan.step_kind.StepKind.{StepKind}
use Rattle.apply_model.specs.declared.plan.step_kind.StepKind.TheVariants.{Create, Update, Delete}
use Rattle.apply_model.specs.Plan.ResourceChange.{ResourceChange}
use Rattle.apply_model.specs.Plan.StepKind.{is_kind}
use Rattle.apply_text_planning.specs.declared.plan_totals.PlanTotals.{PlanTotals}

-- how many steps of that kind some planned changes have
abbrev pub steps_of_kind : StepKind → List (ResourceChange × ChangeDetails) → ℕ
steps_of_kind kind planned = sum_by (λ (p : ResourceChange × ChangeDetails). count_by (is_kind kind) p.0.steps) planned

-- the totals of planned changes with their details: the steps of each kind, and the imports; a
-- replacement counts as a create and a delete, and a read as nothing
abbrev pub planned_totals : List (ResourceChange × ChangeDetails) → PlanTotals
planned_totals planned = record {
  added = steps_of_kind Create planned;
  changed = steps_of_kind Update planned;
  removed = steps_of_kind Delete planned;
  imported = count_by (λ (p : ResourceChange × ChangeDetails). is_some p.1.importing) planned;
}

-- the sums of the totals, number by number
abbrev pub plus : PlanTotals → PlanTotals → PlanTotals
plus first second = record {
  added = first.added + second.added;
  changed = first.changed + second.changed;
  removed = first.removed + second.removed;
  imported = first.imported + second.imported;
}

-- each of the totals is at most that number
pub record IsAtMost (limit : ℕ) (totals : PlanTotals) : Type 0 where
  pub added : totals.added ≤ limit
  pub changed : totals.changed ≤ limit
  pub removed : totals.removed ≤ limit
  pub imported : totals.imported ≤ limit
