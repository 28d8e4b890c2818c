-- Totals of planned changes that are counted one after another.
use Rattle.std.proofs.Common.{◌≡◌, ℕ, ◌≤◌, List, ◌++◌, cond, arith}
use Rattle.std.specs.Prelude.{count_by, is_some}
use Rattle.std.proofs.lemmas.List.Sums.{sum_by-append}
use Rattle.apply_model.specs.declared.details.change_details.ChangeDetails.{ChangeDetails}
use Rattle.apply_model.specs.declared.plan.step_kind.StepKind.{StepKind}
use Rattle.apply_model.specs.declared.plan.step_kind.StepKind.TheVariants.{Create, Update, Delete}
use Rattle.apply_model.specs.Plan.ResourceChange.{ResourceChange}
use Rattle.apply_model.specs.Plan.StepKind.{is_kind}
use Rattle.apply_text_planning.specs.declared.plan_totals.PlanTotals.{PlanTotals}
use Rattle.apply_text_planning.specs.Totals.{IsAtMost, planned_totals, plus}

-- the totals of two lists, one after the other, are the sums of their totals
pub totals_join : (first second : List (ResourceChange × ChangeDetails)) → planned_totals (first ++ second) ≡ plus (planned_totals first) (planned_totals second)
totals_join first second =
    let steps = λ (kind : StepKind) (p : ResourceChange × ChangeDetails). count_by (is_kind kind) p.0.steps in
    cc (
      sum_by-append (steps Create) first second,
      sum_by-append (steps Update) first second,
      sum_by-append (steps Delete) first second,
      sum_by-append (λ (p : ResourceChange × ChangeDetails). cond (is_some p.1.importing) 1 0) first second,
    )

-- a greater limit holds too
pub at_most_more : (limit more : ℕ) (totals : PlanTotals) → limit ≤ more → IsAtMost limit totals → IsAtMost more totals
at_most_more limit more totals within few = record {
  added = omega (arith, few.added);
  changed = omega (arith, few.changed);
  removed = omega (arith, few.removed);
  imported = omega (arith, few.imported);
}
