use Rattle.std.proofs.Common.{◌<◌, ◌≤◌, ◌+◌, ◌*◌, length, sym, ap, ◌∙◌, arith}
use Rattle.std.specs.List.{filter_map}
use Rattle.std.specs.Option.{option_copied}
use Rattle.apply_text_planning.proofs.Totals.{at_most_more, totals_join}
use Rattle.apply_text_planning.specs.declared.plan_totals.PlanTotals.{PlanTotals}
use Rattle.apply_text_planning.specs.Totals.{planned_totals, plus}
use Rattle.apply_planning_failures.specs.PlansPart.{details_at, told_with}
use Rattle.apply_planning_failures.proofs.Items.{got}
use Rattle.apply_planning_failures.proofs.ToldChanges.{first_kept, kept_all, told_more}
use Rattle.apply_planning_failures.proofs.kept.totals_of.Goals as goal

pub loop-number-preserved : goal.loop-number-preserved
loop-number-preserved c =
    let changes = c.args.plan.now.changes in
    let details = c.args.details.now in
    let n = c.loop-number.number in
    let few : n < length changes = omega (arith, c.len-number-end.ensures.len, c.loop-number-test.true) in
    let one = c.change-change.result.now in
    let with = option_copied c.get.result in
    let told = told_with c.is_kept-is_told.result one with in
    let within : n * 2 + 2 ≤ (n + 1) * 2 = omega arith in (
      at_most_more (n * 2 + 2) ((n + 1) * 2) c.count_if.new.totals within (c.count_if.ensures.few (n * 2) c.loop-number.invariant.0),
      λ failed planning has.
          let before = filter_map (details_at changes details) (first_kept failed planning changes n) in
          c.count_if.ensures.counted
          ∙ ap (λ (t : PlanTotals). plus t (planned_totals told)) (c.loop-number.invariant.1 failed planning has)
          ∙ sym (totals_join before told)
          ∙ sym (ap planned_totals (told_more failed planning changes details n one c.is_kept-is_told.result with few (sym c.change-change.ensures) (sym (got details n c.get.result c.get.ensures.lookup)) (c.is_kept-is_told.ensures failed planning has))),
    )

pub returns : goal.returns
returns c failed planning has =
    let changes = c.args.plan.now.changes in
    c.loop-number.invariant.1 failed planning has
    ∙ ap (λ numbers. planned_totals (filter_map (details_at changes c.args.details.now) numbers))
    (kept_all failed planning changes c.loop-number.number (omega (arith, c.len-number-end.ensures.len, c.loop-number-test.false)))
