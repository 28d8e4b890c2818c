use Rattle.std.proofs.Common.{◌+◌, sym, ap, ◌∙◌}
use Rattle.std.proofs.lemmas.List.Sums.{count_by_more_no, count_by_more_yes}
use Rattle.apply_model.specs.Plan.StepKind.{is_kind}
use Rattle.apply_text_planning.proofs.plan_totals.count_of.Goals as goal
use Rattle.apply_text_planning.proofs.plan_totals.count_of.Goals.{then-is_kind, else-is_kind}

pub loop-step-preserved : goal.loop-step-preserved
loop-step-preserved c =
    let same = is_kind c.args.kind in
    let steps = c.args.steps.now in
    let i = c.loop-step.step-index in
    elim c.if-is_kind.branch [
      | then-is_kind w ↦ w.count-is ∙ ap (λ n. n + 1) c.loop-step.invariant ∙ sym (count_by_more_yes same steps i _ c.loop-step-test.true (sym c.is_kind.ensures ∙ w.if-is_kind.true))
      | else-is_kind w ↦ w.count-is ∙ c.loop-step.invariant ∙ sym (count_by_more_no same steps i _ c.loop-step-test.true (sym c.is_kind.ensures ∙ w.if-is_kind.false))
    ]
