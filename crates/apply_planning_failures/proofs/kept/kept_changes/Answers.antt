use Rattle.std.proofs.Common.{◌<◌, ◌++◌, Bool, [], ◌∷◌, append-nil, if◌then◌else◌, length, sym, ap, ◌∙◌, arith}
use Rattle.apply_planning_failures.proofs.ToldChanges.{kept_all, numbers_after}
use Rattle.apply_planning_failures.proofs.kept.kept_changes.Goals as goal
use Rattle.apply_planning_failures.proofs.kept.kept_changes.Goals.{then-is_kept+in_ok-push, else-is_kept}

pub loop-number-preserved : goal.loop-number-preserved
loop-number-preserved c failed planning has =
    let n = c.loop-number.number in
    let numbers = c.loop-number.numbers.items in
    let few : n < length c.args.plan.now.changes = omega (arith, c.len-number-end.ensures.len, c.loop-number-test.true) in
    let next = numbers_after failed planning c.args.plan.now.changes n c.change.result.now c.is_kept.result numbers c.if-is_kept.numbers.items few (sym c.change.ensures) (c.is_kept.ensures failed planning has) (c.loop-number.invariant failed planning has) in
    let grown = λ (b : Bool). numbers ++ (if b then n ∷ [] else []) in
    elim c.if-is_kept.branch [
      | then-is_kept+in_ok-push w ↦ next (ap (λ v. v.items) w.numbers-is ∙ w.in_ok-push.ensures.items ∙ ap grown (sym w.if-is_kept.true))
      | else-is_kept w ↦ next (ap (λ v. v.items) w.numbers-is ∙ sym (append-nil numbers) ∙ ap grown (sym w.if-is_kept.false))
    ]

pub returns : goal.returns
returns c failed planning has =
    c.loop-number.invariant failed planning has ∙ kept_all failed planning c.args.plan.now.changes c.loop-number.number (omega (arith, c.len-number-end.ensures.len, c.loop-number-test.false))
