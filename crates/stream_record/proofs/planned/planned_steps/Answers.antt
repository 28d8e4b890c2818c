use Rattle.std.proofs.Common.{◌∙◌, ap}
use Rattle.stream_record.proofs.EvenSteps.{planned_more}
use Rattle.std.proofs.Common.{◌++◌}
use Rattle.stream_record.specs.EvenScript.{steps_from}
use Rattle.stream_record.proofs.planned.planned_steps.Goals as goal

pub loop-number-preserved : goal.loop-number-preserved
loop-number-preserved c =
    let number = c.loop-number.number in
    let before = c.loop-number.steps.items in
    planned_more c.args.plan.now.changes number c.change.result.now before c.push_steps.new.steps.items _
    c.change.ensures (c.in_ok-push_steps.ensures ∙ ap (λ kinds. before ++ steps_from number 0 kinds) c.steps.ensures.steps) c.loop-number.invariant
