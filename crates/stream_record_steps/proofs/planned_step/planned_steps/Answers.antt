use Rattle.stream_record_steps.proofs.PlanSteps.{change_pushed}
use Rattle.stream_record_steps.proofs.planned_step.planned_steps.Goals as goal

pub loop-change_number-preserved : goal.loop-change_number-preserved
loop-change_number-preserved c =
    change_pushed c.args.plan.now.changes c.loop-change_number.change_number c.loop-change_number.steps.items c.push_steps.new.steps.items _ c.change.result.now
    c.change.ensures c.in_ok-push_steps.ensures c.loop-change_number.invariant
