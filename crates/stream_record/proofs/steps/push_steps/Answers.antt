use Rattle.std.proofs.Common.{arith}
use Rattle.std.specs.Prelude.{codes}
use Rattle.stream_record.specs.ScriptText.{step_text, steps_text}
use Rattle.stream_record.proofs.Items.{drop_item, list_ended, list_pushed}
use Rattle.stream_record.proofs.steps.push_steps.Goals as goal

pub loop-number-preserved : goal.loop-number-preserved
loop-number-preserved c =
    list_pushed (codes ",\"steps\":[") (codes "]") (step_text c.args.plan.now.changes) c.args.steps.now c.loop-number.number c.loop-number.later
    (steps_text c.args.plan.now.changes c.args.steps.now) _ _ c.loop-number.text c.push_opening.new.text c.push_step.new.text
    (drop_item c.args.steps.now c.loop-number.number c.step_at-step.result.now c.step_at-step.ensures) c.loop-number.invariant c.push_opening.ensures c.push_step.ensures

pub returns : goal.returns
returns c =
    list_ended (codes ",\"steps\":[") (codes "]") (step_text c.args.plan.now.changes) c.args.steps.now c.loop-number.number c.loop-number.later
    (steps_text c.args.plan.now.changes c.args.steps.now) _ c.loop-number.text c.push_closing.new.text
    (omega (arith, c.len-number-end.ensures, c.loop-number-test.false)) c.loop-number.invariant c.push_closing.ensures
