use Rattle.apply_plan.specs.Script.Refusals.{warns_not_a_read}
use Rattle.apply_plan.proofs.Scripts.Refusals.{none_of_all_passes, one_passes, still_none_passes}
use Rattle.apply_plan.proofs.script.raw_entry.warns_any_not_a_read.Goals as goal

pub returns-then-warns_not_a_read : goal.returns-then-warns_not_a_read
returns-then-warns_not_a_read c =
    one_passes warns_not_a_read c.args.kinds.now c.args.steps.now c.loop-number.number _ c.index-steps-number.result c.requires c.loop-number-test.true c.index-steps-number.is (c.if-warns_not_a_read.ensures c.loop-number.number)

pub loop-number-preserved : goal.loop-number-preserved
loop-number-preserved c =
    still_none_passes warns_not_a_read c.args.kinds.now c.args.steps.now c.loop-number.number _ c.index-steps-number.result c.requires c.loop-number-test.true c.index-steps-number.is (c.if-warns_not_a_read.ensures c.loop-number.number)
    c.loop-number.invariant

pub returns : goal.returns
returns c = none_of_all_passes warns_not_a_read c.args.kinds.now c.args.steps.now c.loop-number.number c.requires c.loop-number-test.false c.loop-number.invariant
