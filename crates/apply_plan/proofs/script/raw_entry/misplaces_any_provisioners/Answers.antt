use Rattle.apply_plan.specs.Script.Refusals.{misplaces_provisioners}
use Rattle.apply_plan.proofs.Scripts.Refusals.{none_of_all_passes, one_passes, still_none_passes}
use Rattle.apply_plan.proofs.script.raw_entry.misplaces_any_provisioners.Goals as goal

pub returns-then-misplaces_provisioners : goal.returns-then-misplaces_provisioners
returns-then-misplaces_provisioners c =
    one_passes (misplaces_provisioners c.args.is_deposed) c.args.kinds.now c.args.steps.now c.loop-number.number _ c.index-steps-number.result c.requires c.loop-number-test.true c.index-steps-number.is c.if-misplaces_provisioners.ensures

pub loop-number-preserved : goal.loop-number-preserved
loop-number-preserved c =
    still_none_passes (misplaces_provisioners c.args.is_deposed) c.args.kinds.now c.args.steps.now c.loop-number.number _ c.index-steps-number.result c.requires c.loop-number-test.true c.index-steps-number.is c.if-misplaces_provisioners.ensures
    c.loop-number.invariant

pub returns : goal.returns
returns c = none_of_all_passes (misplaces_provisioners c.args.is_deposed) c.args.kinds.now c.args.steps.now c.loop-number.number c.requires c.loop-number-test.false c.loop-number.invariant
