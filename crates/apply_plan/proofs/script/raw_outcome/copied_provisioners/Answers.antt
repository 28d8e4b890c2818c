use Rattle.apply_model.specs.Script.Outcome.{IsSmall}
use Rattle.apply_plan.specs.Script.RawView.{provisioner_view}
use Rattle.apply_plan.proofs.Scripts.Limits.{all_seen}
use Rattle.apply_plan.proofs.Scripts.ValidItems.{copied_more}
use Rattle.apply_plan.proofs.script.raw_outcome.copied_provisioners.Goals as goal

pub copied-requires : goal.copied-requires
copied-requires c = all_seen IsSmall provisioner_view c.args.tree.now c.loop-provisioner.provisioner-index c.provisioner-item.result c.requires.small c.loop-provisioner-test.true c.provisioner-item.is

pub loop-provisioner-preserved : goal.loop-provisioner-preserved
loop-provisioner-preserved c =
    rw (c.in_ok-push.ensures.items, c.in_ok-copied.ensures)
    (copied_more provisioner_view c.loop-provisioner.provisioners.items c.args.tree.now c.loop-provisioner.provisioner-index c.provisioner-item.result c.loop-provisioner-test.true c.provisioner-item.is c.loop-provisioner.invariant)
