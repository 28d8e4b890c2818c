use Rattle.std.proofs.Common.{◌+◌, ◌<◌, ◌≤◌, sym, arith}
use Rattle.apply_model.specs.Script.Limits.{max_seconds}
use Rattle.apply_plan.proofs.Scripts.RawSteps.{all_raw_seconds, in_tree, more_raw_seconds, not_too_long, too_long, raw_seconds}
use Rattle.apply_plan.proofs.script.raw_outcome.RawOutcome.is_too_long.Goals as goal

pub returns-then-provisioner-left : goal.returns-then-provisioner-left
returns-then-provisioner-left c =
    let within = in_tree c.deref-provisioner-items.result.now c.loop-provisioner.provisioner-index c.provisioner-item.result c.loop-provisioner-test.true c.provisioner-item.is in
    let over : max_seconds < c.args.self.now.seconds + raw_seconds c.deref-provisioner-items.result.now = omega (arith, within, c.loop-provisioner.invariant, c.if-provisioner-left.true) in
    sym (too_long c.args.self.now (rw c.deref-provisioner-items.ensures.value at over))

pub loop-provisioner-preserved : goal.loop-provisioner-preserved
loop-provisioner-preserved c =
    let more = more_raw_seconds c.deref-provisioner-items.result.now c.loop-provisioner.provisioner-index c.provisioner-item.result c.loop-provisioner-test.true c.provisioner-item.is in
    omega (arith, more, c.loop-provisioner.invariant, c.if-provisioner-left.false)

pub returns : goal.returns
returns c =
    let all = all_raw_seconds c.deref-provisioner-items.result.now c.loop-provisioner.provisioner-index c.loop-provisioner-test.false in
    let under : c.args.self.now.seconds + raw_seconds c.deref-provisioner-items.result.now ≤ max_seconds = omega (arith, all, c.loop-provisioner.invariant) in
    sym (not_too_long c.args.self.now (rw c.deref-provisioner-items.ensures.value at under))
