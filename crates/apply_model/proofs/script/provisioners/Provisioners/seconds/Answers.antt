use Rattle.std.proofs.Common.{◌≡◌, ap, sym, arith}
use Rattle.apply_model.specs.Script.Outcome.{ran, seconds_of_all}
use Rattle.apply_model.proofs.Scripts.Provisioners.{last_seconds, more_seconds, no_seconds, within_all}
use Rattle.apply_model.proofs.script.provisioners.Provisioners.seconds.Goals as goal

pub overflow_add-seconds : goal.overflow_add-seconds
overflow_add-seconds c =
    let same : c.deref-provisioner-items.result.now ≡ c.args.self.now = cc (c.deref-provisioner-items.ensures.value) in
    let within = within_all c.deref-provisioner-items.result.now c.loop-provisioner.provisioner-index c.provisioner-item.result c.loop-provisioner-test.true c.provisioner-item.is in
    omega (arith, within, c.loop-provisioner.invariant, ap (λ ps. seconds_of_all (ran ps)) same, c.requires)

pub returns-then-makes_fail : goal.returns-then-makes_fail
returns-then-makes_fail c =
    let same : c.deref-provisioner-items.result.now ≡ c.args.self.now = cc (c.deref-provisioner-items.ensures.value) in
    let last = last_seconds c.deref-provisioner-items.result.now c.loop-provisioner.provisioner-index c.provisioner-item.result c.loop-provisioner-test.true c.provisioner-item.is (sym c.if-makes_fail.ensures) in
    omega (arith, last, c.loop-provisioner.invariant, ap (λ ps. seconds_of_all (ran ps)) same)

pub loop-provisioner-preserved : goal.loop-provisioner-preserved
loop-provisioner-preserved c =
    let more = more_seconds c.deref-provisioner-items.result.now c.loop-provisioner.provisioner-index c.provisioner-item.result c.loop-provisioner-test.true c.provisioner-item.is (sym c.if-makes_fail.ensures) in
    omega (arith, more, c.loop-provisioner.invariant)

pub returns : goal.returns
returns c =
    let same : c.deref-provisioner-items.result.now ≡ c.args.self.now = cc (c.deref-provisioner-items.ensures.value) in
    let none = no_seconds c.deref-provisioner-items.result.now c.loop-provisioner.provisioner-index c.loop-provisioner-test.false in
    omega (arith, none, c.loop-provisioner.invariant, ap (λ ps. seconds_of_all (ran ps)) same)
