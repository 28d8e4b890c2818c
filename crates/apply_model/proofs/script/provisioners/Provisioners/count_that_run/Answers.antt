use Rattle.std.proofs.Common.{◌≡◌, length, ap, sym, arith}
use Rattle.apply_model.specs.Script.Outcome.{ran}
use Rattle.apply_model.proofs.Scripts.Provisioners.{last_runs, more_run, none_runs}
use Rattle.apply_model.proofs.script.provisioners.Provisioners.count_that_run.Goals as goal

pub returns-then-makes_fail : goal.returns-then-makes_fail
returns-then-makes_fail c =
    let same : c.deref-provisioner-items.result.now ≡ c.args.self.now = cc (c.deref-provisioner-items.ensures.value) in
    let last = last_runs c.deref-provisioner-items.result.now c.loop-number.number c.provisioner-item.result c.loop-number-test.true c.provisioner-item.is (sym c.if-makes_fail.ensures) in
    omega (arith, ap length last, c.loop-number.invariant, ap (λ ps. length (ran ps)) same)

pub loop-number-preserved : goal.loop-number-preserved
loop-number-preserved c =
    let more = more_run c.deref-provisioner-items.result.now c.loop-number.number c.provisioner-item.result c.loop-number-test.true c.provisioner-item.is (sym c.if-makes_fail.ensures) in
    omega (arith, ap length more, c.loop-number.invariant)

pub returns : goal.returns
returns c =
    let same : c.deref-provisioner-items.result.now ≡ c.args.self.now = cc (c.deref-provisioner-items.ensures.value) in
    let none = none_runs c.deref-provisioner-items.result.now c.loop-number.number c.loop-number-test.false in
    omega (arith, ap length none, c.loop-number.invariant, ap (λ ps. length (ran ps)) same, ap length same, c.len.ensures.len)
