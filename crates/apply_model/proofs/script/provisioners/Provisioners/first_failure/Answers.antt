use Rattle.std.proofs.Common.{◌≡◌, ap, sym, ◌∙◌}
use Rattle.apply_model.specs.Script.Outcome.{first_diag}
use Rattle.apply_model.proofs.Scripts.Provisioners.{diag_here, diag_later, no_diag_left}
use Rattle.apply_model.proofs.script.provisioners.Provisioners.first_failure.Goals as goal

pub returns-in-Some : goal.returns-in-Some
returns-in-Some c =
    let same : c.deref-provisioner-items.result.now ≡ c.args.self.now = cc (c.deref-provisioner-items.ensures.value) in
    sym (diag_here c.deref-provisioner-items.result.now c.loop-provisioner.provisioner-index c.provisioner-item.result c.in-Some.diag.now c.loop-provisioner-test.true c.provisioner-item.is (sym c.in-Some.ensures))
    ∙ c.loop-provisioner.invariant ∙ ap first_diag same

pub loop-provisioner-preserved : goal.loop-provisioner-preserved
loop-provisioner-preserved c =
    sym (diag_later c.deref-provisioner-items.result.now c.loop-provisioner.provisioner-index c.provisioner-item.result c.loop-provisioner-test.true c.provisioner-item.is (sym c.in_default.ensures))
    ∙ c.loop-provisioner.invariant

pub returns : goal.returns
returns c =
    let same : c.deref-provisioner-items.result.now ≡ c.args.self.now = cc (c.deref-provisioner-items.ensures.value) in
    sym (no_diag_left c.deref-provisioner-items.result.now c.loop-provisioner.provisioner-index c.loop-provisioner-test.false) ∙ c.loop-provisioner.invariant ∙ ap first_diag same
