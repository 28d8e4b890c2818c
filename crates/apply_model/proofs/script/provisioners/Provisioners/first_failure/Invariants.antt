use Rattle.std.proofs.Common.{◌≡◌, drop}
use Rattle.apply_model.specs.Script.Outcome.{first_diag}
use Rattle.apply_model.proofs.script.provisioners.Provisioners.first_failure.Given as goal

abbrev pub invariant-loop-provisioner : goal.invariant-loop-provisioner
invariant-loop-provisioner l = first_diag (drop l.provisioner-index l.provisioner-items) ≡ first_diag l.provisioner-items
