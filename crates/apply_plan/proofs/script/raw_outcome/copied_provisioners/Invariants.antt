use Rattle.std.proofs.Common.{◌≡◌, map, take}
use Rattle.apply_plan.specs.Script.RawView.{provisioner_view}
use Rattle.apply_plan.proofs.script.raw_outcome.copied_provisioners.Given as goal

abbrev pub invariant-loop-provisioner : goal.invariant-loop-provisioner
invariant-loop-provisioner l = l.provisioners.items ≡ map provisioner_view (take l.provisioner-index l.tree)
