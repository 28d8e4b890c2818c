use Rattle.std.proofs.Common.{◌≡◌, ◌+◌, take}
use Rattle.apply_model.specs.Script.Limits.{max_seconds}
use Rattle.apply_plan.proofs.Scripts.RawSteps.{raw_seconds}
use Rattle.apply_plan.proofs.script.raw_outcome.RawOutcome.is_too_long.Given as goal

abbrev pub invariant-loop-provisioner : goal.invariant-loop-provisioner
invariant-loop-provisioner l = l.left + (l.self.seconds + raw_seconds (take l.provisioner-index l.provisioner-items)) ≡ max_seconds
