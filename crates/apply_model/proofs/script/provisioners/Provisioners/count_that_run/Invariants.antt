use Rattle.std.proofs.Common.{◌≡◌, ◌+◌, drop, length}
use Rattle.apply_model.specs.Script.Outcome.{ran}
use Rattle.apply_model.proofs.script.provisioners.Provisioners.count_that_run.Given as goal

abbrev pub invariant-loop-number : goal.invariant-loop-number
invariant-loop-number l = l.number + length (ran (drop l.number l.provisioner-items)) ≡ length (ran l.provisioner-items)
