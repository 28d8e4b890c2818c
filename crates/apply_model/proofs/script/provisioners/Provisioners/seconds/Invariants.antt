use Rattle.std.proofs.Common.{◌≡◌, ◌+◌, drop}
use Rattle.apply_model.specs.Script.Outcome.{ran, seconds_of_all}
use Rattle.apply_model.proofs.script.provisioners.Provisioners.seconds.Given as goal

abbrev pub invariant-loop-provisioner : goal.invariant-loop-provisioner
invariant-loop-provisioner l =
    l.seconds + seconds_of_all (ran (drop l.provisioner-index l.provisioner-items)) ≡ seconds_of_all (ran l.provisioner-items)
