use Rattle.std.proofs.Common.{◌≡◌, drop}
use Rattle.stream_record_outcomes.specs.Provisioners.{last_from, last_provisioner}
use Rattle.stream_record_outcomes.proofs.last_provisioner.last_provisioner.Given as goal

abbrev pub invariant-loop-fact : goal.invariant-loop-fact
invariant-loop-fact l = last_from l.last (drop l.fact-index l.facts) ≡ last_provisioner l.facts
