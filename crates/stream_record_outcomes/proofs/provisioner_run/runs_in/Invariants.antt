use Rattle.std.proofs.Common.{◌≡◌, ◌++◌, drop}
use Rattle.stream_record_outcomes.specs.Provisioners.{runs_in}
use Rattle.stream_record_outcomes.proofs.provisioner_run.runs_in.Given as goal

abbrev pub invariant-loop-place : goal.invariant-loop-place
invariant-loop-place l =
    l.runs.items ++ runs_in l.to_own_end l.whole (drop l.place l.facts) ≡ runs_in l.to_own_end l.whole l.facts
