use Rattle.std.proofs.Common.{◌≡◌}
use Rattle.apply_model.specs.Script.Outcome.{ran, seconds_before}
use Rattle.apply_events.specs.MidStep.{since}
use Rattle.apply_events.proofs.running_provisioners.provisioner_start.Given as goal

-- the provisioners so far were added
abbrev pub invariant-loop-earlier : goal.invariant-loop-earlier
invariant-loop-earlier l = l.seconds ≡ since (seconds_before l.fn.kind l.outcome) (ran l.outcome.provisioners) l.earlier
