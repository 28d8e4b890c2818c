use Rattle.apply_planning.proofs.LastEvent.{IsLastEnd}
use Rattle.apply_planning.proofs.schedule.end_of.Given as goal

abbrev pub invariant-loop-place : goal.invariant-loop-place
invariant-loop-place l = IsLastEnd l.told l.started l.place l.ends
