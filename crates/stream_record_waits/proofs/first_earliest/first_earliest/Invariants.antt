use Rattle.stream_record_waits.proofs.Earliest.{IsFirstEarliest}
use Rattle.stream_record_waits.proofs.first_earliest.first_earliest.Given as goal

abbrev pub invariant-loop-lane : goal.invariant-loop-lane
invariant-loop-lane l = IsFirstEarliest l.free l.lane l.first
