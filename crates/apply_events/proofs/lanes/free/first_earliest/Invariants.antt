use Rattle.apply_events.proofs.Waits.Earliest.{IsFirstEarliest}
use Rattle.apply_events.proofs.lanes.free.first_earliest.Given as goal

abbrev pub invariant-loop-lane : goal.invariant-loop-lane
invariant-loop-lane l = IsFirstEarliest l.free l.lane l.first
