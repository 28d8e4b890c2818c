use Rattle.stream_record_waits.specs.Ends.{AreEnds}
use Rattle.stream_record_waits.proofs.behind.ends_of.Given as goal

abbrev pub invariant-loop-step : goal.invariant-loop-step
invariant-loop-step l = AreEnds l.steps l.step l.ends.items
