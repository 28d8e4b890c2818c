use Rattle.stream_record_waits.specs.Behind.{AreFirstBehind}
use Rattle.stream_record_waits.proofs.behind.steps_behind.Given as goal

abbrev pub invariant-loop-step : goal.invariant-loop-step
invariant-loop-step l = AreFirstBehind l.steps l.step l.behind.items
