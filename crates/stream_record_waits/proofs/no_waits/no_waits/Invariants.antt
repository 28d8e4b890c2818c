use Rattle.std.proofs.Common.{◌≡◌}
use Rattle.stream_record_waits.specs.Recorded.{no_waits}
use Rattle.stream_record_waits.specs.Steps.{lists_in}
use Rattle.stream_record_waits.proofs.no_waits.no_waits.Given as goal

abbrev pub invariant-loop-step : goal.invariant-loop-step
invariant-loop-step l = lists_in l.waits.items ≡ no_waits l._step
