use Rattle.std.proofs.Common.{◌≡◌}
use Rattle.stream_record_waits.specs.Joined.{joined_by_lines}
use Rattle.stream_record_waits.proofs.joined.joined_by_lines.Given as goal

abbrev pub invariant-loop-step : goal.invariant-loop-step
invariant-loop-step l = l.joined.items ≡ joined_by_lines l.steps l.step
