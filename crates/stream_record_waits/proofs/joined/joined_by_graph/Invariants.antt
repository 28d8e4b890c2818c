use Rattle.std.proofs.Common.{◌≡◌}
use Rattle.stream_record_waits.specs.Joined.{joined_by_graph}
use Rattle.stream_record_waits.specs.Steps.{lists_in}
use Rattle.stream_record_waits.proofs.joined.joined_by_graph.Given as goal

abbrev pub invariant-loop-step : goal.invariant-loop-step
invariant-loop-step l = l.joined.items ≡ joined_by_graph l.steps (lists_in l.after) l.step
