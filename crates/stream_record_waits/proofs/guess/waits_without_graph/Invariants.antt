use Rattle.std.proofs.Common.{◌≡◌}
use Rattle.stream_record_waits.specs.Guess.{first_without_graph}
use Rattle.stream_record_waits.specs.Steps.{lists_in}
use Rattle.stream_record_waits.proofs.guess.waits_without_graph.Given as goal

abbrev pub invariant-loop-step : goal.invariant-loop-step
invariant-loop-step l = lists_in l.waits.items ≡ first_without_graph l.steps l.behind l.cause l.step
