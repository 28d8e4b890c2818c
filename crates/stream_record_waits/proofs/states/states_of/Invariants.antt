use Rattle.std.proofs.Common.{◌≡◌}
use Rattle.stream_record_waits.specs.States.{first_states}
use Rattle.stream_record_waits.specs.Steps.{lists_in}
use Rattle.stream_record_waits.proofs.states.states_of.Given as goal

abbrev pub invariant-loop-step : goal.invariant-loop-step
invariant-loop-step l = l.states.items ≡ first_states l.steps (lists_in l.after) l.step
