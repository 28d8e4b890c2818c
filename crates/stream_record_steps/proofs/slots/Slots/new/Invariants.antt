use Rattle.std.proofs.Common.{◌≡◌, None, map, take}
use Rattle.stream_record_steps.specs.Begun.{busy_count}
use Rattle.stream_record_steps.proofs.slots.Slots.new.Given as goal

abbrev pub invariant-loop-step : goal.invariant-loop-step
invariant-loop-step l = record {
  none : l.slots.items ≡ map (λ step. None) (take l._step-index l.steps);
  free : busy_count l.slots.items ≡ 0;
}
