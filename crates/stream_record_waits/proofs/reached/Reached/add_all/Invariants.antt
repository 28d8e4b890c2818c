use Rattle.std.proofs.Common.{◌≡◌, take}
use Rattle.stream_record_waits.specs.Reached.{IsMarked, size_of, with_all}
use Rattle.stream_record_waits.proofs.reached.Reached.add_all.Given as goal

abbrev pub invariant-loop-step : goal.invariant-loop-step
invariant-loop-step l = record {
  marked : IsMarked l.self;
  size : size_of l.self ≡ size_of l.initial.self;
  search : l.self.search ≡ l.initial.self.search;
  steps : l.self.steps.items ≡ with_all l.initial.self.steps.items (take l.step-index l.steps);
}
