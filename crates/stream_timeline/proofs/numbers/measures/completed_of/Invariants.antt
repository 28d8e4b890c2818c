use Rattle.std.proofs.Common.{◌≡◌, ◌≤◌, take}
use Rattle.std.specs.List.{count_by}
use Rattle.stream_timeline.specs.Numbers.{is_completed}
use Rattle.stream_timeline.proofs.numbers.measures.completed_of.Given as goal

-- how many of the steps so far
abbrev pub invariant-loop-step : goal.invariant-loop-step
invariant-loop-step l = record {
  value : l.count ≡ count_by (is_completed l.action) (take l.step-index l.steps);
  bound : l.count ≤ l.step-index;
}
