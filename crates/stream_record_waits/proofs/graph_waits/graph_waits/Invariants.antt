use Rattle.std.proofs.Common.{◌≡◌, ◌≤◌, length}
use Rattle.stream_record_waits.specs.Graph.{AreFirstWaits, count_of}
use Rattle.stream_record_waits.specs.Reached.{IsLatest, size_of}
use Rattle.stream_record_waits.specs.Recorded.{max_waits}
use Rattle.stream_record_waits.specs.Steps.{lists_in}
use Rattle.stream_record_waits.proofs.graph_waits.graph_waits.Given as goal

abbrev pub invariant-loop-step : goal.invariant-loop-step
invariant-loop-step l = record {
  latest : IsLatest l.reached;
  size : size_of l.reached ≡ length l.steps;
  search : l.reached.search ≤ l.step;
  are : AreFirstWaits l.steps (lists_in l.graph) l.step (lists_in l.after.items) (lists_in l.early.items);
  counted : l.count ≡ count_of (lists_in l.after.items) (lists_in l.early.items);
  few : l.count ≤ max_waits;
}
