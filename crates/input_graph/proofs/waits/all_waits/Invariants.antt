use Rattle.std.proofs.Common.{◌≡◌, ◌≤◌, All, length}
use Rattle.input_graph.specs.AllWaits.{lists_in, max_waits}
use Rattle.input_graph.specs.Targets.{edge_texts}
use Rattle.input_graph.proofs.Counted.{AreCounted}
use Rattle.input_graph.proofs.waits.all_waits.Given as goal

abbrev pub invariant-loop-step : goal.invariant-loop-step
invariant-loop-step l = record {
  are : AreCounted l.nodes (edge_texts l.fn.edges.items) (lists_in l.all.items) l.step l.count;
  few : l.count ≤ max_waits;
  each : length l.seen.items ≡ length l.graph.names.keys;
  marks : All (λ mark. mark ≤ l.step) l.seen.items;
}
