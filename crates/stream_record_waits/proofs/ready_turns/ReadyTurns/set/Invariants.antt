use Rattle.std.proofs.Common.{◌≡◌, ◌≢◌, ◌<◌, ◌*◌, ℕ, length}
use Rattle.stream_record_waits.specs.ReadyTurns.{turn_in}
use Rattle.stream_record_waits.proofs.TurnTree.{ArePast}
use Rattle.stream_record_waits.proofs.ready_turns.ReadyTurns.set.Given as goal

abbrev pub invariant-loop-node : goal.invariant-loop-node
invariant-loop-node l = record {
  some : 0 < l.node;
  inside : l.node < 2 * l.self.count;
  count : l.self.count ≡ l.initial.self.count;
  size : length l.self.nodes.items ≡ 2 * l.self.count;
  past : ArePast l.self.count l.self.nodes.items l.node;
  turn : turn_in l.self l.step ≡ l.fn.turn;
  others : (other : ℕ) → other < l.self.count → other ≢ l.step → turn_in l.self other ≡ turn_in l.initial.self other;
}

abbrev pub decreases-loop-node : goal.decreases-loop-node
decreases-loop-node l = l.node
