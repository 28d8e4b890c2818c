use Rattle.std.proofs.Common.{length, ◌-◌, ◌≡◌, ◌≤◌, ◌+◌, drop}
use Rattle.term_text.specs.Pieces.{pieces_of}
use Rattle.term_text.specs.Fronts.{room_for}
use Rattle.term_text.proofs.fronts.front_size.Given as goal

-- the pieces that fit so far, and those that fit into the rest of the room
abbrev pub invariant-loop-size : goal.invariant-loop-size
invariant-loop-size l = record {
  so_far : l.size + room_for (l.limit - l.size) (pieces_of (drop l.size l.bytes)) ≡ room_for l.limit (pieces_of l.bytes);
  room : l.size ≤ l.limit;
  within : l.size ≤ length l.bytes;
}

abbrev pub decreases-loop-size : goal.decreases-loop-size
decreases-loop-size l = length l.bytes - l.size
