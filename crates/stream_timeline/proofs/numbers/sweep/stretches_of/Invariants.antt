use Rattle.std.proofs.Common.{◌≤◌, ◌*◌, take}
use Rattle.stream_timeline.proofs.SweptSoFar.{IsSweptSoFar}
use Rattle.stream_timeline.proofs.numbers.sweep.stretches_of.Given as goal

-- what holds after the edges so far, whose places have 64 bits
abbrev pub invariant-loop-edge : goal.invariant-loop-edge
invariant-loop-edge l = record {
  swept_so_far : IsSweptSoFar l.intervals (take l.edge-index l.edge-items) l.sweep.running l.sweep.last l.sweep.stretches.items;
  begun : l.sweep.running.begun ≤ l.edge-index;
  ended : l.sweep.running.ended ≤ l.edge-index;
  begun_places : l.sweep.running.begun_places ≤ l.edge-index * 18446744073709551616;
  ended_places : l.sweep.running.ended_places ≤ l.edge-index * 18446744073709551616;
}
