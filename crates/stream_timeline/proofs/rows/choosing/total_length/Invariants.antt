use Rattle.std.proofs.Common.{◌≡◌, ◌≤◌, ◌*◌, take}
use Rattle.stream_timeline.specs.Rows.{total_length}
use Rattle.stream_timeline.proofs.rows.choosing.total_length.Given as goal

-- the sum so far; each length has 64 bits
abbrev pub invariant-loop-candidate : goal.invariant-loop-candidate
invariant-loop-candidate l = record {
  value : l.total_length ≡ total_length (take l.candidate-index l.candidates);
  bound : l.total_length ≤ l.candidate-index * 18446744073709551616;
}
