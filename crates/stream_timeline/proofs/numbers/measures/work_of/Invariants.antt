use Rattle.std.proofs.Common.{◌≡◌, ◌≤◌, ◌*◌, take}
use Rattle.std.specs.List.{sum_by}
use Rattle.stream_timeline.specs.Numbers.{interval_length}
use Rattle.stream_timeline.proofs.numbers.measures.work_of.Given as goal

-- the sum so far; each length has 64 bits
abbrev pub invariant-loop-interval : goal.invariant-loop-interval
invariant-loop-interval l = record {
  value : l.work ≡ sum_by interval_length (take l.interval-index l.intervals);
  bound : l.work ≤ l.interval-index * 18446744073709551616;
}
