use Rattle.std.proofs.Common.{◌≡◌, ◌≤◌, take}
use Rattle.std.specs.List.{sum_by}
use Rattle.stream_timeline.specs.Numbers.{busy_in, stretch_length}
use Rattle.stream_timeline.proofs.numbers.measures.busy_in.Given as goal

-- the sum so far is at most the sum of all lengths so far
abbrev pub invariant-loop-stretch : goal.invariant-loop-stretch
invariant-loop-stretch l = record {
  value : l.busy ≡ busy_in (take l.stretch-index l.stretches);
  bound : l.busy ≤ sum_by stretch_length (take l.stretch-index l.stretches);
}
