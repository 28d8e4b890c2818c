use Rattle.std.proofs.Common.{◌≡◌, ◌++◌, All, drop}
use Rattle.stream_timeline.specs.Intervals.{intervals_from, intervals_of}
use Rattle.stream_timeline.specs.Stretches.{IsSmallInterval}
use Rattle.stream_timeline.proofs.numbers.interval.intervals_of.Given as goal

-- with those to come, all
abbrev pub invariant-loop-place : goal.invariant-loop-place
invariant-loop-place l = record {
  value : l.intervals.items ++ intervals_from l.time_range l.place (drop l.place l.steps) ≡ intervals_of l.time_range l.steps;
  small : All IsSmallInterval l.intervals.items;
}
