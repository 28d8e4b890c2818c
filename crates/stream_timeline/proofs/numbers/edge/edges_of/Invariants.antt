use Rattle.std.proofs.Common.{◌≡◌, ◌++◌, drop}
use Rattle.stream_timeline.specs.Edges.{edges_of}
use Rattle.stream_timeline.proofs.numbers.edge.edges_of.Given as goal

-- with those to come, all
abbrev pub invariant-loop-interval : goal.invariant-loop-interval
invariant-loop-interval l = l.edges.items ++ edges_of (drop l.interval-index l.intervals) ≡ edges_of l.intervals
