use Rattle.std.proofs.Common.{◌≡◌, drop, max}
use Rattle.stream_timeline.specs.Numbers.{peak_in}
use Rattle.stream_timeline.proofs.numbers.measures.peak_in.Given as goal

-- with those to come, the greatest of all
abbrev pub invariant-loop-stretch : goal.invariant-loop-stretch
invariant-loop-stretch l = max l.peak (peak_in (drop l.stretch-index l.stretches)) ≡ peak_in l.stretches
