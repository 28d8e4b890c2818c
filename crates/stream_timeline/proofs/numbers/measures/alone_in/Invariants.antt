use Rattle.std.proofs.Common.{◌≡◌, ◌<◌, ℕ, get_or, length, take}
use Rattle.stream_timeline.specs.Numbers.{alone_in}
use Rattle.stream_timeline.proofs.numbers.measures.alone_in.Given as goal

-- what the stretches so far give each place
abbrev pub invariant-loop-stretch : goal.invariant-loop-stretch
invariant-loop-stretch l = record {
  len : length l.alone.items ≡ l.count;
  value : (place : ℕ) → place < l.count → get_or l.alone.items place 0 ≡ alone_in place (take l.stretch-index l.stretches);
}
