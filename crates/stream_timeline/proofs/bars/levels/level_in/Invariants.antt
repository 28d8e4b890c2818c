use Rattle.std.proofs.Common.{◌≡◌, ◌-◌, drop, length, max}
use Rattle.stream_timeline.specs.Bars.{level_in}
use Rattle.stream_timeline.proofs.bars.levels.level_in.Given as goal

-- with those to come, the greatest of all
abbrev pub invariant-reach : goal.invariant-reach
invariant-reach l = max l.level (level_in l.begin l.end (drop l.place l.stretches)) ≡ level_in l.begin l.end (drop l.from l.stretches)

abbrev pub decreases-reach : goal.decreases-reach
decreases-reach l = length l.stretches - l.place
