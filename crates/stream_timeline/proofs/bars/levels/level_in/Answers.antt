use Rattle.std.proofs.Common.{None, sym, ◌∙◌}
use Rattle.stream_timeline.specs.declared.numbers.stretch.Stretch.{Stretch}
use Rattle.stream_timeline.proofs.Levels.{level_late}
use Rattle.stream_timeline.proofs.bars.levels.level_in.Goals as goal

-- what an index out of range would give
abbrev nothing : Stretch
nothing = record { begin = 0; end = 0; number = 0; alone = None }

pub returns-else-stretches-place : goal.returns-else-stretches-place
returns-else-stretches-place c = λ order.
    sym (level_late c.args.begin c.args.end c.args.stretches.now c.reach.place c.reach.level nothing order c.reach-test.true c.if-stretches-place.false) ∙ c.reach.invariant
