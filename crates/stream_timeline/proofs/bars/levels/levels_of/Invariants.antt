use Rattle.std.proofs.Common.{◌≡◌, ◌<◌, ◌≤◌, ℕ, get_or, length, map}
use Rattle.std.specs.List.{range_with_len}
use Rattle.stream_timeline.specs.Bars.{cell_begin, level_of}
use Rattle.stream_timeline.specs.Stretches.{AreInOrder}
use Rattle.stream_timeline.specs.declared.numbers.stretch.Stretch.{Stretch}
use Rattle.stream_timeline.proofs.bars.levels.levels_of.Given as goal

-- the levels of the cells so far; stretches that were passed end no later than the next cell begins
abbrev pub invariant-loop-cell : goal.invariant-loop-cell
invariant-loop-cell l = record {
  levels : AreInOrder l.stretches → l.levels.items ≡ map (level_of l.stretches l.cells l.span) (range_with_len 0 l.cell);
  bound : l.passed_over ≤ length l.stretches;
  past : (place : ℕ) (d : Stretch) → place < l.passed_over → (get_or l.stretches place d).end ≤ cell_begin l.cells l.span l.cell;
}
