use Rattle.std.proofs.Common.{◌-◌, ◌<◌, ◌≤◌, ℕ, get_or, length}
use Rattle.stream_timeline.specs.declared.numbers.stretch.Stretch.{Stretch}
use Rattle.stream_timeline.proofs.bars.levels.skipped.Given as goal

-- those so far end no later
abbrev pub invariant-skips : goal.invariant-skips
invariant-skips l = record {
  bound : l.passed_over ≤ length l.stretches;
  past : (place : ℕ) (d : Stretch) → l.fn.passed_over ≤ place → place < l.passed_over → (get_or l.stretches place d).end ≤ l.begin;
}

abbrev pub decreases-skips : goal.decreases-skips
decreases-skips l = length l.stretches - l.passed_over
