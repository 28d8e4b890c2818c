use Rattle.std.proofs.Common.{◌≡◌, length}
use Rattle.std.specs.Prelude.{All}
use Rattle.stream_view.specs.Rows.{IsTick}
use Rattle.stream_view.proofs.text.axis.tick_cells.Given as goal

abbrev pub invariant-loop-count : goal.invariant-loop-count
invariant-loop-count l = (length l.ticks.items ≡ l.chart.cells) × All IsTick l.ticks.items
