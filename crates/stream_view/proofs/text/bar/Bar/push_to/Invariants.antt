use Rattle.std.proofs.Common.{◌≡◌, ◌≤◌, ◌-◌}
use Rattle.std.specs.Prelude.{map, max}
use Rattle.std.specs.List.{range_with_len}
use Rattle.stream_view.specs.Growth.{GrewTo}
use Rattle.stream_view.specs.Lines.{with_characters}
use Rattle.stream_view.specs.Rows.{bar_character}
use Rattle.stream_view.proofs.text.bar.Bar.push_to.Given as goal

abbrev pub invariant-loop-cell : goal.invariant-loop-cell
invariant-loop-cell l =
    (l.first ≤ l.cell) × (l.cell ≤ max l.first l.end) × (l.line.width ≡ l.initial.line.width)
    × GrewTo l.initial.line l.line (with_characters l.initial.line.width l.initial.line.pieces.items
    (map (bar_character l.self.has_failed l.self.has_ended l.self.halves.first l.self.halves.end) (range_with_len l.first (l.cell - l.first))))
