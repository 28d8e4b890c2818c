use Rattle.std.proofs.Common.{◌≡◌, replicate}
use Rattle.stream_view.specs.Growth.{GrewTo}
use Rattle.stream_view.specs.Lines.{with_characters}
use Rattle.stream_view.proofs.text.line.Line.push_blanks.Given as goal

abbrev pub invariant-blanks : goal.invariant-blanks
invariant-blanks l =
    (l.self.width ≡ l.initial.self.width)
    × GrewTo l.initial.self l.self (with_characters l.initial.self.width l.initial.self.pieces.items (replicate l._blank 32))
