use Rattle.std.proofs.Common.{◌≡◌, take}
use Rattle.stream_view.specs.Growth.{GrewTo}
use Rattle.stream_view.specs.Lines.{with_characters}
use Rattle.stream_view.proofs.text.line.Line.push_all.Given as goal

abbrev pub invariant-loop-character : goal.invariant-loop-character
invariant-loop-character l =
    (l.self.width ≡ l.initial.self.width)
    × GrewTo l.initial.self l.self (with_characters l.initial.self.width l.initial.self.pieces.items (take l.character-index l.characters))
