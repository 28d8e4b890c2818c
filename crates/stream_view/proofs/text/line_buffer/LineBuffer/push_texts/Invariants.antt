use Rattle.std.proofs.Common.{◌≡◌, take}
use Rattle.std.specs.Prelude.{map}
use Rattle.stream_view.specs.Growth.{HasLines}
use Rattle.stream_view.specs.Lines.{text_line}
use Rattle.stream_view.proofs.text.line_buffer.LineBuffer.push_texts.Given as goal

abbrev pub invariant-loop-text : goal.invariant-loop-text
invariant-loop-text l =
    (l.self.style ≡ l.initial.self.style)
    × HasLines l.initial.self l.self (map (λ text. text_line l.initial.self.style.width l.indent l.rendition text) (take l.text-index l.texts))
