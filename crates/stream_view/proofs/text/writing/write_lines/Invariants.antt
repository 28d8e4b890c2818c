use Rattle.std.proofs.Common.{take}
use Rattle.std.specs.Prelude.{map}
use Rattle.std.specs.Io.KnownBytes.{Appends}
use Rattle.stream_view.specs.Lines.{text_bytes}
use Rattle.stream_view.specs.declared.text.line.Line.{Line}
use Rattle.stream_view.proofs.text.writing.write_lines.Given as goal

abbrev pub invariant-loop-line : goal.invariant-loop-line
invariant-loop-line g l =
    Appends (g.W.Write.contents l.initial.out) (g.W.Write.contents l.out)
    (text_bytes l.has_colour (map (λ (line : Line). line.pieces.items) (take l.line-index l.lines)))
