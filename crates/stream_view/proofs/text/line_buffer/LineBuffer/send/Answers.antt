use Rattle.std.proofs.Common.{List, subst}
use Rattle.std.specs.Prelude.{map}
use Rattle.std.specs.Io.KnownBytes.{Appends}
use Rattle.stream_view.specs.Lines.{text_bytes}
use Rattle.stream_view.specs.declared.text.line.Line.{Line}
use Rattle.stream_view.proofs.Growing.{on_ok}
use Rattle.stream_view.proofs.Pieces.{buffer_fine}
use Rattle.stream_view.proofs.text.line_buffer.LineBuffer.send.Goals as goal

pub returns-then-self : goal.returns-then-self
returns-then-self g c =
    let line_buffer = c.args.self.now in
    on_ok c.write_lines.result
    (λ sent. (
      c.if-self.true,
      buffer_fine line_buffer.lines.items line_buffer.style.width line_buffer.even,
      subst (λ (lines : List Line). Appends (g.W.Write.contents c.args.out.now) (g.W.Write.contents c.write_lines.new.out)
          (text_bytes line_buffer.style.has_colour (map (λ (line : Line). line.pieces.items) lines))) c.deref.ensures.value sent,
    ))
    c.write_lines.ensures
