use Rattle.stream_view.specs.Markup.{MarkupWritten}
use Rattle.stream_view.proofs.svg.drawing.draw_bands.Given as goal

abbrev pub invariant-loop-pair : goal.invariant-loop-pair
invariant-loop-pair g l = MarkupWritten (g.W.Write.contents l.fn.out) (g.W.Write.contents l.out)
