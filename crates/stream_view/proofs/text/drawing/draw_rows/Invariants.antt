use Rattle.std.proofs.Common.{take}
use Rattle.stream_view.specs.Texts.{RowsWritten}
use Rattle.stream_view.proofs.text.drawing.draw_rows.Given as goal

abbrev pub invariant-loop-place : goal.invariant-loop-place
invariant-loop-place g l =
    RowsWritten l.style.width l.style.has_colour l.picture l.ticks.items (take l.place-index l.place-items) (g.W.Write.contents l.initial.out)
    (g.W.Write.contents l.out)
