use Rattle.std.proofs.Common.{take}
use Rattle.stream_view.specs.Axes.{axis_in}
use Rattle.stream_view.specs.Markup.{GroupsWritten}
use Rattle.stream_view.proofs.svg.rows.draw_rows.Given as goal

abbrev pub invariant-loop-place : goal.invariant-loop-place
invariant-loop-place g l =
    GroupsWritten (axis_in l.scale) l.picture (take l.place-index l.place-items) (g.W.Write.contents l.initial.out) (g.W.Write.contents l.out)
