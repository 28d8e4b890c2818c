use Rattle.std.proofs.Common.{◌≡◌, take}
use Rattle.std.specs.Prelude.{min}
use Rattle.stream_view.specs.Columns.{column_text, widest}
use Rattle.stream_view.proofs.column.widest.Given as goal

abbrev pub invariant-loop-place : goal.invariant-loop-place
invariant-loop-place l =
    l.most ≡ min (widest (column_text l.column) l.picture.timeline.now.steps (take l.place-index l.place-items)) 18446744073709551615
