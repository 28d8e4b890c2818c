use Rattle.std.proofs.Common.{◌≡◌, take}
use Rattle.std.specs.Prelude.{min}
use Rattle.stream_panel.specs.Frames.{rows_taken}
use Rattle.stream_panel.proofs.frame.rows_taken.Given as goal

abbrev pub invariant-loop-width : goal.invariant-loop-width
invariant-loop-width l = l.rows ≡ min (rows_taken l.columns (take l.width-index l.widths)) 18446744073709551615
