use Rattle.std.proofs.Common.{◌≡◌, take}
use Rattle.std.specs.Prelude.{min}
use Rattle.term_text.specs.Columns.{columns_of}
use Rattle.stream_panel.proofs.canvas.columns.Given as goal

abbrev pub invariant-loop-character : goal.invariant-loop-character
invariant-loop-character l = l.columns ≡ min (columns_of (take l.character-index l.characters)) 18446744073709551615
