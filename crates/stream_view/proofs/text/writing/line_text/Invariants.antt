use Rattle.std.proofs.Common.{◌≡◌, take, string_bytes}
use Rattle.std.specs.List.{flat_map}
use Rattle.stream_view.specs.Lines.{line_piece_bytes}
use Rattle.stream_view.proofs.text.writing.line_text.Given as goal

abbrev pub invariant-loop-line_piece : goal.invariant-loop-line_piece
invariant-loop-line_piece l = string_bytes l.text ≡ flat_map (line_piece_bytes l.has_colour) (take l.line_piece-index l.line_piece-items)
