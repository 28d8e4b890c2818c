-- What a read of a line returns.
use Rattle.std.specs.Prelude.{◌≡◌, ◌≢◌, ◌<◌, ◌≤◌, ◌++◌, ℕ, List, [], ◌∷◌, length, Option, Some, OnSome}
use Rattle.std.specs.Io.BufRead.{drop_through}
use Rattle.std.specs.Io.KnownBytes.{Consumes, IsAtEnd}
use Rattle.stream_lines.specs.Cut.{first_line, has_feed}
use Rattle.stream_lines.specs.Limits.{max_bytes}
use Rattle.stream_lines.specs.declared.line.LineEnd.{LineEnd}
use Rattle.stream_lines.specs.declared.line.LineEnd.TheVariants as next
use Rattle.stream_lines.specs.declared.line_reader.Piece.{Piece}
use Rattle.stream_lines.specs.declared.line_reader.Piece.TheVariants as shown

-- How a piece relates to the bytes that the reader had before and has after the read.
abbrev pub Supplies : Piece → List ℕ → Option (List ℕ) → Option (List ℕ) → Type 0
Supplies shown.Part piece old new = Consumes old new piece
Supplies shown.Line piece old new = Consumes old new (piece ++ 10 ∷ [])
Supplies shown.End piece old new = Consumes old new piece × OnSome old (IsAtEnd new)

-- How the answer relates to the bytes before the read. They are empty; or the first line was read,
-- and the rest is left; or the first line is too long.
abbrev pub Gives : LineEnd → List ℕ → Option (List ℕ) → List ℕ → Type 0
Gives next.End line rest bytes = (bytes ≡ []) × IsAtEnd rest
Gives (next.Line feed) line rest bytes =
    (bytes ≢ []) × (line ≡ first_line bytes) × (rest ≡ Some (drop_through 10 bytes)) × (feed ≡ has_feed bytes)
    × (length line ≤ max_bytes)
Gives next.TooLong line rest bytes = (bytes ≢ []) × (max_bytes < length (first_line bytes))
