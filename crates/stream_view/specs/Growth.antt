-- Lines, buffers and markup that grow, as far as memory suffices, for private clauses.
use Rattle.std.specs.Prelude.{◌≡◌, ◌++◌, ◌∷◌, [], ℕ, List, map, true}
use Rattle.stream_view.specs.Lines.{HasMore}
use Rattle.stream_view.specs.declared.svg.markup.Markup.{Markup}
use Rattle.stream_view.specs.declared.svg.markup_part.MarkupPart.{MarkupPart}
use Rattle.stream_view.specs.declared.svg.markup_part.MarkupPart.TheVariants as markup_part
use Rattle.stream_view.specs.declared.svg.fragment.Fragment.TheVariants as fragment
use Rattle.stream_view.specs.declared.text.line.Line.{Line}
use Rattle.stream_view.specs.declared.text.line_buffer.LineBuffer.{LineBuffer}
use Rattle.stream_view.specs.declared.text.line_piece.LinePiece.{LinePiece}

-- unless memory was refused, the line has these pieces
abbrev pub HasPieces : Line → List LinePiece → Type 0
HasPieces line pieces = line.is_whole ≡ true → line.pieces.items ≡ pieces

-- unless memory was refused, the line grew to these pieces
abbrev pub GrewTo : (before after : Line) → List LinePiece → Type 0
GrewTo before after pieces = after.is_whole ≡ true → (before.is_whole ≡ true) × (after.pieces.items ≡ pieces)

-- the pieces of the lines of a buffer
abbrev pub lines_in : LineBuffer → List (List LinePiece)
lines_in line_buffer = map (λ (line : Line). line.pieces.items) line_buffer.lines.items

-- unless memory was refused, the buffer has these lines after those from before
abbrev pub HasLines : (before after : LineBuffer) → List (List LinePiece) → Type 0
HasLines before after lines = after.is_whole ≡ true → (before.is_whole ≡ true) × (lines_in after ≡ lines_in before ++ lines)

-- unless memory was refused, the buffer has some lines after those from before
abbrev pub HasMoreLines : (before after : LineBuffer) → Type 0
HasMoreLines before after = after.is_whole ≡ true → (before.is_whole ≡ true) × HasMore (lines_in before) (lines_in after)

-- unless memory was refused, the markup has these parts after those from before
abbrev pub HasParts : (before after : Markup) → List MarkupPart → Type 0
HasParts before after parts = after.is_whole ≡ true → (before.is_whole ≡ true) × (after.parts.items ≡ before.parts.items ++ parts)

-- The begin of a box: its place, width and height. `x` and `width` are in tenths of a pixel, `y`
-- and `height` in pixels.
abbrev pub box_begin : (x y width height : ℕ) → List MarkupPart
box_begin x y width height =
    markup_part.Fixed fragment.RectX ∷ markup_part.Tenths x ∷ markup_part.Fixed fragment.Y ∷ markup_part.Number y ∷ markup_part.Fixed fragment.Width ∷ markup_part.Tenths width ∷ markup_part.Fixed fragment.Height
    ∷ markup_part.Number height ∷ []
