-- The whole text: the heading, the rows, and the lines below them.
use Rattle.std.specs.Prelude.{◌≡◌, ◌≤◌, ◌+◌, ◌++◌, ◌∷◌, ℕ, List, Bool, All, Option, Some, map}
use Rattle.std.specs.Io.KnownBytes.{Appends}
use Rattle.stream_timeline.specs.declared.rows.choosing.Rows.{Rows}
use Rattle.term_text.specs.Columns.{columns_of}
use Rattle.stream_view.specs.Heading.{heading_words}
use Rattle.stream_view.specs.LeftOut.{IsLeftOutAs, left_out_shown}
use Rattle.stream_view.specs.Lines.{IsLine, text_bytes, text_line}
use Rattle.stream_view.specs.Rows.{AreTicks, layout_of, row_at, rows_of}
use Rattle.term_text.specs.Fitted.{shown_characters}
use Rattle.stream_view.specs.declared.picture.Picture.{Picture}
use Rattle.stream_view.specs.declared.text.rendition.Rendition.TheVariants as rendition
use Rattle.stream_view.specs.declared.text.line_piece.LinePiece.{LinePiece}

-- the heading as it is shown
abbrev pub heading_characters : Picture → List ℕ
heading_characters picture = shown_characters (heading_words picture.time_range picture.timeline.now picture.numbers)

-- the heading is the first line, bold, if it has room on one line
abbrev pub IsHeadedBy : (width : ℕ) → (heading : List ℕ) → (lines : List (List LinePiece)) → Type 0
IsHeadedBy width heading lines = columns_of heading ≤ width
    → (rest : List (List LinePiece)) × (lines ≡ text_line width 0 (Some rendition.Bold) heading ∷ rest)

-- lines that begin with the heading were written, and nothing else
pub record HeadLinesWritten (width : ℕ) (has_colour : Bool) (picture : Picture) (before after : Option (List ℕ)) : Type 0 where
  pub lines : List (List LinePiece)
  pub headed : IsHeadedBy width (heading_characters picture) lines
  pub fine : All (IsLine width) lines
  pub written : Appends before after (text_bytes has_colour lines)

-- ---- the whole text

-- the rows of the steps at these places were written, and nothing else
pub record RowsWritten (width : ℕ) (has_colour : Bool) (picture : Picture) (ticks : List ℕ) (places : List ℕ) (before after : Option (List ℕ)) : Type 0 where
  pub fine : All (IsLine width) (map (row_at width picture ticks) places)
  pub written : Appends before after (text_bytes has_colour (map (row_at width picture ticks) places))

-- the line about the steps without a row was written, or nothing if there are none
pub record LeftOutWritten (width : ℕ) (has_colour : Bool) (indent : ℕ) (rows : Rows) (before after : Option (List ℕ)) : Type 0 where
  pub lines : List (List LinePiece)
  pub is : IsLeftOutAs width indent (left_out_shown rows) lines
  pub fine : All (IsLine width) lines
  pub written : Appends before after (text_bytes has_colour lines)

-- the indent of that line: one column more than the actions have
abbrev pub indent_of : (width : ℕ) → Picture → ℕ
indent_of width picture = (layout_of width picture).action + 1

-- the head, the rows, the line about the steps without a row, and the tail were written
pub record TextWritten (width : ℕ) (has_colour : Bool) (picture : Picture) (before after : Option (List ℕ)) : Type 0 where
  pub head : List (List LinePiece)
  pub ticks : List ℕ
  pub left_out : List (List LinePiece)
  pub tail : List (List LinePiece)
  pub headed : IsHeadedBy width (heading_characters picture) head
  pub are_ticks : AreTicks (layout_of width picture) ticks
  pub is_left_out : IsLeftOutAs width (indent_of width picture) (left_out_shown picture.rows) left_out
  pub fine : All (IsLine width) (head ++ rows_of width picture ticks ++ left_out ++ tail)
  pub written : Appends before after (text_bytes has_colour (head ++ rows_of width picture ticks ++ left_out ++ tail))
