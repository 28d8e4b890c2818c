-- The line about the steps without a row.
use Rattle.std.specs.Prelude.{◌≡◌, ◌≤◌, ◌-◌, ◌++◌, ◌∷◌, ◌==◌, [], ℕ, List, Option, None, Some, codes, if◌then◌else◌}
use Rattle.stream_timeline.specs.declared.rows.choosing.Rows.{Rows}
use Rattle.term_text.specs.Columns.{columns_of}
use Rattle.stream_view.specs.Lines.{text_line}
use Rattle.term_text.specs.Fitted.{shown_characters}
use Rattle.term_words.specs.Words.{duration_words, more_words}
use Rattle.stream_view.specs.declared.text.rendition.Rendition.TheVariants as rendition
use Rattle.stream_view.specs.declared.text.line_piece.LinePiece.{LinePiece}

-- how many steps have no row, their greatest length, and the sum of their lengths
abbrev pub left_out_words : Rows → List ℕ
left_out_words rows =
    more_words rows.left_out (codes "step") ++ codes ", each at most " ++ duration_words rows.longest ++ codes ", "
    ++ duration_words rows.total_length ++ codes " in total"

-- the line as it is shown, if there are such steps
abbrev pub left_out_shown : Rows → Option (List ℕ)
left_out_shown rows = if rows.left_out == 0 then None else Some (shown_characters (left_out_words rows))

-- The lines are this one, dim and indented, if it has room on one line. Without such steps there is
-- no line.
abbrev pub IsLeftOutAs : (width indent : ℕ) → Option (List ℕ) → (lines : List (List LinePiece)) → Type 0
IsLeftOutAs width indent None lines = lines ≡ []
IsLeftOutAs width indent (Some stated) lines = columns_of stated ≤ width - indent → lines ≡ text_line width indent (Some rendition.Dim) stated ∷ []
