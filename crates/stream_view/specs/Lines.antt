-- The lines of a text: how wide they are, and which bytes steer the terminal.
use Rattle.std.specs.Prelude.{◌≡◌, ◌≤◌, ◌+◌, ◌++◌, ◌∷◌, ◌&&◌, [], ℕ, List, Bool, true, false, All, Option, None, Some, codes, encode_utf8, if◌then◌else◌, is_some, nat_le, replicate}
use Rattle.std.specs.List.{flat_map, fold, list_all, sum_by}
use Rattle.std.specs.Io.KnownBytes.{Appends}
use Rattle.term_text.specs.Columns.{column_count, width_of}
use Rattle.term_text.specs.Fitting.{without_blanks}
use Rattle.stream_view.specs.declared.text.rendition.Rendition.{Rendition}
use Rattle.stream_view.specs.declared.text.rendition.Rendition.TheVariants as rendition
use Rattle.stream_view.specs.declared.text.line_piece.LinePiece.{LinePiece}
use Rattle.stream_view.specs.declared.text.line_piece.LinePiece.TheVariants as line_piece

-- ESC, `[`, the codes and `m` (ECMA-48, section 8.3.117)
abbrev pub sequence : List ℕ → List ℕ
sequence words = 27 ∷ 91 ∷ words ++ codes "m"

abbrev pub rendition_codes : Rendition → List ℕ
rendition_codes rendition.Bold = codes "1"
rendition_codes rendition.Dim = codes "2"
rendition_codes rendition.Red = codes "31"
rendition_codes rendition.Green = codes "32"
rendition_codes rendition.Yellow = codes "33"
rendition_codes rendition.Magenta = codes "35"
rendition_codes rendition.Cyan = codes "36"
rendition_codes rendition.White = codes "37"

-- the bytes of a piece, with colours or without
abbrev pub line_piece_bytes : (has_colour : Bool) → LinePiece → List ℕ
line_piece_bytes has_colour (line_piece.Character character) = encode_utf8 character
line_piece_bytes has_colour (line_piece.Begin rendition) = if has_colour then sequence (rendition_codes rendition) else []
line_piece_bytes has_colour line_piece.End = if has_colour then sequence (codes "0") else []

abbrev pub line_piece_columns : LinePiece → ℕ
line_piece_columns (line_piece.Character character) = column_count character
line_piece_columns (line_piece.Begin rendition) = 0
line_piece_columns line_piece.End = 0

-- a control character has no width
abbrev pub is_no_control : LinePiece → Bool
is_no_control (line_piece.Character character) = is_some (width_of character)
is_no_control (line_piece.Begin rendition) = true
is_no_control line_piece.End = true

abbrev pub is_character : LinePiece → Bool
is_character (line_piece.Character character) = true
is_character (line_piece.Begin rendition) = false
is_character line_piece.End = false

-- a line of at most `width` columns without a control character
pub record IsLine (width : ℕ) (pieces : List LinePiece) : Type 0 where
  pub columns : sum_by line_piece_columns pieces ≤ width
  pub no_control : list_all is_no_control pieces ≡ true

-- the bytes of a line, with its line feed
abbrev pub line_bytes : (has_colour : Bool) → List LinePiece → List ℕ
line_bytes has_colour pieces = flat_map (line_piece_bytes has_colour) pieces ++ 10 ∷ []

-- the bytes of lines
abbrev pub text_bytes : (has_colour : Bool) → List (List LinePiece) → List ℕ
text_bytes has_colour lines = flat_map (line_bytes has_colour) lines

-- Lines were written, and nothing else. Each has at most `width` columns and no control character.
pub record LinesWritten (width : ℕ) (has_colour : Bool) (before after : Option (List ℕ)) : Type 0 where
  pub lines : List (List LinePiece)
  pub fine : All (IsLine width) lines
  pub written : Appends before after (text_bytes has_colour lines)

-- ---- characters without room

-- one more character, unless it is a control character or has no room
abbrev pub with_character : (width : ℕ) → List LinePiece → ℕ → List LinePiece
with_character width pieces character =
    if is_some (width_of character) && nat_le (sum_by line_piece_columns pieces + column_count character) width
    then pieces ++ line_piece.Character character ∷ [] else pieces

abbrev pub with_characters : (width : ℕ) → List LinePiece → List ℕ → List LinePiece
with_characters width pieces characters = fold (with_character width) pieces characters

-- the list has some more at its end
abbrev pub HasMore : {A : Type 0} → (before after : List A) → Type 0
HasMore {A} before after = (more : List A) × (after ≡ before ++ more)

-- ---- texts

-- more characters, with a rendition or without one
abbrev pub with_styled : (width : ℕ) → List LinePiece → Option Rendition → List ℕ → List LinePiece
with_styled width pieces None characters = with_characters width pieces characters
with_styled width pieces (Some rendition) characters = with_characters width (pieces ++ line_piece.Begin rendition ∷ []) characters ++ line_piece.End ∷ []

-- a line of `indent` blanks and the text, as far as they have room; an empty text gives an empty
-- line
abbrev pub line_with : (width indent : ℕ) → Option Rendition → List ℕ → List LinePiece
line_with width indent rendition [] = []
line_with width indent rendition (character ∷ characters) =
    with_styled width (with_characters width [] (replicate indent 32)) rendition (character ∷ characters)

-- as `line_with`, without the blanks at the end of the text
abbrev pub text_line : (width indent : ℕ) → Option Rendition → List ℕ → List LinePiece
text_line width indent rendition text = line_with width indent rendition (without_blanks text)
