-- Texts between quotes: lists of pieces. Each piece stands for one character.
use Rattle.std.specs.Prelude.{◌≡◌, ◌≢◌, ℕ, ◌==◌, Bool, ◌||◌, if◌then◌else◌, nat_eq, List, [], ◌∷◌, ◌++◌, codes, length, Option, Some, None, IsSome, unwrap_or}
use Rattle.std.specs.Char.{encode_utf8, IsScalar}
use Rattle.std.specs.List.{flat_map, starts_with}
use Rattle.std.specs.Str.Parse.{AllDigits, digits_value}

-- A piece of a text between quotes.
pub data Piece : Type 0 where
  -- A character that stands for itself.
  plain : ℕ → Piece
  -- A backslash and a letter.
  escape : ℕ → Piece
  -- A backslash, `u` and four hexadecimal digits.
  short : List ℕ → Piece
  -- A backslash, `U` and eight hexadecimal digits.
  long : List ℕ → Piece

-- The text of a piece.
abbrev pub written_piece : Piece → List ℕ
written_piece (plain character) = encode_utf8 character
written_piece (escape letter) = 92 ∷ letter ∷ []
written_piece (short digits) = 92 ∷ 117 ∷ digits
written_piece (long digits) = 92 ∷ 85 ∷ digits

-- The character of a letter after a backslash. `"` and `\` stand for themselves; `n`, `r` and `t`
-- for line feed, carriage return and tab. No other letter stands for a character.
abbrev pub escaped_character : ℕ → Option ℕ
escaped_character letter =
    if letter == 34 || letter == 92 then Some letter
    else if letter == 110 then Some 10
    else if letter == 114 then Some 13
    else if letter == 116 then Some 9
    else None

-- The character that a piece stands for.
abbrev pub character_of : Piece → ℕ
character_of (plain character) = character
character_of (escape letter) = unwrap_or (escaped_character letter) letter
character_of (short digits) = digits_value 16 digits
character_of (long digits) = digits_value 16 digits

-- `count` hexadecimal digits that are the code of a character.
abbrev pub AreDigits : (count : ℕ) → List ℕ → Type 0
AreDigits count digits = (length digits ≡ count) × AllDigits 16 digits × IsScalar (digits_value 16 digits)

-- The piece is valid. No plain character is `"` or `\`.
abbrev pub IsPiece : Piece → Type 0
IsPiece (plain character) = IsScalar character × (character ≢ 34) × (character ≢ 92)
IsPiece (escape letter) = IsSome (escaped_character letter)
IsPiece (short digits) = AreDigits 4 digits
IsPiece (long digits) = AreDigits 8 digits

-- The text of some pieces.
abbrev pub written_text : List Piece → List ℕ
written_text pieces = flat_map written_piece pieces

-- The text begins with `$${` or `%%{`.
abbrev pub is_doubled : List ℕ → Bool
is_doubled text = starts_with nat_eq text (codes "$${") || starts_with nat_eq text (codes "%%{")

-- The characters of the pieces. A `$` before `${` and a `%` before `%{` are left out.
abbrev pub unescaped_text : List Piece → List ℕ
unescaped_text [] = []
unescaped_text (piece ∷ pieces) =
    if is_doubled (written_text (piece ∷ pieces)) then unescaped_text pieces else encode_utf8 (character_of piece) ++ unescaped_text pieces
