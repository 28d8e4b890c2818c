-- Places in a text.
use Rattle.std.specs.Prelude.{◌≡◌, ℕ, ◌+◌, ◌≤◌, ◌==◌, ◌&&◌, IsUtf8, List, [], ◌∷◌, Bool, if◌then◌else◌, length, nat_le, nat_lt, take}
use Rattle.std.specs.Str.{IsValidUpTo}
use Rattle.input_validate_cli.specs.declared.texts.text_place.TextPlace.{TextPlace}
use Rattle.input_validate_cli.specs.Lines.{line_count}

-- a byte continues a character of several bytes in UTF-8
abbrev pub continues_character : ℕ → Bool
continues_character byte = nat_le 128 byte && nat_lt byte 192

-- the column behind a text, if the text begins at this column; the first column is 1
abbrev pub column_after : (column : ℕ) → List ℕ → ℕ
column_after column [] = column
column_after column (byte ∷ bytes) =
    column_after (if byte == 10 then 1 else if continues_character byte then column else column + 1) bytes

-- the place behind a text: line feeds end lines, and columns count characters
pub record IsBehind (text : List ℕ) (place : TextPlace) : Type 0 where
  pub line : place.line ≡ line_count text + 1
  pub column : place.column ≡ column_after 1 text

-- The place is where bytes stop being JSON. It is in them, or at their end. In bytes that are not
-- UTF-8 it is the first byte that is part of no character.
pub record IsJsonEnd (bytes : List ℕ) (place : TextPlace) : Type 0 where
  pub offset : ℕ
  pub inside : offset ≤ length bytes
  pub behind : IsBehind (take offset bytes) place
  pub utf8 : ¬ IsUtf8 bytes → IsValidUpTo bytes offset
