-- Bytes from outside with control characters and commands to runners escaped, and as readable text.
use Rattle.std.specs.Prelude.{ℕ, ◌/◌, ◌%◌, Bool, ◌&&◌, ◌||◌, ◌==◌, List, [], ◌∷◌, ◌++◌, codes, if◌then◌else◌, Option, Some, None}
use Rattle.std.specs.List.{flat_map}
use Rattle.std.specs.Char.{encode_utf8, digit_char}
use Rattle.std.specs.Int.{is_in_range}
use Rattle.std.specs.Str.Lossy.{replacement_bytes}
use Rattle.bstr.specs.Utf8.{Decoded}
use Rattle.term_text.specs.Commands.{is_named, after_piece}
use Rattle.term_text.specs.Pieces.{pieces_of}
use Rattle.term_text.specs.declared.command_start.CommandStart.{CommandStart}
use Rattle.term_text.specs.declared.command_start.CommandStart.TheVariants as command_start

-- Characters that are escaped: controls, line separators, direction marks, zero-width characters,
-- and codes that are no character (Unicode).
unfoldable pub is_hidden : ℕ → Bool
is_hidden character =
    is_in_range 0 0x1F character || is_in_range 0x7F 0x9F character || character == 0x61C
    || is_in_range 0x200B 0x200F character || is_in_range 0x2028 0x202E character || is_in_range 0x2060 0x206F character
    || character == 0xFEFF || is_in_range 0xFFFE 0xFFFF character

-- `\u` and four hexadecimal digits
abbrev pub escape : ℕ → List ℕ
escape code =
    92 ∷ 117 ∷ digit_char (code / 4096) ∷ digit_char (code / 256 % 16) ∷ digit_char (code / 16 % 16) ∷ digit_char (code % 16) ∷ []

-- A character of escaped text: `
-- ` and `\t` for line feed and tab, an escape for the other hidden characters.
unfoldable pub shown_character : ℕ → List ℕ
shown_character character =
    if character == 10 then codes "\\n" else (if character == 9 then codes "\\t" else (if is_hidden character then escape character else encode_utf8 character))

-- A character of escaped text. `start` is how much of a command stands before the character: the
-- `[` of a command is escaped too.
abbrev pub shown_character_after : CommandStart → ℕ → List ℕ
shown_character_after start character = if is_named start && character == 91 then escape character else shown_character character

-- a piece of escaped text, with the escape of U+FFFD for a byte that belongs to no character
abbrev pub shown_piece : CommandStart → Option ℕ → List ℕ
shown_piece start None = escape 0xFFFD
shown_piece start (Some character) = shown_character_after start character

-- the pieces of escaped text, with `start` before the first piece
unfoldable pub shown_pieces : CommandStart → List Decoded → List ℕ
shown_pieces start [] = []
shown_pieces start (piece ∷ pieces) = shown_piece start piece.char ++ shown_pieces (after_piece start piece.char) pieces

-- the escaped text of bytes, with `start` before the first byte
unfoldable pub shown_after : CommandStart → List ℕ → List ℕ
shown_after start bytes = shown_pieces start (pieces_of bytes)

-- the escaped text of bytes
unfoldable pub shown_text : List ℕ → List ℕ
shown_text bytes = shown_after command_start.Nothing bytes

-- a piece of readable text, with U+FFFD for a byte that belongs to no character
abbrev pub readable_piece : Option ℕ → List ℕ
readable_piece None = replacement_bytes
readable_piece (Some character) = encode_utf8 character

unfoldable pub readable_text : List ℕ → List ℕ
readable_text bytes = flat_map (λ (piece : Decoded). readable_piece piece.char) (pieces_of bytes)
