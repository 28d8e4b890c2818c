-- Bytes read as UTF-8 (RFC 3629, section 4). A byte that belongs to no character is a piece of its
-- own.
use Rattle.std.specs.Prelude.{ℕ, zero, suc, ◌-◌, List, [], ◌∷◌, Option, Some, None}
use Rattle.bstr.specs.Utf8.{Decoded, decoded, good, bad}

-- a character of `size` bytes, or one byte that belongs to no character
abbrev pub character_or_byte : Option ℕ → ℕ → Decoded
character_or_byte None size = bad 1
character_or_byte (Some character) size = good character size

-- the first piece of the bytes
unfoldable pub first_piece : List ℕ → Decoded
first_piece bytes = character_or_byte (decoded bytes).char (decoded bytes).size

-- The pieces of the bytes, where the first `passed` bytes belong to a character before them.
unfoldable pub pieces_after : ℕ → List ℕ → List Decoded
pieces_after passed [] = []
pieces_after zero (byte ∷ bytes) = first_piece (byte ∷ bytes) ∷ pieces_after ((first_piece (byte ∷ bytes)).size - 1) bytes
pieces_after (suc passed) (byte ∷ bytes) = pieces_after passed bytes

-- all pieces in order: characters, and bytes that belong to no character
abbrev pub pieces_of : List ℕ → List Decoded
pieces_of bytes = pieces_after 0 bytes
