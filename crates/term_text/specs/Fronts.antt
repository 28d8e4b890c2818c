-- Fronts of bytes that end between two characters.
use Rattle.std.specs.Prelude.{ℕ, ◌+◌, ◌-◌, nat_le, List, [], ◌∷◌, ◌++◌, codes, length, take, if◌then◌else◌}
use Rattle.bstr.specs.Utf8.{Decoded}
use Rattle.term_text.specs.Pieces.{pieces_of}

-- how many bytes of the first pieces fit into `limit`
unfoldable pub room_for : ℕ → List Decoded → ℕ
room_for limit [] = 0
room_for limit (piece ∷ pieces) = if nat_le piece.size limit then piece.size + room_for (limit - piece.size) pieces else 0

-- the longest front of at most `limit` bytes that cuts no character
unfoldable pub front_of : ℕ → List ℕ → List ℕ
front_of limit bytes = take (room_for limit (pieces_of bytes)) bytes

-- The text where it has at most `limit` bytes. Else a front that leaves room for three dots, and
-- the dots. A limit below three leaves room for fewer dots.
unfoldable pub cut_text : ℕ → List ℕ → List ℕ
cut_text limit text = if nat_le (length text) limit then text else front_of (limit - 3) text ++ take limit (codes "...")
