-- Pieces, one after the other.
use Rattle.std.proofs.Common.{◌≡◌, ℕ, zero, suc, ◌-◌, ◌<◌, ◌≤◌, true, List, [], ◌∷◌, ◌++◌, length, drop, Option, Some, None, refl, ap, ◌∙◌, arith, drop_at}
use Rattle.std.specs.Char.{encode_utf8}
use Rattle.bstr.specs.Utf8.{Decoded, decoded, good}
use Rattle.bstr.proofs.lemmas.PieceLemmas.{piece-bounds}
use Rattle.bstr.proofs.lemmas.EncodeLemmas.{decoded-encode}
use Rattle.std.proofs.Common.{length-append}
use Rattle.std.proofs.lemmas.Str.{length-encode, len_utf8_bounds}
use lib.Utf8.{scalar}
use Rattle.term_text.specs.Pieces.{character_or_byte, first_piece, pieces_after, pieces_of}

size_within : (character : Option ℕ) (size whole : ℕ) → 1 ≤ size → size ≤ whole → (1 ≤ (character_or_byte character size).size) × ((character_or_byte character size).size ≤ whole)
size_within None size whole some within = (omega arith, omega arith)
size_within (Some character) size whole some within = (some, within)

pub first_piece-size : (bytes : List ℕ) → 0 < length bytes → (1 ≤ (first_piece bytes).size) × ((first_piece bytes).size ≤ length bytes)
unfolding first_piece
first_piece-size bytes some =
    let bounds = piece-bounds bytes some in
    size_within (decoded bytes).char (decoded bytes).size (length bytes) bounds.0 bounds.2

pieces_after-drop : (passed : ℕ) (bytes : List ℕ) → pieces_after passed bytes ≡ pieces_after 0 (drop passed bytes)
unfolding pieces_after
pieces_after-drop zero bytes = refl
pieces_after-drop (suc passed) [] = refl
pieces_after-drop (suc passed) (byte ∷ bytes) = pieces_after-drop passed bytes

pub pieces_of-nil : pieces_of [] ≡ []
unfolding pieces_after
pieces_of-nil = refl

drop_first : (byte : ℕ) (bytes : List ℕ) (size : ℕ) → 1 ≤ size → drop (size - 1) bytes ≡ drop size (byte ∷ bytes)
drop_first byte bytes zero some = absurd (omega arith)
drop_first byte bytes (suc size) some = let same : suc size - 1 ≡ size = omega arith in ap (λ n. drop n bytes) same

pub pieces_of-step : (bytes : List ℕ) → 0 < length bytes → pieces_of bytes ≡ first_piece bytes ∷ pieces_of (drop (first_piece bytes).size bytes)
unfolding pieces_after
pieces_of-step [] some = absurd (omega arith)
pieces_of-step (byte ∷ bytes) some =
    let size = (first_piece (byte ∷ bytes)).size in
    ap (λ pieces. first_piece (byte ∷ bytes) ∷ pieces)
    (pieces_after-drop (size - 1) bytes ∙ ap (λ left. pieces_after 0 left) (drop_first byte bytes size (first_piece-size (byte ∷ bytes) some).0))

first_piece-encode : (character : ℕ) (rest : List ℕ) → scalar character ≡ true → first_piece (encode_utf8 character ++ rest) ≡ good character (length (encode_utf8 character))
unfolding first_piece
first_piece-encode character rest is = ap (λ (d : Decoded). character_or_byte d.char d.size) (decoded-encode character rest is)

some_encoded : (character : ℕ) (rest : List ℕ) → 0 < length (encode_utf8 character ++ rest)
some_encoded character rest =
    let bounds = len_utf8_bounds character in
    omega (arith, length-encode character, length-append (encode_utf8 character) rest)

-- a character in front of other bytes is their first piece
pub pieces_of-encode : (character : ℕ) (rest : List ℕ) → scalar character ≡ true
    → pieces_of (encode_utf8 character ++ rest) ≡ good character (length (encode_utf8 character)) ∷ pieces_of rest
pieces_of-encode character rest is =
    let bytes = encode_utf8 character ++ rest in
    let first = first_piece-encode character rest is in
    pieces_of-step bytes (some_encoded character rest)
    ∙ ap (λ (piece : Decoded). piece ∷ pieces_of (drop piece.size bytes)) first
    ∙ ap (λ left. good character (length (encode_utf8 character)) ∷ pieces_of left) (drop_at (encode_utf8 character) rest (length (encode_utf8 character)) refl)
