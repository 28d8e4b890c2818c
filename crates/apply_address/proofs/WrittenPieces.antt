-- The pieces that are written are read.
use Rattle.std.proofs.Common.{◌≡◌, ◌≢◌, ℕ, zero, suc, ◌<◌, ◌≤◌, ◌==◌, nat_lt, false, cond, List, [], ◌∷◌, ◌++◌, length, take, drop, Option, Some, None, refl, sym, ap, ◌∙◌, arith, append_assoc, length-append, drop_at, take_at, unwrap_or, lit<}
use Rattle.std.specs.Prelude.{IsSome}
use Rattle.std.specs.Char.{IsScalar, encode_utf8}
use Rattle.std.specs.List.{AllByRecursion}
use Rattle.std.specs.Str.Parse.{digits_value}
use Rattle.std.proofs.lemmas.Bool.Decides.{nat_tests}
use Rattle.std.proofs.lemmas.Str.{encode_ascii, len_utf8_bounds, length-encode}
use Rattle.apply_address.specs.Pieces.{AreDigits, IsPiece, Piece, character_of, escape, escaped_character, is_doubled, long, plain, unescaped_text, short, written_piece, written_text}
use Rattle.apply_address.specs.Reading.{after_pieces, character_at, code_at, escape_at, piece_at, unescaped_pieces}
use Rattle.apply_address.proofs.Digits.{hexadecimal-value}
use Rattle.apply_address.proofs.LocatedPieces.{character_at-encode, doubled-quote, joined}
use Rattle.apply_address.proofs.Quotes.{after_pieces-end, after_pieces-step, unescaped_pieces-end, unescaped_pieces-step}

scalar_low : (byte : ℕ) → byte < 128 → IsScalar byte
scalar_low byte low = grind (arith, nat_tests)

pub character_at-ascii : (byte : ℕ) (rest : List ℕ) → byte < 128 → character_at (byte ∷ rest) ≡ Some (byte, rest)
character_at-ascii byte rest low =
    ap (λ t. character_at (t ++ rest)) (sym (encode_ascii byte low)) ∙ character_at-encode byte rest (scalar_low byte low)

code_written : (count : ℕ) (digits remainder : List ℕ) → AreDigits count digits → code_at count (digits ++ remainder) ≡ Some (digits_value 16 digits, remainder)
unfolding code_at
code_written count digits remainder are =
    let long_enough : nat_lt (length (digits ++ remainder)) count ≡ false = let whole = length-append digits remainder in let same = are.0 in grind (arith, nat_tests) in
    let front : take count (digits ++ remainder) ≡ digits = take_at digits remainder count are.0 in
    let rest : drop count (digits ++ remainder) ≡ remainder = drop_at digits remainder count are.0 in
    rw (long_enough, front, hexadecimal-value digits are.1) (rw (are.2, rest) refl)

some_of : (o : Option ℕ) → IsSome o → (x : ℕ) × (o ≡ Some x)
some_of None some = absurd cc
some_of (Some x) some = (x, refl)

letter_low : (letter x : ℕ) → escaped_character letter ≡ Some x → (letter < 128) × ((letter == 117) ≡ false) × ((letter == 85) ≡ false)
letter_low letter x is = (grind (arith, nat_tests), grind (arith, nat_tests), grind (arith, nat_tests))

escape_of : (text : List ℕ) → piece_at (92 ∷ text) ≡ escape_at text
unfolding piece_at
escape_of text = rw (character_at-ascii 92 text (lit< tt)) refl

letter_written : (letter x : ℕ) (remainder : List ℕ) → escaped_character letter ≡ Some x → escape_at (letter ∷ remainder) ≡ Some (x, remainder)
unfolding escape_at
letter_written letter x remainder is =
    let low = letter_low letter x is in
    rw (character_at-ascii letter remainder low.0) (rw (low.1, low.2, is) refl)

short_written : (digits remainder : List ℕ) → AreDigits 4 digits → escape_at (117 ∷ (digits ++ remainder)) ≡ Some (digits_value 16 digits, remainder)
unfolding escape_at
short_written digits remainder are = rw (character_at-ascii 117 (digits ++ remainder) (lit< tt)) (code_written 4 digits remainder are)

long_written : (digits remainder : List ℕ) → AreDigits 8 digits → escape_at (85 ∷ (digits ++ remainder)) ≡ Some (digits_value 16 digits, remainder)
unfolding escape_at
long_written digits remainder are = rw (character_at-ascii 85 (digits ++ remainder) (lit< tt)) (code_written 8 digits remainder are)

plain_written : (character : ℕ) (remainder : List ℕ) → IsScalar character → character ≢ 34 → character ≢ 92 → piece_at (encode_utf8 character ++ remainder) ≡ Some (character, remainder)
unfolding piece_at
plain_written character remainder is no_quote no_backslash =
    let first : (character == 34) ≡ false = grind (arith, nat_tests) in
    let second : (character == 92) ≡ false = grind (arith, nat_tests) in
    rw (character_at-encode character remainder is) (rw (first, second) refl)

pub piece_written : (piece : Piece) (remainder : List ℕ) → IsPiece piece → piece_at (written_piece piece ++ remainder) ≡ Some (character_of piece, remainder)
piece_written (plain character) remainder is = plain_written character remainder is.0 is.1 is.2
piece_written (escape letter) remainder is =
    let answer = some_of (escaped_character letter) is in
    escape_of (letter ∷ remainder) ∙ letter_written letter answer.0 remainder answer.1 ∙ ap (λ (x : ℕ). Some (x, remainder)) (sym (ap (λ o. unwrap_or o letter) answer.1))
piece_written (short digits) remainder is = escape_of (117 ∷ (digits ++ remainder)) ∙ short_written digits remainder is
piece_written (long digits) remainder is = escape_of (85 ∷ (digits ++ remainder)) ∙ long_written digits remainder is

quote_at : (tail : List ℕ) → piece_at (34 ∷ tail) ≡ None
unfolding piece_at
quote_at tail = rw (character_at-ascii 34 tail (lit< tt)) refl

some_bytes : (piece : Piece) → 0 < length (written_piece piece)
some_bytes (plain character) = let bounds = len_utf8_bounds character in omega (arith, length-encode character)
some_bytes (escape letter) = omega arith
some_bytes (short digits) = omega arith
some_bytes (long digits) = omega arith

pub length-written : (pieces : List Piece) → length pieces ≤ length (written_text pieces)
length-written [] = omega arith
length-written (piece ∷ pieces) = omega (arith, some_bytes piece, length-written pieces, length-append (written_piece piece) (written_text pieces))

-- what is read from pieces with a quote after them
pub record AreRead (most : ℕ) (pieces : List Piece) (tail : List ℕ) : Type 0 where
  pub remainder : after_pieces most (written_text pieces ++ 34 ∷ tail) ≡ 34 ∷ tail
  pub content : unescaped_pieces most (written_text pieces ++ 34 ∷ tail) ≡ unescaped_text pieces

one_read : (most : ℕ) (piece : Piece) (pieces : List Piece) (tail : List ℕ) → IsPiece piece → AreRead most pieces tail → AreRead (suc most) (piece ∷ pieces) tail
one_read most piece pieces tail is others =
    let rest = written_text pieces ++ 34 ∷ tail in
    let text = written_text (piece ∷ pieces) ++ 34 ∷ tail in
    let first : piece_at text ≡ Some (character_of piece, rest) = ap piece_at (append_assoc (written_piece piece) (written_text pieces) (34 ∷ tail)) ∙ piece_written piece rest is in
    record {
      remainder = after_pieces-step most text rest (character_of piece) first ∙ others.remainder;
      content = unescaped_pieces-step most text rest (character_of piece) first ∙ ap (λ t. cond (is_doubled text) [] (encode_utf8 (character_of piece)) ++ t) others.content
          ∙ ap (λ b. cond b [] (encode_utf8 (character_of piece)) ++ unescaped_text pieces) (doubled-quote (written_text (piece ∷ pieces)) tail)
          ∙ joined (is_doubled (written_text (piece ∷ pieces))) (encode_utf8 (character_of piece)) (unescaped_text pieces);
    }

pub pieces_read : (most : ℕ) (pieces : List Piece) (tail : List ℕ) → AllByRecursion IsPiece pieces → length pieces ≤ most → AreRead most pieces tail
pieces_read most [] tail are room = record { remainder = after_pieces-end most (34 ∷ tail) (quote_at tail); content = unescaped_pieces-end most (34 ∷ tail) (quote_at tail) }
pieces_read zero (piece ∷ pieces) tail are room = absurd (omega arith)
pieces_read (suc most) (piece ∷ pieces) tail are room = one_read most piece pieces tail are.0 (pieces_read most pieces tail are.1 (omega arith))
