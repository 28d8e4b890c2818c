-- Characters and single bytes, in front of other bytes.
use Rattle.std.proofs.Common.{◌≡◌, ◌≢◌, ◌==◌, ℕ, false, List, ◌∷◌, ◌++◌, drop, Option, Some, None, codes, refl, ap, ◌∙◌, arith}
use Rattle.std.proofs.Math.Bool.{and-false}
use Rattle.std.proofs.lemmas.Bool.Decides.{nat_tests}
use Rattle.std.specs.Char.{encode_utf8, is_ascii_alphabetic, IsScalar}
use Rattle.std.specs.List.{flat_map}
use Rattle.std.specs.Str.{StartsWithNoChar}
use Rattle.std.specs.Str.Lossy.{replacement_bytes}
use Rattle.bstr.specs.Utf8.{Decoded, decoded, bad}
use Rattle.bstr.proofs.lemmas.SoundLemmas.{SpellsChar-decoded}
use Rattle.term_text.specs.Pieces.{character_or_byte, first_piece, pieces_of}
use Rattle.term_text.specs.Commands.{after_character}
use Rattle.term_text.specs.Shown.{shown_after, shown_character_after, shown_character, shown_pieces, shown_text, readable_piece, readable_text}
use Rattle.term_text.specs.declared.command_start.CommandStart.{CommandStart}
use Rattle.term_text.specs.declared.command_start.CommandStart.TheVariants as command_start
use Rattle.term_text.proofs.Pieces.{pieces_of-step, pieces_of-encode}

pub shown_after-encode : (start : CommandStart) (character : ℕ) (behind : List ℕ) → IsScalar character
    → shown_after start (encode_utf8 character ++ behind) ≡ shown_character_after start character ++ shown_after (after_character start character) behind
unfolding shown_after shown_pieces
shown_after-encode start character behind is = ap (shown_pieces start) (pieces_of-encode character behind is)

no_start : (character : ℕ) → character ≢ 35 → after_character command_start.Nothing character ≡ command_start.Nothing
no_start character other =
    let test : (character == 35) ≡ false = grind (arith, nat_tests) in
    rw (test, and-false (is_ascii_alphabetic character)) refl

-- a text with another first character than `#` is shown character by character
pub shown_text-encode : (character : ℕ) (behind : List ℕ) → IsScalar character → character ≢ 35
    → shown_text (encode_utf8 character ++ behind) ≡ shown_character character ++ shown_text behind
unfolding shown_text
shown_text-encode character behind is other =
    shown_after-encode command_start.Nothing character behind is ∙ ap (λ start. shown_character character ++ shown_after start behind) (no_start character other)

pub readable_text-encode : (character : ℕ) (behind : List ℕ) → IsScalar character
    → readable_text (encode_utf8 character ++ behind) ≡ encode_utf8 character ++ readable_text behind
unfolding readable_text
readable_text-encode character behind is = ap (flat_map (λ (piece : Decoded). readable_piece piece.char)) (pieces_of-encode character behind is)

one_byte : (found : Option ℕ) (size : ℕ) → ((y : ℕ) → found ≡ Some y → ⊥) → character_or_byte found size ≡ bad 1
one_byte None size none = refl
one_byte (Some y) size none = absurd (none y refl)

-- where no character begins, a single byte does
pieces_of-byte : (byte : ℕ) (behind : List ℕ) → StartsWithNoChar (byte ∷ behind) → pieces_of (byte ∷ behind) ≡ bad 1 ∷ pieces_of behind
unfolding first_piece
pieces_of-byte byte behind none =
    let bytes = byte ∷ behind in
    let first : first_piece bytes ≡ bad 1 =
    one_byte (decoded bytes).char (decoded bytes).size
    (λ y found. let spelled = SpellsChar-decoded bytes y found in none y (drop (decoded bytes).size bytes) spelled.scalar spelled.bytes) in
    pieces_of-step bytes (omega arith) ∙ ap (λ (piece : Decoded). piece ∷ pieces_of (drop piece.size bytes)) first

pub shown_after-byte : (start : CommandStart) (byte : ℕ) (behind : List ℕ) → StartsWithNoChar (byte ∷ behind)
    → shown_after start (byte ∷ behind) ≡ codes "\\ufffd" ++ shown_text behind
unfolding shown_after shown_pieces shown_text
shown_after-byte start byte behind none = ap (shown_pieces start) (pieces_of-byte byte behind none)

pub readable_text-byte : (byte : ℕ) (behind : List ℕ) → StartsWithNoChar (byte ∷ behind) → readable_text (byte ∷ behind) ≡ replacement_bytes ++ readable_text behind
unfolding readable_text
readable_text-byte byte behind none = ap (flat_map (λ (piece : Decoded). readable_piece piece.char)) (pieces_of-byte byte behind none)
