-- What is shown, one piece after the other.
use Rattle.std.proofs.Common.{◌≡◌, ℕ, zero, suc, ◌/◌, ◌%◌, ◌<◌, List, [], ◌∷◌, ◌++◌, ◌-◌, ◌≤◌, length, drop, take, sym, ◌∙◌, append_assoc, length-take, Option, Some, None, unwrap_or, refl, ap, arith, lit<}
use Rattle.std.specs.Char.{encode_utf8, digit_char}
use Rattle.std.proofs.Common.{Result, Ok, Err, MatchResult, IsOk}
use Rattle.std.specs.Str.{IsUtf8, IsAscii, IsCharBoundary}
use Rattle.std.proofs.lemmas.Str.{IsUtf8-from_ascii, IsCharBoundary-from_take}
use Rattle.std.proofs.lemmas.Bool.Decides.{nat_tests}
use Rattle.std.specs.List.{flat_map}
use Rattle.std.proofs.lemmas.List.{nil_from_length, take_rest, take-append-le, append-nil}
use Rattle.bstr.specs.Utf8.{Decoded}
use Rattle.term_text.specs.Pieces.{first_piece}
use Rattle.term_text.specs.Commands.{after_piece}
use Rattle.term_text.specs.Shown.{escape, shown_after, shown_piece, shown_pieces, shown_text, readable_piece, readable_text}
use Rattle.term_text.specs.declared.command_start.CommandStart.{CommandStart}
use Rattle.term_text.specs.declared.command_start.CommandStart.TheVariants as command_start
use Rattle.term_text.proofs.Pieces.{pieces_of-nil, pieces_of-step}

pub shown_after-step : (start : CommandStart) (bytes : List ℕ) → 0 < length bytes
    → shown_after start bytes ≡ shown_piece start (first_piece bytes).char ++ shown_after (after_piece start (first_piece bytes).char) (drop (first_piece bytes).size bytes)
unfolding shown_after shown_pieces
shown_after-step start bytes some = ap (shown_pieces start) (pieces_of-step bytes some)

pub shown_after-nil : (start : CommandStart) (bytes : List ℕ) → length bytes ≡ 0 → shown_after start bytes ≡ []
unfolding shown_after shown_pieces
shown_after-nil start bytes none = rw (nil_from_length bytes none, pieces_of-nil)

-- nothing stands in front of a text
pub shown_text-after : (bytes : List ℕ) → shown_text bytes ≡ shown_after command_start.Nothing bytes
unfolding shown_text
shown_text-after bytes = refl

pub readable_text-step : (bytes : List ℕ) → 0 < length bytes → readable_text bytes ≡ readable_piece (first_piece bytes).char ++ readable_text (drop (first_piece bytes).size bytes)
unfolding readable_text
readable_text-step bytes some = ap (flat_map (λ (piece : Decoded). readable_piece piece.char)) (pieces_of-step bytes some)

pub readable_text-nil : (bytes : List ℕ) → length bytes ≡ 0 → readable_text bytes ≡ []
unfolding readable_text
readable_text-nil bytes none = rw (nil_from_length bytes none, pieces_of-nil)

digit_ascii : (digit : ℕ) → digit < 16 → digit_char digit < 128
digit_ascii digit small = grind (arith, nat_tests)

six_ascii : (a b c d e f : ℕ) → a < 128 → b < 128 → c < 128 → d < 128 → e < 128 → f < 128 → IsAscii (a ∷ b ∷ c ∷ d ∷ e ∷ f ∷ [])
six_ascii a b c d e f a_is b_is c_is d_is e_is f_is zero = a_is
six_ascii a b c d e f a_is b_is c_is d_is e_is f_is (suc zero) = b_is
six_ascii a b c d e f a_is b_is c_is d_is e_is f_is (suc (suc zero)) = c_is
six_ascii a b c d e f a_is b_is c_is d_is e_is f_is (suc (suc (suc zero))) = d_is
six_ascii a b c d e f a_is b_is c_is d_is e_is f_is (suc (suc (suc (suc zero)))) = e_is
six_ascii a b c d e f a_is b_is c_is d_is e_is f_is (suc (suc (suc (suc (suc zero))))) = f_is
six_ascii a b c d e f a_is b_is c_is d_is e_is f_is (suc (suc (suc (suc (suc (suc index)))))) = lit< tt

-- an escape is ASCII
pub escape-IsAscii : (code : ℕ) → code < 65536 → IsAscii (escape code)
escape-IsAscii code small =
    let first = digit_ascii (code / 4096) (omega arith) in
    let second = digit_ascii (code / 256 % 16) (omega arith) in
    let third = digit_ascii (code / 16 % 16) (omega arith) in
    let last = digit_ascii (code % 16) (omega arith) in
    six_ascii _ _ _ _ _ _ (lit< tt) (lit< tt) first second third last

pub escape-IsUtf8 : (code : ℕ) → code < 65536 → IsUtf8 (escape code)
escape-IsUtf8 code small = IsUtf8-from_ascii (escape code) (escape-IsAscii code small)

-- what is pushed for a piece that is read
pub readable_piece-unwrap : (piece : Option ℕ) → readable_piece piece ≡ encode_utf8 (unwrap_or piece 0xFFFD)
unfolding encode_utf8
readable_piece-unwrap None = refl
readable_piece-unwrap (Some character) = refl

-- one more piece, between the appended text and the rest
pub added-more : (start next : CommandStart) (before text rest whole : List ℕ) (character : Option ℕ) (size : ℕ) → 0 < length rest
    → character ≡ (first_piece rest).char → size ≡ (first_piece rest).size
    → text ≡ before ++ shown_piece start character → next ≡ after_piece start character → before ++ shown_after start rest ≡ whole
    → text ++ shown_after next (take (length rest - size) (drop size rest)) ≡ whole
added-more start next before text rest whole character size some character_is size_is grown next_is so_far =
    rw (take_rest rest size, grown, next_is, character_is, size_is, append_assoc, ← shown_after-step start rest some) so_far

pub read-more : (before text rest whole : List ℕ) (character : Option ℕ) (size : ℕ) → 0 < length rest
    → character ≡ (first_piece rest).char → size ≡ (first_piece rest).size
    → text ≡ before ++ encode_utf8 (unwrap_or character 0xFFFD) → before ++ readable_text rest ≡ whole
    → text ++ readable_text (take (length rest - size) (drop size rest)) ≡ whole
read-more before text rest whole character size some character_is size_is grown so_far =
    rw (take_rest rest size, grown, ← readable_piece-unwrap character, character_is, size_is, append_assoc, ← readable_text-step rest some) so_far

-- what a text had stays in front of what is added
pub kept-more : (old text more : List ℕ) → take (length old) text ≡ old → take (length old) (text ++ more) ≡ old
kept-more old text more kept =
    let long : length old ≤ length text = omega (arith, length-take (length old) text, ap length kept) in
    rw take-append-le kept

-- nothing is left
pub all_added : (start : CommandStart) (text rest whole : List ℕ) → length rest ≡ 0 → text ++ shown_after start rest ≡ whole → text ≡ whole
all_added start text rest whole none added = sym (append-nil text) ∙ ap (λ more. text ++ more) (sym (shown_after-nil start rest none)) ∙ added

pub all_read : (text rest whole : List ℕ) → length rest ≡ 0 → text ++ readable_text rest ≡ whole → text ≡ whole
all_read text rest whole none added = sym (append-nil text) ∙ ap (λ more. text ++ more) (sym (readable_text-nil rest none)) ∙ added

-- bytes that are UTF-8 are read as such
pub IsOk-utf8 : {X E : Type 0} (bytes : List ℕ) (P : X → Type 0) (Q : E → Type 0) (read : Result X E)
    → MatchResult read P (λ e. ¬ (IsUtf8 bytes) × Q e) → IsUtf8 bytes → IsOk read
IsOk-utf8 bytes P Q (Ok text) said utf8 = refl
IsOk-utf8 bytes P Q (Err e) said utf8 = absurd (said.0 utf8)

-- what a text had can be cut off again
pub preserved_split : (old text : List ℕ) → IsUtf8 old → IsUtf8 text → take (length old) text ≡ old → IsCharBoundary text (length old)
preserved_split old text old_utf8 utf8 kept =
    let long : length old ≤ length text = omega (arith, length-take (length old) text, ap length kept) in
    IsCharBoundary-from_take text (length old) utf8 long (rw kept old_utf8)

pub none_left : (left : ℕ) → (0 < left → ⊥) → left ≡ 0
none_left zero none = refl
none_left (suc left) none = absurd (none (omega arith))
