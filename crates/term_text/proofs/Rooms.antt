-- Fronts of bytes, and of texts.
use Rattle.std.proofs.Common.{◌≡◌, ℕ, ◌+◌, ◌-◌, ◌<◌, ◌≤◌, nat_le, true, false, List, [], ◌∷◌, ◌++◌, length, take, drop, refl, sym, ap, ◌∙◌, arith, append_assoc, length-append}
use Rattle.std.proofs.Common.{subst, ⊎_elim, codes}
use Rattle.std.proofs.Math.Seq.{take-append-add}
use Rattle.std.proofs.lemmas.Bool.{cases_lt, and_parts}
use Rattle.std.proofs.lemmas.Str.{IsUtf8-append, IsUtf8-encode, IsUtf8-nil, IsCharBoundary-from_take}
use Rattle.std.specs.Char.{encode_utf8}
use Rattle.std.specs.Str.{IsUtf8, IsCharBoundary}
use lib.Utf8.{scalar, scalars, encodes}
use Rattle.bstr.specs.Utf8.{Decoded, good}
use Rattle.term_text.specs.Pieces.{first_piece, pieces_of}
use Rattle.term_text.specs.Fronts.{room_for, front_of, cut_text}
use Rattle.term_text.proofs.Pieces.{pieces_of-nil, pieces_of-step, pieces_of-encode}
use Rattle.std.proofs.lemmas.List.{nil_from_length, take_rest, drop-drop, length-drop, take-append-le}
use Rattle.std.proofs.lemmas.Bool.Decides.{nat_tests}

pub room_for-nil : (limit : ℕ) (bytes : List ℕ) → length bytes ≡ 0 → room_for limit (pieces_of bytes) ≡ 0
unfolding room_for
room_for-nil limit bytes none = rw (nil_from_length bytes none, pieces_of-nil)

pub room_for-step : (limit : ℕ) (bytes : List ℕ) → 0 < length bytes → (first_piece bytes).size ≤ limit
    → room_for limit (pieces_of bytes) ≡ (first_piece bytes).size + room_for (limit - (first_piece bytes).size) (pieces_of (drop (first_piece bytes).size bytes))
unfolding room_for
room_for-step limit bytes some room =
    let yes : nat_le (first_piece bytes).size limit ≡ true = grind (arith, nat_tests) in
    rw (pieces_of-step bytes some) (rw yes refl)

pub room_for-full : (limit : ℕ) (bytes : List ℕ) → 0 < length bytes → limit < (first_piece bytes).size → room_for limit (pieces_of bytes) ≡ 0
unfolding room_for
room_for-full limit bytes some full =
    let no : nat_le (first_piece bytes).size limit ≡ false = grind (arith, nat_tests) in
    rw (pieces_of-step bytes some) (rw no refl)

-- one more piece has room
pub room_for-more : (size limit more whole : ℕ) (bytes tail : List ℕ) → size < length bytes → tail ≡ take (length bytes - size) (drop size bytes)
    → more ≡ (first_piece tail).size → more ≤ limit - size
    → size + room_for (limit - size) (pieces_of (drop size bytes)) ≡ whole
    → (size + more) + room_for (limit - (size + more)) (pieces_of (drop (size + more) bytes)) ≡ whole
room_for-more size limit more whole bytes tail some tail_is more_is room so_far =
    let left : tail ≡ drop size bytes = tail_is ∙ take_rest bytes size in
    let wide : more ≡ (first_piece (drop size bytes)).size = more_is ∙ ap (λ t. (first_piece t).size) left in
    let step = room_for-step (limit - size) (drop size bytes) (omega (arith, length-drop size bytes)) (rw (← wide) room) in
    let there : drop more (drop size bytes) ≡ drop (size + more) bytes = drop-drop more size bytes in
    let less : limit - size - more ≡ limit - (size + more) = omega arith in
    let next : room_for (limit - size) (pieces_of (drop size bytes)) ≡ more + room_for (limit - (size + more)) (pieces_of (drop (size + more) bytes)) =
    rw (← less, ← there) (rw (← wide) at step) in
    omega (arith, next, so_far)

-- the next piece has none
pub room_for-last : (size limit more whole : ℕ) (bytes tail : List ℕ) → size < length bytes → tail ≡ take (length bytes - size) (drop size bytes)
    → more ≡ (first_piece tail).size → limit - size < more
    → size + room_for (limit - size) (pieces_of (drop size bytes)) ≡ whole → size ≡ whole
room_for-last size limit more whole bytes tail some tail_is more_is full so_far =
    let left : tail ≡ drop size bytes = tail_is ∙ take_rest bytes size in
    let wide : more ≡ (first_piece (drop size bytes)).size = more_is ∙ ap (λ t. (first_piece t).size) left in
    let none = room_for-full (limit - size) (drop size bytes) (omega (arith, length-drop size bytes)) (rw (← wide) full) in
    omega (arith, none, so_far)

-- no piece is left
pub room_for-end : (size limit whole : ℕ) (bytes : List ℕ) → length bytes ≤ size
    → size + room_for (limit - size) (pieces_of (drop size bytes)) ≡ whole → size ≡ whole
room_for-end size limit whole bytes past so_far =
    let none = room_for-nil (limit - size) (drop size bytes) (omega (arith, length-drop size bytes)) in
    omega (arith, none, so_far)

pub room_for-fits : (limit : ℕ) (piece : Decoded) (pieces : List Decoded) → piece.size ≤ limit → room_for limit (piece ∷ pieces) ≡ piece.size + room_for (limit - piece.size) pieces
unfolding room_for
room_for-fits limit piece pieces room =
    let yes : nat_le piece.size limit ≡ true = grind (arith, nat_tests) in
    rw yes refl

pub room_for-over : (limit : ℕ) (piece : Decoded) (pieces : List Decoded) → limit < piece.size → room_for limit (piece ∷ pieces) ≡ 0
unfolding room_for
room_for-over limit piece pieces full =
    let no : nat_le piece.size limit ≡ false = grind (arith, nat_tests) in
    rw no refl

-- the front of a text that has room is a text
abbrev IsTextFront : List ℕ → ℕ → Type 0
IsTextFront text size = (size ≤ length text) × IsUtf8 (take size text)

text_front-more : (character size : ℕ) (rest : List ℕ) → scalar character ≡ true → IsTextFront rest size
    → IsTextFront (encode_utf8 character ++ rest) (length (encode_utf8 character) + size)
text_front-more character size rest is front = (
  omega (arith, length-append (encode_utf8 character) rest, front.0),
  rw (take-append-add (encode_utf8 character) rest size) (IsUtf8-append _ _ (IsUtf8-encode character is) front.1),
)

text_front : (characters : List ℕ) → scalars characters ≡ true → (limit : ℕ) → IsTextFront (encodes characters) (room_for limit (pieces_of (encodes characters)))
text_front [] all limit = rw (room_for-nil limit [] refl) (omega arith, IsUtf8-nil)
text_front (character ∷ characters) all limit =
    let both = and_parts _ _ all in
    let width = length (encode_utf8 character) in
    let rest = encodes characters in
    let step = pieces_of-encode character rest both.0 in
    let first = good character width in
    ⊎_elim
    (λ (full : limit < width). let none = ap (room_for limit) step ∙ room_for-over limit first (pieces_of rest) full in rw none (omega arith, IsUtf8-nil))
    (λ (room : width ≤ limit). let some = ap (room_for limit) step ∙ room_for-fits limit first (pieces_of rest) room in
    rw some (text_front-more character _ rest both.0 (text_front characters both.1 (limit - width))))
    (cases_lt limit width)

-- a text can be cut where room ends
pub room_for-boundary : (limit : ℕ) (text : List ℕ) → IsUtf8 text → IsCharBoundary text (room_for limit (pieces_of text))
room_for-boundary limit text utf8 =
    let front : IsTextFront text (room_for limit (pieces_of text)) =
    subst (λ t. IsTextFront t (room_for limit (pieces_of t))) utf8.1.1 (text_front utf8.0 utf8.1.0 limit) in
    IsCharBoundary-from_take text _ utf8 front.0 front.1

-- bytes after a text that is too long change nothing
same_room : (characters : List ℕ) → scalars characters ≡ true → (limit : ℕ) (more : List ℕ) → limit < length (encodes characters)
    → room_for limit (pieces_of (encodes characters ++ more)) ≡ room_for limit (pieces_of (encodes characters))
same_room [] all limit more short = absurd (omega arith)
same_room (character ∷ characters) all limit more short =
    let both = and_parts _ _ all in
    let width = length (encode_utf8 character) in
    let rest = encodes characters in
    let first = good character width in
    let here = pieces_of-encode character rest both.0 in
    let there : pieces_of ((encode_utf8 character ++ rest) ++ more) ≡ first ∷ pieces_of (rest ++ more) =
    ap pieces_of (append_assoc (encode_utf8 character) rest more) ∙ pieces_of-encode character (rest ++ more) both.0 in
    ⊎_elim
    (λ (full : limit < width). ap (room_for limit) there ∙ room_for-over limit first (pieces_of (rest ++ more)) full
    ∙ sym (ap (room_for limit) here ∙ room_for-over limit first (pieces_of rest) full))
    (λ (room : width ≤ limit). ap (room_for limit) there ∙ room_for-fits limit first (pieces_of (rest ++ more)) room
    ∙ ap (λ n. width + n) (same_room characters both.1 (limit - width) more (omega (arith, length-append (encode_utf8 character) rest)))
    ∙ sym (ap (room_for limit) here ∙ room_for-fits limit first (pieces_of rest) room))
    (cases_lt limit width)

pub cut_text-short : (limit : ℕ) (text whole : List ℕ) → length text ≤ limit → text ≡ whole → text ≡ cut_text limit whole
unfolding cut_text
cut_text-short limit text whole short same =
    let yes : nat_le (length text) limit ≡ true = grind (arith, nat_tests) in
    rw (← same) (rw yes refl)

-- of a longer text, a front that is longer than the limit is enough
pub cut_text-long : (limit : ℕ) (text rest whole : List ℕ) → IsUtf8 text → limit < length text → text ++ rest ≡ whole
    → front_of (limit - 3) text ++ take limit (codes "...") ≡ cut_text limit whole
unfolding cut_text front_of
cut_text-long limit text rest whole utf8 long same =
    let no : nat_le (length (text ++ rest)) limit ≡ false = let more : limit < length (text ++ rest) = omega (arith, length-append text rest) in grind (arith, nat_tests) in
    let room : room_for (limit - 3) (pieces_of (text ++ rest)) ≡ room_for (limit - 3) (pieces_of text) =
    subst (λ t. limit < length t → room_for (limit - 3) (pieces_of (t ++ rest)) ≡ room_for (limit - 3) (pieces_of t)) utf8.1.1
    (λ far. same_room utf8.0 utf8.1.0 (limit - 3) rest (omega arith)) long in
    let within = (room_for-boundary (limit - 3) text utf8).0 in
    rw (← same) (rw (no, room, take-append-le _ text rest within) refl)
