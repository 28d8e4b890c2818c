-- The front of a text is a text, and no longer one has room.
use Rattle.std.proofs.Common.{◌≡◌, ℕ, ◌+◌, ◌-◌, ◌<◌, ◌≤◌, true, List, [], ◌∷◌, ◌++◌, length, take, drop, sym, ap, subst, ◌∙◌, arith, ⊎_elim, append_assoc, length-append}
use Rattle.std.proofs.Math.Seq.{take-append-add}
use Rattle.std.proofs.lemmas.Bool.{cases_lt, and_parts}
use Rattle.std.proofs.lemmas.List.{take-append-drop, length-take-le}
use Rattle.std.proofs.lemmas.Str.{IsUtf8-take, IsUtf8-past_char, encode_same}
use Rattle.std.specs.Char.{encode_utf8}
use Rattle.std.specs.Str.{IsUtf8}
use Rattle.bstr.specs.Utf8.{good}
use lib.Utf8.{scalars, encodes}
use Rattle.term_text.specs.Pieces.{pieces_of}
use Rattle.term_text.specs.Fronts.{room_for, front_of}
use Rattle.term_text.proofs.Pieces.{pieces_of-encode}
use Rattle.term_text.proofs.Rooms.{room_for-fits, room_for-boundary}

pub front_of-IsUtf8 : (limit : ℕ) (text : List ℕ) → IsUtf8 text → IsUtf8 (front_of limit text)
unfolding front_of
front_of-IsUtf8 limit text utf8 = IsUtf8-take text _ utf8 (room_for-boundary limit text utf8)

-- characters in front of others begin with the whole of the first, or are none
whole_first : (character size : ℕ) (rest characters : List ℕ) → encodes characters ≡ take size (encode_utf8 character ++ rest) → 0 < size
    → size ≤ length (encode_utf8 character ++ rest) → length (encode_utf8 character) ≤ size
whole_first character size rest [] is some within =
    let bytes = encode_utf8 character ++ rest in
    absurd (omega (arith, ap length is, length-take-le size bytes within))
whole_first character size rest (first ∷ others) is some within =
    let bytes = encode_utf8 character ++ rest in
    let behind = drop size bytes in
    let split : encode_utf8 first ++ (encodes others ++ behind) ≡ encode_utf8 character ++ rest =
    sym (append_assoc (encode_utf8 first) (encodes others) behind) ∙ ap (λ t. t ++ behind) is ∙ take-append-drop size bytes in
    let same = (encode_same first character (encodes others ++ behind) rest split).0 in
    let width : length (encode_utf8 first) ≡ length (encode_utf8 character) = ap (λ c. length (encode_utf8 c)) same in
    omega (arith, width, ap length is, length-take-le size bytes within, length-append (encode_utf8 first) (encodes others))

longest : (characters : List ℕ) → scalars characters ≡ true → (limit size : ℕ) → size ≤ limit → size ≤ length (encodes characters)
    → IsUtf8 (take size (encodes characters)) → size ≤ room_for limit (pieces_of (encodes characters))
longest [] all limit size room within utf8 = omega arith
longest (character ∷ characters) all limit size room within utf8 =
    let both = and_parts _ _ all in
    let width = length (encode_utf8 character) in
    let rest = encodes characters in
    let step = pieces_of-encode character rest both.0 in
    ⊎_elim
    (λ (some : 0 < size).
    let whole = whole_first character size rest utf8.0 utf8.1.1 some within in
    let left : size ≡ width + (size - width) = omega arith in
    let split : take size (encode_utf8 character ++ rest) ≡ encode_utf8 character ++ take (size - width) rest =
    ap (λ n. take n (encode_utf8 character ++ rest)) left ∙ take-append-add (encode_utf8 character) rest (size - width) in
    let later =
    longest characters both.1 (limit - width) (size - width) (omega arith) (omega (arith, length-append (encode_utf8 character) rest))
    (IsUtf8-past_char _ (take (size - width) rest) character utf8 split) in
    rw (ap (room_for limit) step ∙ room_for-fits limit (good character width) (pieces_of rest) (omega arith)) (omega (arith, later)))
    (λ (none : size ≤ 0). omega arith)
    (cases_lt 0 size)

pub front_of-longest : (limit size : ℕ) (text : List ℕ) → IsUtf8 text → size ≤ limit → size ≤ length text → IsUtf8 (take size text) → size ≤ length (front_of limit text)
unfolding front_of
front_of-longest limit size text utf8 room within front =
    let far : size ≤ room_for limit (pieces_of text) =
    subst (λ t. size ≤ length t → IsUtf8 (take size t) → size ≤ room_for limit (pieces_of t)) utf8.1.1 (longest utf8.0 utf8.1.0 limit size room) within front in
    let place = (room_for-boundary limit text utf8).0 in
    omega (arith, length-take-le (room_for limit (pieces_of text)) text place)
