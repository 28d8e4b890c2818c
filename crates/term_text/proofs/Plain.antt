-- Nothing hidden and no command is shown.
use Rattle.std.proofs.Common.{◌≡◌, ℕ, zero, suc, ◌-◌, ◌/◌, ◌%◌, ◌<◌, ◌≤◌, nat_le, ◌==◌, ◌≢◌, Bool, true, false, not, if◌then◌else◌, List, [], ◌∷◌, ◌++◌, length, take, Option, Some, None, codes, refl, sym, ap, subst, ◌∙◌, arith, ⊎_elim, eqb-true, append-nil, length-append, length-take, lit<, lit≤}
use Rattle.std.specs.Prelude.{◌&&◌}
use Rattle.std.proofs.Math.Seq.{take-append-add}
use Rattle.std.proofs.lemmas.Bool.{cases_lt, and_parts, not-true}
use Rattle.std.proofs.lemmas.Bool.Decides.{nat_tests}
use Rattle.std.proofs.lemmas.Str.{IsUtf8-append, IsUtf8-encode, IsUtf8-nil, IsUtf8-from_ascii, NoCharPasses-nil, NoCharPasses-append, IsAscii-take, encodes-IsAscii, encodes_same}
use Rattle.std.specs.Char.{encode_utf8, digit_char, is_ascii_alphabetic}
use Rattle.std.specs.List.{flat_map, list_all}
use Rattle.std.specs.Str.{IsUtf8, IsAscii, NoCharPasses, NonePass}
use Rattle.bstr.specs.Utf8.{Decoded, decoded, good}
use Rattle.bstr.proofs.lemmas.SoundLemmas.{SpellsChar-decoded}
use lib.Utf8.{scalar, scalars, encodes}
use Rattle.term_text.specs.Pieces.{character_or_byte, first_piece, pieces_after, pieces_of}
use Rattle.term_text.specs.Commands.{HoldsNoCommand, after_character, after_piece, is_named}
use Rattle.term_text.specs.Shown.{is_hidden, escape, shown_after, shown_character, shown_piece, shown_pieces, shown_text, readable_piece, readable_text}
use Rattle.term_text.specs.Fronts.{room_for, front_of, cut_text}
use Rattle.term_text.specs.declared.command_start.CommandStart.{CommandStart}
use Rattle.term_text.specs.declared.command_start.CommandStart.TheVariants as command_start
use Rattle.term_text.proofs.Commands.{HoldsNoCommand-from, none_opens, none_opens-append, none_opens-backslash, none_opens-encode, none_opens-escape, none_opens-from, none_opens-take, starts_anew}
use Rattle.term_text.proofs.Pieces.{pieces_of-nil, pieces_of-encode}
use Rattle.term_text.proofs.Rooms.{room_for-nil, room_for-fits, room_for-over}
use Rattle.term_text.proofs.Texts.{escape-IsUtf8, escape-IsAscii}

visible : (byte : ℕ) → 32 ≤ byte → byte < 127 → is_hidden byte ≡ false
unfolding is_hidden
visible byte low high = grind (arith, nat_tests)

above_space : (character : ℕ) → is_hidden character ≡ false → 32 ≤ character
unfolding is_hidden
above_space character plain = grind (arith, nat_tests)

hidden_small : (character : ℕ) → is_hidden character ≡ true → character < 65536
unfolding is_hidden
hidden_small character hidden = grind (arith, nat_tests)

visible_digit : (digit : ℕ) → digit < 16 → is_hidden (digit_char digit) ≡ false
visible_digit digit small = visible (digit_char digit) (grind (arith, nat_tests)) (grind (arith, nat_tests))

escape-plain : (code : ℕ) → code < 65536 → NoCharPasses is_hidden (escape code)
escape-plain code small =
    let first = visible_digit (code / 4096) (omega arith) in
    let second = visible_digit (code / 256 % 16) (omega arith) in
    let third = visible_digit (code / 16 % 16) (omega arith) in
    let last = visible_digit (code % 16) (omega arith) in
    (escape code, encodes-IsAscii (escape code) (escape-IsAscii code small), (visible 92 (lit≤ tt) (lit< tt), (visible 117 (lit≤ tt) (lit< tt), (first, (second, (third, (last, tt)))))))

if_either : (P : List ℕ → Type 0) (test : Bool) (x y : List ℕ) → (test ≡ true → P x) → (test ≡ false → P y) → P (if test then x else y)
if_either P true x y then_is else_is = then_is refl
if_either P false x y then_is else_is = else_is refl

encode-plain : (character : ℕ) → is_hidden character ≡ false → NoCharPasses is_hidden (encode_utf8 character)
encode-plain character plain = (character ∷ [], append-nil (encode_utf8 character), (plain, tt))

two_ascii : (byte : ℕ) → byte < 128 → IsAscii (92 ∷ byte ∷ [])
two_ascii byte low zero = lit< tt
two_ascii byte low (suc zero) = low
two_ascii byte low (suc (suc index)) = lit< tt

two-plain : (byte : ℕ) → 32 ≤ byte → byte < 127 → NoCharPasses is_hidden (92 ∷ byte ∷ [])
two-plain byte low high =
    (92 ∷ byte ∷ [], encodes-IsAscii _ (two_ascii byte (omega arith)), (visible 92 (lit≤ tt) (lit< tt), (visible byte low high, tt)))

-- what is shown of a character that is no line feed, and of one that is no tab either
abbrev after_line_feed : ℕ → List ℕ
after_line_feed character = if character == 9 then codes "\\t" else (if is_hidden character then escape character else encode_utf8 character)

abbrev after_tab : ℕ → List ℕ
after_tab character = if is_hidden character then escape character else encode_utf8 character

-- what holds of each form in which a character is shown
shown_character-either : (P : List ℕ → Type 0) (character : ℕ) → (character ≡ 10 → P (92 ∷ 110 ∷ [])) → (character ≡ 9 → P (92 ∷ 116 ∷ []))
    → (is_hidden character ≡ true → P (escape character)) → (is_hidden character ≡ false → P (encode_utf8 character)) → P (shown_character character)
unfolding shown_character
shown_character-either P character line_feed tab hidden plain =
    if_either P (character == 10) (codes "\\n") (after_line_feed character) (λ is. line_feed (eqb-true character 10 is))
    (λ other. if_either P (character == 9) (codes "\\t") (after_tab character) (λ is. tab (eqb-true character 9 is))
    (λ no_tab. if_either P (is_hidden character) (escape character) (encode_utf8 character) hidden plain))

shown_character-plain : (character : ℕ) → NoCharPasses is_hidden (shown_character character)
shown_character-plain character =
    shown_character-either (NoCharPasses is_hidden) character (λ is. two-plain 110 (lit≤ tt) (lit< tt)) (λ is. two-plain 116 (lit≤ tt) (lit< tt))
    (λ hidden. escape-plain character (hidden_small character hidden)) (encode-plain character)

shown_character-IsUtf8 : (character : ℕ) → scalar character ≡ true → IsUtf8 (shown_character character)
shown_character-IsUtf8 character is =
    shown_character-either IsUtf8 character (λ is. IsUtf8-from_ascii (92 ∷ 110 ∷ []) (two_ascii 110 (lit< tt))) (λ is. IsUtf8-from_ascii (92 ∷ 116 ∷ []) (two_ascii 116 (lit< tt)))
    (λ hidden. escape-IsUtf8 character (hidden_small character hidden)) (λ plain. IsUtf8-encode character is)

-- an escaped character is less than 65536 where it is the `[` of a command
bracket_small : (start : CommandStart) (character : ℕ) → (is_named start && character == 91) ≡ true → character < 65536
bracket_small start character opens =
    let is : character ≡ 91 = eqb-true character 91 (and_parts _ _ opens).1 in
    rw is (lit< tt)

shown_piece-plain : (start : CommandStart) (character : Option ℕ) → NoCharPasses is_hidden (shown_piece start character)
shown_piece-plain start None = escape-plain 0xFFFD (lit< tt)
shown_piece-plain start (Some character) =
    if_either (NoCharPasses is_hidden) (is_named start && character == 91) (escape character) (shown_character character)
    (λ opens. escape-plain character (bracket_small start character opens)) (λ shut. shown_character-plain character)

shown_pieces-plain : (start : CommandStart) (pieces : List Decoded) → NoCharPasses is_hidden (shown_pieces start pieces)
unfolding shown_pieces
shown_pieces-plain start [] = NoCharPasses-nil is_hidden
shown_pieces-plain start (piece ∷ pieces) =
    NoCharPasses-append is_hidden _ _ (shown_piece-plain start piece.char) (shown_pieces-plain (after_piece start piece.char) pieces)

pub shown_text-plain : (bytes : List ℕ) → NoCharPasses is_hidden (shown_text bytes)
unfolding shown_text shown_after
shown_text-plain bytes = shown_pieces-plain command_start.Nothing (pieces_of bytes)

-- a character that is read is one
abbrev IsReal : Option ℕ → Type 0
IsReal None = Unit {0}
IsReal (Some character) = scalar character ≡ true

real : (character found : Option ℕ) (size : ℕ) → ((y : ℕ) → character ≡ Some y → scalar y ≡ true) → IsReal (character_or_byte character size).char
real None found size is = tt
real (Some character) found size is = is character refl

first_piece-real : (bytes : List ℕ) → IsReal (first_piece bytes).char
unfolding first_piece
first_piece-real bytes = real (decoded bytes).char None (decoded bytes).size (λ y found. (SpellsChar-decoded bytes y found).scalar)

shown_piece-IsUtf8 : (start : CommandStart) (character : Option ℕ) → IsReal character → IsUtf8 (shown_piece start character)
shown_piece-IsUtf8 start None is = escape-IsUtf8 0xFFFD (lit< tt)
shown_piece-IsUtf8 start (Some character) is =
    if_either IsUtf8 (is_named start && character == 91) (escape character) (shown_character character)
    (λ opens. escape-IsUtf8 character (bracket_small start character opens)) (λ shut. shown_character-IsUtf8 character is)

shown_after-IsUtf8 : (start : CommandStart) (passed : ℕ) (bytes : List ℕ) → IsUtf8 (shown_pieces start (pieces_after passed bytes))
unfolding shown_pieces pieces_after
shown_after-IsUtf8 start passed [] = IsUtf8-nil
shown_after-IsUtf8 start zero (byte ∷ bytes) =
    let first = first_piece (byte ∷ bytes) in
    IsUtf8-append _ _ (shown_piece-IsUtf8 start first.char (first_piece-real (byte ∷ bytes))) (shown_after-IsUtf8 (after_piece start first.char) (first.size - 1) bytes)
shown_after-IsUtf8 start (suc passed) (byte ∷ bytes) = shown_after-IsUtf8 start passed bytes

pub shown_text-IsUtf8 : (bytes : List ℕ) → IsUtf8 (shown_text bytes)
unfolding shown_text shown_after
shown_text-IsUtf8 bytes = shown_after-IsUtf8 command_start.Nothing 0 bytes

-- ---- no command

hidden_starts_anew : (start : CommandStart) (character : ℕ) → is_hidden character ≡ true → after_character start character ≡ command_start.Nothing
unfolding is_hidden
hidden_starts_anew start character hidden =
    let other : character ≢ 35 = grind (arith, nat_tests) in
    let none : is_ascii_alphabetic character ≡ false = grind (arith, nat_tests) in
    starts_anew start character other none

-- a character with another escape than that of a command
none_opens-shown : (start : CommandStart) (character : ℕ) (more : List ℕ) → (is_named start && character == 91) ≡ false
    → none_opens start (shown_character character ++ more) ≡ none_opens (after_character start character) more
none_opens-shown start character more shut =
    shown_character-either (λ shown. none_opens start (shown ++ more) ≡ none_opens (after_character start character) more) character
    (λ is. rw is (none_opens-backslash start (110 ∷ []) more refl)) (λ is. rw is (none_opens-backslash start (116 ∷ []) more refl))
    (λ hidden. rw (hidden_starts_anew start character hidden) (none_opens-escape start character more))
    (λ plain. none_opens-encode start character more ∙ ap (λ opens. not opens && none_opens (after_character start character) more) shut)

none_opens-piece : (start : CommandStart) (character : Option ℕ) (more : List ℕ)
    → none_opens start (shown_piece start character ++ more) ≡ none_opens (after_piece start character) more
none_opens-piece start None more = none_opens-escape start 0xFFFD more
none_opens-piece start (Some character) more =
    if_either (λ shown. none_opens start (shown ++ more) ≡ none_opens (after_character start character) more) (is_named start && character == 91)
    (escape character) (shown_character character)
    (λ opens. let is : character ≡ 91 = eqb-true character 91 (and_parts _ _ opens).1 in rw is (none_opens-escape start 91 more)) (none_opens-shown start character more)

none_opens-pieces : (start : CommandStart) (pieces : List Decoded) → none_opens start (shown_pieces start pieces) ≡ true
unfolding shown_pieces
none_opens-pieces start [] = refl
none_opens-pieces start (piece ∷ pieces) =
    none_opens-piece start piece.char (shown_pieces (after_piece start piece.char) pieces) ∙ none_opens-pieces (after_piece start piece.char) pieces

none_opens-shown_text : (bytes : List ℕ) → none_opens command_start.Nothing (shown_text bytes) ≡ true
unfolding shown_text shown_after
none_opens-shown_text bytes = none_opens-pieces command_start.Nothing (pieces_of bytes)

pub shown_text-no_command : (bytes : List ℕ) → HoldsNoCommand (shown_text bytes)
shown_text-no_command bytes = HoldsNoCommand-from command_start.Nothing (shown_text bytes) (none_opens-shown_text bytes)

no_bracket_in_dots : (limit : ℕ) → list_all (λ byte. not (byte == 91)) (take limit (codes "...")) ≡ true
no_bracket_in_dots zero = refl
no_bracket_in_dots (suc zero) = refl
no_bracket_in_dots (suc (suc zero)) = refl
no_bracket_in_dots (suc (suc (suc zero))) = refl
no_bracket_in_dots (suc (suc (suc (suc limit)))) = refl

pub cut_text-no_command : (limit : ℕ) (bytes : List ℕ) → HoldsNoCommand (cut_text limit (shown_text bytes))
unfolding cut_text front_of
cut_text-no_command limit bytes =
    let none = none_opens-shown_text bytes in
    let front = take (room_for (limit - 3) (pieces_of (shown_text bytes))) (shown_text bytes) in
    HoldsNoCommand-from command_start.Nothing _
    (if_either (λ text. none_opens command_start.Nothing text ≡ true) (nat_le (length (shown_text bytes)) limit) (shown_text bytes) (front ++ take limit (codes "..."))
    (λ short. none)
    (λ long. none_opens-append command_start.Nothing front (take limit (codes "...")) (none_opens-take command_start.Nothing _ (shown_text bytes) none) (no_bracket_in_dots limit)))

-- ---- fronts

NonePass-take : (p : ℕ → Bool) (count : ℕ) (characters : List ℕ) → NonePass p characters → NonePass p (take count characters)
NonePass-take p zero characters none = tt
NonePass-take p (suc count) [] none = tt
NonePass-take p (suc count) (character ∷ characters) none = (none.0, NonePass-take p count characters none.1)

-- the characters that have room
front_characters : (characters : List ℕ) → scalars characters ≡ true → (limit : ℕ)
    → (count : ℕ) × (take (room_for limit (pieces_of (encodes characters))) (encodes characters) ≡ encodes (take count characters))
front_characters [] all limit = (0, rw (room_for-nil limit [] refl) refl)
front_characters (character ∷ characters) all limit =
    let both = and_parts _ _ all in
    let width = length (encode_utf8 character) in
    let rest = encodes characters in
    let step = pieces_of-encode character rest both.0 in
    let first = good character width in
    ⊎_elim
    (λ (full : limit < width). let none = ap (room_for limit) step ∙ room_for-over limit first (pieces_of rest) full in (0, rw none refl))
    (λ (room : width ≤ limit). let some = ap (room_for limit) step ∙ room_for-fits limit first (pieces_of rest) room in
    let later = front_characters characters both.1 (limit - width) in
    (suc later.0, rw (some, take-append-add (encode_utf8 character) rest (room_for (limit - width) (pieces_of rest))) (ap (λ t. encode_utf8 character ++ t) later.1)))
    (cases_lt limit width)

front_of-plain : (limit : ℕ) (text : List ℕ) → IsUtf8 text → NoCharPasses is_hidden text → NoCharPasses is_hidden (front_of limit text)
unfolding front_of
front_of-plain limit text utf8 plain =
    let same : utf8.0 ≡ plain.0 = encodes_same utf8.0 plain.0 (utf8.1.1 ∙ sym plain.1) in
    let front = front_characters utf8.0 utf8.1.0 limit in
    let none : NonePass is_hidden (take front.0 utf8.0) = NonePass-take is_hidden front.0 utf8.0 (rw same plain.2) in
    subst (λ t. NoCharPasses is_hidden (take (room_for limit (pieces_of t)) t)) utf8.1.1 (take front.0 utf8.0, sym front.1, none)

dots_ascii : IsAscii (46 ∷ 46 ∷ 46 ∷ [])
dots_ascii zero = lit< tt
dots_ascii (suc zero) = lit< tt
dots_ascii (suc (suc zero)) = lit< tt
dots_ascii (suc (suc (suc index))) = lit< tt

dots-plain : (limit : ℕ) → NoCharPasses is_hidden (take limit (codes "..."))
dots-plain limit =
    let dot = visible 46 (lit≤ tt) (lit< tt) in
    let dots : NonePass is_hidden (46 ∷ 46 ∷ 46 ∷ []) = (dot, (dot, (dot, tt))) in
    (take limit (46 ∷ 46 ∷ 46 ∷ []), encodes-IsAscii _ (IsAscii-take (46 ∷ 46 ∷ 46 ∷ []) limit dots_ascii), NonePass-take is_hidden limit (46 ∷ 46 ∷ 46 ∷ []) dots)

pub cut_text-plain : (limit : ℕ) (bytes : List ℕ) → NoCharPasses is_hidden (cut_text limit (shown_text bytes))
unfolding cut_text
cut_text-plain limit bytes =
    let plain = shown_text-plain bytes in
    if_either (NoCharPasses is_hidden) _ _ _ (λ short. plain)
    (λ long. NoCharPasses-append is_hidden _ _ (front_of-plain (limit - 3) (shown_text bytes) (shown_text-IsUtf8 bytes) plain) (dots-plain limit))

room_for-within : (limit : ℕ) (pieces : List Decoded) → room_for limit pieces ≤ limit
unfolding room_for
room_for-within limit [] = omega arith
room_for-within limit (piece ∷ pieces) =
    ⊎_elim
    (λ (full : limit < piece.size). rw (room_for-over limit piece pieces full) (omega arith))
    (λ (room : piece.size ≤ limit). let later = room_for-within (limit - piece.size) pieces in rw (room_for-fits limit piece pieces room) (omega (arith, later)))
    (cases_lt limit piece.size)

if_length : (limit : ℕ) (test : Bool) (x y : List ℕ) → (test ≡ true → length x ≤ limit) → length y ≤ limit → length (if test then x else y) ≤ limit
if_length limit true x y then_is else_is = then_is refl
if_length limit false x y then_is else_is = else_is

pub cut_text-within : (limit : ℕ) (text : List ℕ) → length (cut_text limit text) ≤ limit
unfolding cut_text front_of
cut_text-within limit text =
    let room = room_for-within (limit - 3) (pieces_of text) in
    let front = take (room_for (limit - 3) (pieces_of text)) text in
    let dots = take limit (codes "...") in
    if_length limit (nat_le (length text) limit) text (front ++ dots) (λ short. grind (arith, nat_tests))
    (omega (arith, length-append front dots, length-take (room_for (limit - 3) (pieces_of text)) text, length-take limit (codes "...")))

-- ---- text that stands as it is

readable_encoded : (characters : List ℕ) → scalars characters ≡ true → readable_text (encodes characters) ≡ encodes characters
unfolding readable_text
readable_encoded [] all = ap (flat_map (λ (piece : Decoded). readable_piece piece.char)) pieces_of-nil
readable_encoded (character ∷ characters) all =
    let both = and_parts _ _ all in
    ap (flat_map (λ (piece : Decoded). readable_piece piece.char)) (pieces_of-encode character (encodes characters) both.0)
    ∙ ap (λ t. encode_utf8 character ++ t) (readable_encoded characters both.1)

pub readable_text-same : (text : List ℕ) → IsUtf8 text → readable_text text ≡ text
readable_text-same text utf8 = subst (λ t. readable_text t ≡ t) utf8.1.1 (readable_encoded utf8.0 utf8.1.0)

shown_character-same : (character : ℕ) → is_hidden character ≡ false → shown_character character ≡ encode_utf8 character
unfolding shown_character
shown_character-same character plain =
    let space = above_space character plain in
    let no_line_feed : (character == 10) ≡ false = grind (arith, nat_tests) in
    let no_tab : (character == 9) ≡ false = grind (arith, nat_tests) in
    rw (no_line_feed, no_tab, plain) refl

shown_encoded : (start : CommandStart) (characters : List ℕ) → scalars characters ≡ true → NonePass is_hidden characters → none_opens start (encodes characters) ≡ true
    → shown_after start (encodes characters) ≡ encodes characters
unfolding shown_after shown_pieces
shown_encoded start [] all plain none = ap (shown_pieces start) pieces_of-nil
shown_encoded start (character ∷ characters) all plain none =
    let both = and_parts _ _ all in
    let opens = and_parts _ _ (sym (none_opens-encode start character (encodes characters)) ∙ none) in
    let shut : (is_named start && character == 91) ≡ false = not-true _ opens.0 in
    ap (shown_pieces start) (pieces_of-encode character (encodes characters) both.0)
    ∙ ap (λ test. (if test then escape character else shown_character character) ++ shown_after (after_character start character) (encodes characters)) shut
    ∙ ap (λ t. t ++ shown_after (after_character start character) (encodes characters)) (shown_character-same character plain.0)
    ∙ ap (λ t. encode_utf8 character ++ t) (shown_encoded (after_character start character) characters both.1 plain.1 opens.1)

pub shown_text-same : (text : List ℕ) → IsUtf8 text → NoCharPasses is_hidden text → HoldsNoCommand text → shown_text text ≡ text
unfolding shown_text
shown_text-same text utf8 plain none =
    let same : utf8.0 ≡ plain.0 = encodes_same utf8.0 plain.0 (utf8.1.1 ∙ sym plain.1) in
    subst (λ t. none_opens command_start.Nothing t ≡ true → shown_after command_start.Nothing t ≡ t) utf8.1.1
    (shown_encoded command_start.Nothing utf8.0 utf8.1.0 (rw same plain.2)) (none_opens-from text none)

-- so an escaped text is its own escaped text
pub shown_text-twice : (bytes : List ℕ) → shown_text (shown_text bytes) ≡ shown_text bytes
shown_text-twice bytes = shown_text-same (shown_text bytes) (shown_text-IsUtf8 bytes) (shown_text-plain bytes) (shown_text-no_command bytes)
