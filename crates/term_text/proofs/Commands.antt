-- No command is shown.
use Rattle.std.proofs.Common.{◌≡◌, ◌≢◌, ◌∙◌, ℕ, ◌<◌, ◌≤◌, ◌==◌, zero, suc, Bool, true, false, not, List, [], ◌∷◌, ◌++◌, ◌/◌, ◌%◌, length, take, get_or, refl, sym, ap, arith, ⊎_elim, append_assoc, append-nil, eqb-true}
use Rattle.std.specs.Prelude.{◌&&◌, if◌then◌else◌}
use Rattle.std.specs.Char.{encode_utf8, digit_char, is_ascii_alphabetic}
use Rattle.std.specs.List.{list_all}
use Rattle.std.proofs.Math.Bool.{and-false}
use Rattle.std.proofs.lemmas.Bool.{cases_Bool, cases_lt, and_parts, true≢false}
use Rattle.std.proofs.lemmas.Bool.Decides.{nat_tests}
use Rattle.std.proofs.lemmas.Str.{encode_ascii, inside_one, length-encode, len_utf8_bounds}
use Rattle.term_text.specs.Commands.{HoldsNoCommand, after_character, after_hash, is_named}
use Rattle.term_text.specs.Shown.{escape}
use Rattle.term_text.specs.declared.command_start.CommandStart.{CommandStart}
use Rattle.term_text.specs.declared.command_start.CommandStart.TheVariants as command_start

-- Whether no byte is the `[` of a command, where this much of a command stands in front of the
-- bytes.
abbrev pub none_opens : CommandStart → List ℕ → Bool
none_opens start [] = true
none_opens start (byte ∷ bytes) = not (is_named start && byte == 91) && none_opens (after_character start byte) bytes

-- ---- single bytes

-- a byte that is neither `#` nor a letter starts anew
pub starts_anew : (start : CommandStart) (byte : ℕ) → byte ≢ 35 → is_ascii_alphabetic byte ≡ false → after_character start byte ≡ command_start.Nothing
starts_anew start byte other none =
    let test : (byte == 35) ≡ false = grind (arith, nat_tests) in
    rw (test, none) refl

high_is_no_letter : (byte : ℕ) → 128 ≤ byte → is_ascii_alphabetic byte ≡ false
high_is_no_letter byte high = grind (arith, nat_tests)

pub high_starts_anew : (start : CommandStart) (byte : ℕ) → 128 ≤ byte → after_character start byte ≡ command_start.Nothing
high_starts_anew start byte high = starts_anew start byte (omega arith) (high_is_no_letter byte high)

high_opens_nothing : (start : CommandStart) (byte : ℕ) → 128 ≤ byte → (is_named start && byte == 91) ≡ false
high_opens_nothing start byte high =
    let test : (byte == 91) ≡ false = grind (arith, nat_tests) in
    rw (test, and-false (is_named start)) refl

-- behind nothing, only `#` starts a command
stays_nothing : (byte : ℕ) → byte ≢ 35 → after_character command_start.Nothing byte ≡ command_start.Nothing
stays_nothing byte other =
    let test : (byte == 35) ≡ false = grind (arith, nat_tests) in
    rw (test, and-false (is_ascii_alphabetic byte)) refl

-- ---- characters

-- bytes of a character that has more than one
high_bytes : (start : CommandStart) (bytes more : List ℕ) → 0 < length bytes → ((k : ℕ) → k < length bytes → 128 ≤ get_or bytes k 0)
    → none_opens start (bytes ++ more) ≡ none_opens command_start.Nothing more
high_bytes start [] more some high = absurd (omega arith)
high_bytes start (byte ∷ []) more some high =
    let here : 128 ≤ byte = high 0 (omega arith) in
    rw (high_opens_nothing start byte here, high_starts_anew start byte here) refl
high_bytes start (byte ∷ next ∷ bytes) more some high =
    let here : 128 ≤ byte = high 0 (omega arith) in
    rw (high_opens_nothing start byte here, high_starts_anew start byte here)
    (high_bytes command_start.Nothing (next ∷ bytes) more (omega arith) (λ k below. high (suc k) (omega arith)))

bytes_are_high : (character : ℕ) → 128 ≤ character → (k : ℕ) → k < length (encode_utf8 character) → 128 ≤ get_or (encode_utf8 character) k 0
bytes_are_high character high k within =
    ⊎_elim
    (λ (low : get_or (encode_utf8 character) k 0 < 128).
    absurd (omega (arith, inside_one character [] (encode_utf8 character) k (sym (append-nil (encode_utf8 character))) within low)))
    (λ (is : 128 ≤ get_or (encode_utf8 character) k 0). is)
    (cases_lt (get_or (encode_utf8 character) k 0) 128)

-- the bytes of a character do as the character does
pub none_opens-encode : (start : CommandStart) (character : ℕ) (more : List ℕ)
    → none_opens start (encode_utf8 character ++ more) ≡ (not (is_named start && character == 91) && none_opens (after_character start character) more)
none_opens-encode start character more =
    ⊎_elim
    (λ (low : character < 128). ap (λ bytes. none_opens start (bytes ++ more)) (encode_ascii character low))
    (λ (high : 128 ≤ character).
    let some : 0 < length (encode_utf8 character) = omega (arith, length-encode character, len_utf8_bounds character) in
    rw (high_opens_nothing start character high, high_starts_anew start character high)
    (high_bytes start (encode_utf8 character) more some (bytes_are_high character high)))
    (cases_lt character 128)

-- ---- escapes

abbrev has_no_hash : List ℕ → Bool
has_no_hash bytes = list_all (λ byte. not (byte == 35)) bytes

-- behind nothing, bytes without `#` change nothing
no_hash : (bytes more : List ℕ) → has_no_hash bytes ≡ true → none_opens command_start.Nothing (bytes ++ more) ≡ none_opens command_start.Nothing more
no_hash [] more none = refl
no_hash (byte ∷ bytes) more none =
    let both = and_parts _ _ none in
    let test : not (byte == 35) ≡ true = both.0 in
    let other : byte ≢ 35 = grind (arith, nat_tests) in
    rw (stays_nothing byte other) (no_hash bytes more both.1)

-- so do they behind a backslash
pub none_opens-backslash : (start : CommandStart) (bytes more : List ℕ) → has_no_hash bytes ≡ true → none_opens start (92 ∷ (bytes ++ more)) ≡ none_opens command_start.Nothing more
none_opens-backslash start bytes more none = rw (and-false (is_named start)) (no_hash bytes more none)

digit_is_no_hash : (digit : ℕ) → not (digit_char digit == 35) ≡ true
digit_is_no_hash digit = grind (arith, nat_tests)

pub none_opens-escape : (start : CommandStart) (code : ℕ) (more : List ℕ) → none_opens start (escape code ++ more) ≡ none_opens command_start.Nothing more
none_opens-escape start code more =
    none_opens-backslash start
    (117 ∷ digit_char (code / 4096) ∷ digit_char (code / 256 % 16) ∷ digit_char (code / 16 % 16) ∷ digit_char (code % 16) ∷ []) more
    (rw (digit_is_no_hash (code / 4096), digit_is_no_hash (code / 256 % 16), digit_is_no_hash (code / 16 % 16), digit_is_no_hash (code % 16)) refl)

-- ---- fronts, and more bytes

pub none_opens-take : (start : CommandStart) (count : ℕ) (bytes : List ℕ) → none_opens start bytes ≡ true → none_opens start (take count bytes) ≡ true
none_opens-take start zero bytes none = refl
none_opens-take start (suc count) [] none = refl
none_opens-take start (suc count) (byte ∷ bytes) none =
    let both = and_parts _ _ none in
    let shut : not (is_named start && byte == 91) ≡ true = both.0 in
    rw shut (none_opens-take (after_character start byte) count bytes both.1)

-- bytes without `[` open nothing
no_bracket : (start : CommandStart) (bytes : List ℕ) → list_all (λ byte. not (byte == 91)) bytes ≡ true → none_opens start bytes ≡ true
no_bracket start [] none = refl
no_bracket start (byte ∷ bytes) none =
    let both = and_parts _ _ none in
    let test : not (byte == 91) ≡ true = both.0 in
    let other : (byte == 91) ≡ false = grind (arith, nat_tests) in
    rw (other, and-false (is_named start)) (no_bracket (after_character start byte) bytes both.1)

pub none_opens-append : (start : CommandStart) (bytes more : List ℕ) → none_opens start bytes ≡ true → list_all (λ byte. not (byte == 91)) more ≡ true
    → none_opens start (bytes ++ more) ≡ true
none_opens-append start [] more none others = no_bracket start more others
none_opens-append start (byte ∷ bytes) more none others =
    let both = and_parts _ _ none in
    let shut : not (is_named start && byte == 91) ≡ true = both.0 in
    rw shut (none_opens-append (after_character start byte) bytes more both.1 others)

-- ---- where no byte is the `[` of a command, the bytes hold none

named_letter : (start : CommandStart) (byte : ℕ) → is_ascii_alphabetic byte ≡ true → is_named start ≡ true → is_named (after_character start byte) ≡ true
named_letter start byte letter named =
    let test : (byte == 35) ≡ false = grind (arith, nat_tests) in
    rw (test, letter, named) refl

bracket_opens : (start : CommandStart) (name behind : List ℕ) → list_all is_ascii_alphabetic name ≡ true → is_named start ≡ true
    → none_opens start (name ++ (91 ∷ behind)) ≡ false
bracket_opens start [] behind letters named = rw named refl
bracket_opens start (byte ∷ name) behind letters named =
    let both = and_parts _ _ letters in
    rw (bracket_opens (after_character start byte) name behind both.1 (named_letter start byte both.0 named)) (and-false (not (is_named start && byte == 91)))

two_hashes : (start : CommandStart) → is_named (after_hash (after_hash start)) ≡ true
two_hashes command_start.Nothing = refl
two_hashes command_start.OneHash = refl
two_hashes command_start.TwoHashes = refl
two_hashes command_start.Name = refl

command_opens : (start : CommandStart) (before name behind : List ℕ) → list_all is_ascii_alphabetic name ≡ true
    → none_opens start (before ++ (35 ∷ 35 ∷ (name ++ (91 ∷ behind)))) ≡ false
command_opens start [] name behind letters =
    rw (and-false (is_named start), and-false (is_named (after_hash start))) (bracket_opens (after_hash (after_hash start)) name behind letters (two_hashes start))
command_opens start (byte ∷ before) name behind letters =
    rw (command_opens (after_character start byte) before name behind letters) (and-false (not (is_named start && byte == 91)))

pub HoldsNoCommand-from : (start : CommandStart) (bytes : List ℕ) → none_opens start bytes ≡ true → HoldsNoCommand bytes
HoldsNoCommand-from start bytes none before name behind letters is =
    true≢false (sym none ∙ ap (none_opens start) is ∙ command_opens start before name behind letters)

-- ---- and where they hold none, no byte is the `[` of one

-- the bytes end with this much of a command
abbrev Ends : CommandStart → List ℕ → Type 0
Ends command_start.Nothing bytes = Unit {0}
Ends command_start.OneHash bytes = (before : List ℕ) × (bytes ≡ before ++ (35 ∷ []))
Ends command_start.TwoHashes bytes = (before : List ℕ) × (bytes ≡ before ++ (35 ∷ 35 ∷ []))
Ends command_start.Name bytes = (before : List ℕ) × (name : List ℕ) × (list_all is_ascii_alphabetic name ≡ true) × (bytes ≡ before ++ (35 ∷ 35 ∷ name))

ends_with_hash : (start : CommandStart) (bytes : List ℕ) → Ends start bytes → Ends (after_hash start) (bytes ++ (35 ∷ []))
ends_with_hash command_start.Nothing bytes ends = (bytes, refl)
ends_with_hash command_start.OneHash bytes ends = (ends.0, ap (λ t. t ++ (35 ∷ [])) ends.1 ∙ append_assoc ends.0 (35 ∷ []) (35 ∷ []))
ends_with_hash command_start.TwoHashes bytes ends = (
  ends.0 ++ (35 ∷ []),
  ap (λ t. t ++ (35 ∷ [])) ends.1 ∙ append_assoc ends.0 (35 ∷ 35 ∷ []) (35 ∷ []) ∙ sym (append_assoc ends.0 (35 ∷ []) (35 ∷ 35 ∷ [])),
)
ends_with_hash command_start.Name bytes ends = (bytes, refl)

-- the bytes end with `##` and letters
abbrev EndsNamed : List ℕ → Type 0
EndsNamed bytes = Ends command_start.Name bytes

named_ends : (start : CommandStart) (bytes : List ℕ) → is_named start ≡ true → Ends start bytes → EndsNamed bytes
named_ends command_start.Nothing bytes named ends = absurd (true≢false (sym named))
named_ends command_start.OneHash bytes named ends = absurd (true≢false (sym named))
named_ends command_start.TwoHashes bytes named ends = (ends.0, [], refl, ends.1)
named_ends command_start.Name bytes named ends = ends

all_letters : (name : List ℕ) (byte : ℕ) → list_all is_ascii_alphabetic name ≡ true → is_ascii_alphabetic byte ≡ true → list_all is_ascii_alphabetic (name ++ (byte ∷ [])) ≡ true
all_letters [] byte letters letter = rw letter refl
all_letters (first ∷ name) byte letters letter =
    let both = and_parts _ _ letters in
    let here : is_ascii_alphabetic first ≡ true = both.0 in
    rw here (all_letters name byte both.1 letter)

ends_with_letter : (bytes : List ℕ) (byte : ℕ) → EndsNamed bytes → is_ascii_alphabetic byte ≡ true → EndsNamed (bytes ++ (byte ∷ []))
ends_with_letter bytes byte ends letter = (
  ends.0,
  ends.1 ++ (byte ∷ []),
  all_letters ends.1 byte ends.2 letter,
  ap (λ t. t ++ (byte ∷ [])) ends.3 ∙ append_assoc ends.0 (35 ∷ 35 ∷ ends.1) (byte ∷ []),
)

either : (P : CommandStart → Type 0) (test : Bool) (x y : CommandStart) → (test ≡ true → P x) → (test ≡ false → P y) → P (if test then x else y)
either P true x y then_is else_is = then_is refl
either P false x y then_is else_is = else_is refl

ends_with : (start : CommandStart) (bytes : List ℕ) (byte : ℕ) → Ends start bytes → Ends (after_character start byte) (bytes ++ (byte ∷ []))
ends_with start bytes byte ends =
    either (λ s. Ends s (bytes ++ (byte ∷ []))) (byte == 35) (after_hash start) _
    (λ is. rw (eqb-true byte 35 is) (ends_with_hash start bytes ends))
    (λ other. either (λ s. Ends s (bytes ++ (byte ∷ []))) (is_ascii_alphabetic byte && is_named start) command_start.Name command_start.Nothing
    (λ both. let parts = and_parts _ _ both in ends_with_letter bytes byte (named_ends start bytes parts.1 ends) parts.0)
    (λ none. tt))

-- a `[` would make a command of such an end
no_named_bracket : (start : CommandStart) (before : List ℕ) (byte : ℕ) (bytes : List ℕ) → Ends start before → HoldsNoCommand (before ++ (byte ∷ bytes))
    → not (is_named start && byte == 91) ≡ true
no_named_bracket start before byte bytes ends none =
    ⊎_elim
    (λ (opens : (is_named start && byte == 91) ≡ true).
    let parts = and_parts _ _ opens in
    let named = named_ends start before parts.0 ends in
    let is : byte ≡ 91 = eqb-true byte 91 parts.1 in
    absurd (none named.0 named.1 bytes named.2
    (ap (λ b. before ++ (b ∷ bytes)) is ∙ ap (λ t. t ++ (91 ∷ bytes)) named.3 ∙ append_assoc named.0 (35 ∷ 35 ∷ named.1) (91 ∷ bytes))))
    (λ (shut : (is_named start && byte == 91) ≡ false). ap not shut)
    (cases_Bool (is_named start && byte == 91))

none_opens-behind : (start : CommandStart) (before bytes : List ℕ) → Ends start before → HoldsNoCommand (before ++ bytes) → none_opens start bytes ≡ true
none_opens-behind start before [] ends none = refl
none_opens-behind start before (byte ∷ bytes) ends none =
    rw (no_named_bracket start before byte bytes ends none)
    (none_opens-behind (after_character start byte) (before ++ (byte ∷ [])) bytes (ends_with start before byte ends)
    (rw (append_assoc before (byte ∷ []) bytes) none))

pub none_opens-from : (bytes : List ℕ) → HoldsNoCommand bytes → none_opens command_start.Nothing bytes ≡ true
none_opens-from bytes none = none_opens-behind command_start.Nothing [] bytes tt none
