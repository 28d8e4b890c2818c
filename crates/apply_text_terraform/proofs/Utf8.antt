-- A text in UTF-8 is one with its escapes too: each is ASCII, and stands for a whole character.
use Rattle.std.proofs.Common.{◌≡◌, ℕ, zero, suc, ◌+◌, ◌/◌, ◌%◌, ◌<◌, ◌≤◌, ◌==◌, inl, inr, List, [], ◌∷◌, ◌++◌, codes, cond, drop, Bool, true, false, nat_lt, IsUtf8, refl, sym, ap, ◌∙◌, subst, arith, ltb-true}
use Rattle.std.specs.Prelude.{◌&&◌}
use Rattle.std.proofs.lemmas.Bool.{and_parts, cases_eq, cases_lt, eqb-true, ne_eqb}
use Rattle.std.proofs.lemmas.Str.{IsUtf8-append, IsUtf8-encode, IsUtf8-nil, encode_ascii}
use Rattle.json.proofs.Printed.Utf8.{IsUtf8-are_ascii, are_ascii}
use lib.Utf8.{encode, encodes, scalar, scalars}
use Rattle.apply_text_terraform.specs.Escapes.{begins_with, escaped, escaped_onto}
use Rattle.apply_text_terraform.proofs.Cuts.{Begins, cut}

-- ---- where characters begin

begins_char : (c : ℕ) (rest : List ℕ) → Begins (encode c ++ rest)
unfolding encode
begins_char c rest = of_tests (nat_lt c 128) (nat_lt c 2048) (nat_lt c 65536) (ltb-true c 128)
  where
    of_tests : (x y z : Bool) → (x ≡ true → c < 128)
        → Begins (cond x (c ∷ []) (cond y ((192 + c / 64) ∷ (128 + c % 64) ∷ []) (cond z ((224 + c / 4096) ∷ (128 + c / 64 % 64) ∷ (128 + c % 64) ∷ []) ((240 + c / 262144) ∷ (128 + c / 4096 % 64) ∷ (128 + c / 64 % 64) ∷ (128 + c % 64) ∷ []))) ++ rest)
    of_tests true y z low = inl (low refl)
    of_tests false true z low = inr (omega arith)
    of_tests false false true low = inr (omega arith)
    of_tests false false false low = inr (omega arith)

begins_all : (cs : List ℕ) → Begins (encodes cs)
begins_all [] = tt
begins_all (c ∷ cs) = begins_char c (encodes cs)

-- ---- characters beyond ASCII

stays : (byte : ℕ) (text : List ℕ) → 128 ≤ byte → ((byte == 226) && begins_with 128 168 text) ≡ false → ((byte == 226) && begins_with 128 169 text) ≡ false → escaped_onto byte text ≡ byte ∷ text
stays byte text high one other =
    of_tests (byte == 60) (byte == 62) (byte == 38) ((byte == 226) && begins_with 128 168 text) ((byte == 226) && begins_with 128 169 text)
    (ne_eqb byte 60 (λ e. omega (arith, e, high))) (ne_eqb byte 62 (λ e. omega (arith, e, high))) (ne_eqb byte 38 (λ e. omega (arith, e, high))) one other
  where
    of_tests : (a b c d e : Bool) → a ≡ false → b ≡ false → c ≡ false → d ≡ false → e ≡ false
        → cond a (codes "\\u003c" ++ text) (cond b (codes "\\u003e" ++ text) (cond c (codes "\\u0026" ++ text) (cond d (codes "\\u2028" ++ drop 2 text) (cond e (codes "\\u2029" ++ drop 2 text) (byte ∷ text))))) ≡ byte ∷ text
    of_tests true b c d e h i j k l = absurd cc
    of_tests false true c d e h i j k l = absurd cc
    of_tests false false true d e h i j k l = absurd cc
    of_tests false false false true e h i j k l = absurd cc
    of_tests false false false false true h i j k l = absurd cc
    of_tests false false false false false h i j k l = refl

-- a byte that begins no separator
other_byte : (byte : ℕ) (text : List ℕ) → 128 ≤ byte → (byte ≡ 226 → ⊥) → escaped_onto byte text ≡ byte ∷ text
other_byte byte text high is =
    let other : (byte == 226) ≡ false = ne_eqb byte 226 is in
    stays byte text high (ap (λ b. b && begins_with 128 168 text) other) (ap (λ b. b && begins_with 128 169 text) other)

-- a byte after the first of a character
later_byte : (bits : ℕ) (text : List ℕ) → escaped_onto (128 + bits % 64) text ≡ (128 + bits % 64) ∷ text
later_byte bits text = other_byte (128 + bits % 64) text (omega arith) (λ e. omega (arith, e))

not_all : (p q r : Bool) → (p ≡ true → q ≡ true → r ≡ true → ⊥) → (p && (q && r)) ≡ false
not_all false q r h = refl
not_all true false r h = refl
not_all true true false h = refl
not_all true true true h = absurd (h refl refl refl)

-- the three bytes of another character
no_separator : (c third : ℕ) → (c ≡ 8064 + third → ⊥) → 128 ≤ third → third < 192 → (((224 + c / 4096) == 226) && (((128 + c / 64 % 64) == 128) && ((128 + c % 64) == third))) ≡ false
no_separator c third other least most =
    not_all _ _ _ (λ p q r.
    let first = eqb-true (224 + c / 4096) 226 p in
    let second = eqb-true (128 + c / 64 % 64) 128 q in
    let last = eqb-true (128 + c % 64) third r in
    other (omega (arith, first, second, last, least, most)))

char_stays : (c : ℕ) → 128 ≤ c → (c ≡ 8232 → ⊥) → (c ≡ 8233 → ⊥) → escaped (encode c) ≡ encode c
unfolding encode
char_stays c high line paragraph = of_tests (nat_lt c 128) (nat_lt c 2048) (nat_lt c 65536) (ltb-true c 128) (ltb-true c 2048)
  where
    two : List ℕ
    two = (128 + c / 64 % 64) ∷ (128 + c % 64) ∷ []

    last_stays : escaped ((128 + c % 64) ∷ []) ≡ (128 + c % 64) ∷ []
    last_stays = later_byte c []

    two_stay : escaped ((128 + c / 64 % 64) ∷ (128 + c % 64) ∷ []) ≡ (128 + c / 64 % 64) ∷ (128 + c % 64) ∷ []
    two_stay = ap (escaped_onto (128 + c / 64 % 64)) last_stays ∙ later_byte (c / 64) ((128 + c % 64) ∷ [])

    of_tests : (x y z : Bool) → (x ≡ true → c < 128) → (y ≡ true → c < 2048)
        → let bytes = cond x (c ∷ []) (cond y ((192 + c / 64) ∷ (128 + c % 64) ∷ []) (cond z ((224 + c / 4096) ∷ (128 + c / 64 % 64) ∷ (128 + c % 64) ∷ []) ((240 + c / 262144) ∷ (128 + c / 4096 % 64) ∷ (128 + c / 64 % 64) ∷ (128 + c % 64) ∷ []))) in escaped bytes ≡ bytes
    of_tests true y z small few = absurd (omega (arith, small refl, high))
    of_tests false true z small few =
        ap (escaped_onto (192 + c / 64)) last_stays ∙ other_byte (192 + c / 64) ((128 + c % 64) ∷ []) (omega arith) (λ e. omega (arith, e, few refl))
    of_tests false false true small few =
        ap (escaped_onto (224 + c / 4096)) two_stay
        ∙ stays (224 + c / 4096) ((128 + c / 64 % 64) ∷ (128 + c % 64) ∷ []) (omega arith) (no_separator c 168 line (omega arith) (omega arith)) (no_separator c 169 paragraph (omega arith) (omega arith))
    of_tests false false false small few =
        ap (λ t. escaped_onto (240 + c / 262144) (escaped_onto (128 + c / 4096 % 64) t)) two_stay
        ∙ ap (escaped_onto (240 + c / 262144)) (later_byte (c / 4096) ((128 + c / 64 % 64) ∷ (128 + c % 64) ∷ []))
        ∙ other_byte (240 + c / 262144) ((128 + c / 4096 % 64) ∷ (128 + c / 64 % 64) ∷ (128 + c % 64) ∷ []) (omega arith) (λ e. omega (arith, e))

-- ---- any character

-- the escapes of the bytes below n are ASCII
abbrev written_below : ℕ → Bool
written_below zero = true
written_below (suc n) = are_ascii (escaped (n ∷ [])) && written_below n

below : (n : ℕ) → written_below n ≡ true → (c : ℕ) → c < n → are_ascii (escaped (c ∷ [])) ≡ true
below zero e c h = absurd (omega arith)
below (suc n) e c h =
    let p = and_parts _ _ e in
    elim (cases_eq c n) [ inl same ↦ rw same p.0 | inr other ↦ below n p.1 c (omega arith) ]

all_ascii : written_below 128 ≡ true
all_ascii = refl

line_separator : IsUtf8 (escaped (encode 8232))
unfolding encode
line_separator = IsUtf8-are_ascii (codes "\\u2028") refl

paragraph_separator : IsUtf8 (escaped (encode 8233))
unfolding encode
paragraph_separator = IsUtf8-are_ascii (codes "\\u2029") refl

one_char : (c : ℕ) → scalar c ≡ true → IsUtf8 (escaped (encode c))
one_char c ok = elim (cases_lt c 128) [
  | inl small ↦ rw (encode_ascii c small) (IsUtf8-are_ascii _ (below 128 all_ascii c small))
  | inr high ↦ elim (cases_eq c 8232) [
    | inl is ↦ subst (λ k. IsUtf8 (escaped (encode k))) (sym is) line_separator
    | inr line ↦ elim (cases_eq c 8233) [
      | inl is ↦ subst (λ k. IsUtf8 (escaped (encode k))) (sym is) paragraph_separator
      | inr paragraph ↦ subst IsUtf8 (sym (char_stays c high line paragraph)) (IsUtf8-encode c ok)
    ]
  ]
]

all_chars : (cs : List ℕ) → scalars cs ≡ true → IsUtf8 (escaped (encodes cs))
all_chars [] e = IsUtf8-nil
all_chars (c ∷ cs) e =
    let p = and_parts _ _ e in
    subst IsUtf8 (sym (cut (encode c) (encodes cs) (begins_all cs))) (IsUtf8-append _ _ (one_char c p.0) (all_chars cs p.1))

pub still_utf8 : (text : List ℕ) → IsUtf8 text → IsUtf8 (escaped text)
still_utf8 text u = subst (λ t. IsUtf8 (escaped t)) u.1.1 (all_chars u.0 u.1.0)

-- a text in UTF-8 begins with no byte that goes on with a character
pub text_begins : (text : List ℕ) → IsUtf8 text → Begins text
text_begins text u = subst Begins u.1.1 (begins_all u.0)
