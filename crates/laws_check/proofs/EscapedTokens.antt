-- A printed text has the same tokens with its escapes: each of them stands in a string, for the character that it is an
-- escape of.
use Rattle.std.proofs.Common.{◌≡◌, ℕ, zero, suc, ◌<◌, ◌≤◌, Bool, true, false, cond, ◌==◌, List, [], ◌∷◌, ◌++◌, codes, drop, Option, Some, None, inl, inr, ◌⊎◌, refl, sym, ap, ap₂, ◌∙◌, subst, arith, append_assoc}
use Rattle.std.specs.Prelude.{◌&&◌}
use Rattle.std.proofs.lemmas.Bool.{and_parts, cases_eq, cases_lt, eqb-true, le-ltb, ne_eqb}
use lib.Utf8.{encode}
use Rattle.json.specs.Token.{Token, begin_object, end_object, begin_array, end_array, key, string, number, boolean, null, bad}
use Rattle.json.specs.Text.{content, plain, prepend, code_unit, short_escape}
use Rattle.json.specs.Word.{ends_word, is_operator, is_space, word}
use Rattle.json.specs.Lex.{Lexeme, Mode, colon, comma, fresh, lex, lex_byte, between, in_string, operator, punctuate, space, other, string_token, token, tokens}
use Rattle.json.specs.Print.{ArePrintable, IsPrintable, begins, ends, escape, escape_byte, print, print_from, quoted, token_text}
use Rattle.json.proofs.Printed.Numbers.{in_word-ended, lex-number}
use Rattle.json.proofs.Printed.Strings.{content-escape, escape_byte_plain, lex-escape}
use Rattle.json.proofs.Printed.Tokens.{tokens-print}
use Rattle.apply_text_terraform.specs.Escapes.{begins_with, escaped, escaped_onto}
use Rattle.apply_text_terraform.proofs.Cuts.{IsPlain, cut, plain_then}
use Rattle.laws_check.proofs.PlainNumbers.{number_plain}

-- ---- a byte that has an escape of JSON

-- How the string reader and the lexer read the escape of x, before any text. No byte of the escape
-- has an escape itself.
record Passes (x : ℕ) : Type 0 where
  read : (r : List ℕ) → content plain (escape_byte x ++ r) ≡ prepend (x ∷ []) (content plain r)
  lexed : (r : List ℕ) → lex in_string (escape_byte x ++ r) ≡ lex in_string r
  stays : IsPlain (escape_byte x)

-- P holds below n, counted down from the top
abbrev Each : (ℕ → Type 0) → ℕ → Type 0
Each P zero = Unit {0}
Each P (suc n) = P n × Each P n

each_sound : (P : ℕ → Type 0) (n : ℕ) → Each P n → (x : ℕ) → x < n → P x
each_sound P zero h x less = absurd (omega arith)
each_sound P (suc n) h x less = go (each_sound P n h.1 x) (cases_eq x n)
  where
    go : (x < n → P x) → (x ≡ n) ⊎ (x ≡ n → ⊥) → P x
    go below (inl e) = subst P (sym e) h.0
    go below (inr apart) = below (omega arith)

controls : Each Passes 32
unfolding escape_byte content lex code_unit short_escape encode
controls = (
  record { read = λ r. refl; lexed = λ r. refl; stays = refl },
  (
    record { read = λ r. refl; lexed = λ r. refl; stays = refl },
    (
      record { read = λ r. refl; lexed = λ r. refl; stays = refl },
      (
        record { read = λ r. refl; lexed = λ r. refl; stays = refl },
        (
          record { read = λ r. refl; lexed = λ r. refl; stays = refl },
          (
            record { read = λ r. refl; lexed = λ r. refl; stays = refl },
            (
              record { read = λ r. refl; lexed = λ r. refl; stays = refl },
              (
                record { read = λ r. refl; lexed = λ r. refl; stays = refl },
                (
                  record { read = λ r. refl; lexed = λ r. refl; stays = refl },
                  (
                    record { read = λ r. refl; lexed = λ r. refl; stays = refl },
                    (
                      record { read = λ r. refl; lexed = λ r. refl; stays = refl },
                      (
                        record { read = λ r. refl; lexed = λ r. refl; stays = refl },
                        (
                          record { read = λ r. refl; lexed = λ r. refl; stays = refl },
                          (
                            record { read = λ r. refl; lexed = λ r. refl; stays = refl },
                            (
                              record { read = λ r. refl; lexed = λ r. refl; stays = refl },
                              (
                                record { read = λ r. refl; lexed = λ r. refl; stays = refl },
                                (
                                  record { read = λ r. refl; lexed = λ r. refl; stays = refl },
                                  (
                                    record { read = λ r. refl; lexed = λ r. refl; stays = refl },
                                    (
                                      record { read = λ r. refl; lexed = λ r. refl; stays = refl },
                                      (
                                        record { read = λ r. refl; lexed = λ r. refl; stays = refl },
                                        (
                                          record { read = λ r. refl; lexed = λ r. refl; stays = refl },
                                          (
                                            record { read = λ r. refl; lexed = λ r. refl; stays = refl },
                                            (
                                              record { read = λ r. refl; lexed = λ r. refl; stays = refl },
                                              (
                                                record { read = λ r. refl; lexed = λ r. refl; stays = refl },
                                                (
                                                  record { read = λ r. refl; lexed = λ r. refl; stays = refl },
                                                  (
                                                    record { read = λ r. refl; lexed = λ r. refl; stays = refl },
                                                    (
                                                      record { read = λ r. refl; lexed = λ r. refl; stays = refl },
                                                      (
                                                        record { read = λ r. refl; lexed = λ r. refl; stays = refl },
                                                        (
                                                          record { read = λ r. refl; lexed = λ r. refl; stays = refl },
                                                          (
                                                            record { read = λ r. refl; lexed = λ r. refl; stays = refl },
                                                            (
                                                              record { read = λ r. refl; lexed = λ r. refl; stays = refl },
                                                              (
                                                                record { read = λ r. refl; lexed = λ r. refl; stays = refl },
                                                                tt,
                                                              ),
                                                            ),
                                                          ),
                                                        ),
                                                      ),
                                                    ),
                                                  ),
                                                ),
                                              ),
                                            ),
                                          ),
                                        ),
                                      ),
                                    ),
                                  ),
                                ),
                              ),
                            ),
                          ),
                        ),
                      ),
                    ),
                  ),
                ),
              ),
            ),
          ),
        ),
      ),
    ),
  ),
)

quote_passes : Passes 34
unfolding escape_byte content lex short_escape
quote_passes = record { read = λ r. refl; lexed = λ r. refl; stays = refl }

backslash_passes : Passes 92
unfolding escape_byte content lex short_escape
backslash_passes = record { read = λ r. refl; lexed = λ r. refl; stays = refl }

-- ---- a byte that stands for itself

-- a text up to its quote that the reader and the lexer take for s
record DecodesTo (t s : List ℕ) : Type 0 where
  read : (r : List ℕ) → content plain (t ++ 34 ∷ r) ≡ Some s
  lexed : (r : List ℕ) → lex in_string (t ++ 34 ∷ r) ≡ lex between r

stays_inside : (o s : Bool) (x : ℕ) (r : List ℕ) (k : Mode → List Lexeme) → lex_byte in_string (cond o operator (cond s space other)) x r k ≡ k in_string
stays_inside true s x r k = refl
stays_inside false true x r k = refl
stays_inside false false x r k = refl

in_three : (a b c : ℕ) (o : Option (List ℕ)) (s : List ℕ) → prepend (b ∷ []) (prepend (c ∷ []) o) ≡ Some s → prepend (a ∷ b ∷ c ∷ []) o ≡ Some (a ∷ s)
in_three a b c None s e = absurd cc
in_three a b c (Some t) s e = ap (λ o. prepend (a ∷ []) o) e

-- the text begins with these two bytes
begun : (second : ℕ) (t : List ℕ) → 0 < second → begins_with 128 second t ≡ true → (rest : List ℕ) × (t ≡ 128 ∷ second ∷ rest)
begun second [] some e = absurd cc
begun second (x ∷ []) some e = absurd (none (x == 128) (0 == second) (ne_eqb 0 second (λ z. omega arith)) e)
  where
    none : (p q : Bool) → q ≡ false → (p && q) ≡ true → ⊥
    none true q h e = absurd cc
    none false q h e = absurd cc
begun second (x ∷ y ∷ rest) some e =
    let both = and_parts (x == 128) (y == second) e in
    (rest, ap₂ (λ (a b : ℕ). a ∷ b ∷ rest) (eqb-true x 128 both.0) (eqb-true y second both.1))

plain_decodes : (x : ℕ) (t s : List ℕ) → (x ≡ 34 → ⊥) → (x ≡ 92 → ⊥) → 32 ≤ x → DecodesTo t s → DecodesTo (x ∷ t) (x ∷ s)
unfolding content lex
plain_decodes x t s q b low tells = record {
  read = λ r. rw (ne_eqb x 34 q, ne_eqb x 92 b, le-ltb x 32 low) (ap (prepend (x ∷ [])) (tells.read r));
  lexed = λ r. rw (ne_eqb x 34 q, ne_eqb x 92 b) (stays_inside (is_operator x) (is_space x) x (t ++ 34 ∷ r) (λ m. lex m (t ++ 34 ∷ r)) ∙ tells.lexed r);
}

unit_decodes : (t s : List ℕ) → DecodesTo t s → DecodesTo (codes "\\u003c" ++ t) (60 ∷ s) × DecodesTo (codes "\\u003e" ++ t) (62 ∷ s) × DecodesTo (codes "\\u0026" ++ t) (38 ∷ s)
unfolding content lex code_unit encode
unit_decodes t s tells = (
  record { read = λ r. ap (prepend (60 ∷ [])) (tells.read r); lexed = λ r. tells.lexed r },
  record { read = λ r. ap (prepend (62 ∷ [])) (tells.read r); lexed = λ r. tells.lexed r },
  record { read = λ r. ap (prepend (38 ∷ [])) (tells.read r); lexed = λ r. tells.lexed r },
)

line_decodes : (t s : List ℕ) → DecodesTo (128 ∷ 168 ∷ t) s → DecodesTo (codes "\\u2028" ++ t) (226 ∷ s)
unfolding content lex code_unit encode
line_decodes t s tells = record { read = λ r. in_three 226 128 168 (content plain (t ++ 34 ∷ r)) s (tells.read r); lexed = λ r. tells.lexed r }

paragraph_decodes : (t s : List ℕ) → DecodesTo (128 ∷ 169 ∷ t) s → DecodesTo (codes "\\u2029" ++ t) (226 ∷ s)
unfolding content lex code_unit encode
paragraph_decodes t s tells = record { read = λ r. in_three 226 128 169 (content plain (t ++ 34 ∷ r)) s (tells.read r); lexed = λ r. tells.lexed r }

onto_decodes : (x : ℕ) (t s : List ℕ) → (x ≡ 34 → ⊥) → (x ≡ 92 → ⊥) → 32 ≤ x → DecodesTo t s → DecodesTo (escaped_onto x t) (x ∷ s)
onto_decodes x t s q b low tells =
    of_tests (x == 60) (x == 62) (x == 38) (x == 226) (begins_with 128 168 t) (begins_with 128 169 t) refl refl refl refl refl refl
  where
    of_tests : (one two three four line paragraph : Bool) → (x == 60) ≡ one → (x == 62) ≡ two → (x == 38) ≡ three → (x == 226) ≡ four → begins_with 128 168 t ≡ line → begins_with 128 169 t ≡ paragraph
        → DecodesTo (cond one (codes "\\u003c" ++ t) (cond two (codes "\\u003e" ++ t) (cond three (codes "\\u0026" ++ t) (cond (four && line) (codes "\\u2028" ++ drop 2 t) (cond (four && paragraph) (codes "\\u2029" ++ drop 2 t) (x ∷ t)))))) (x ∷ s)
    of_tests true two three four line paragraph e f g h i j = subst (λ (y : ℕ). DecodesTo (codes "\\u003c" ++ t) (y ∷ s)) (sym (eqb-true x 60 e)) (unit_decodes t s tells).0
    of_tests false true three four line paragraph e f g h i j = subst (λ (y : ℕ). DecodesTo (codes "\\u003e" ++ t) (y ∷ s)) (sym (eqb-true x 62 f)) (unit_decodes t s tells).1
    of_tests false false true four line paragraph e f g h i j = subst (λ (y : ℕ). DecodesTo (codes "\\u0026" ++ t) (y ∷ s)) (sym (eqb-true x 38 g)) (unit_decodes t s tells).2
    of_tests false false false true true paragraph e f g h i j =
        let located = begun 168 t (omega arith) i in
        subst (λ (y : ℕ). DecodesTo (codes "\\u2028" ++ drop 2 t) (y ∷ s)) (sym (eqb-true x 226 h))
        (subst (λ (u : List ℕ). DecodesTo (codes "\\u2028" ++ drop 2 u) (226 ∷ s)) (sym located.1) (line_decodes located.0 s (subst (λ (u : List ℕ). DecodesTo u s) located.1 tells)))
    of_tests false false false true false true e f g h i j =
        let located = begun 169 t (omega arith) j in
        subst (λ (y : ℕ). DecodesTo (codes "\\u2029" ++ drop 2 t) (y ∷ s)) (sym (eqb-true x 226 h))
        (subst (λ (u : List ℕ). DecodesTo (codes "\\u2029" ++ drop 2 u) (226 ∷ s)) (sym located.1) (paragraph_decodes located.0 s (subst (λ (u : List ℕ). DecodesTo u s) located.1 tells)))
    of_tests false false false true false false e f g h i j = plain_decodes x t s q b low tells
    of_tests false false false false line paragraph e f g h i j = plain_decodes x t s q b low tells

-- ---- a string

passed_decodes : (x : ℕ) (t s : List ℕ) → Passes x → DecodesTo t s → DecodesTo (escape_byte x ++ t) (x ∷ s)
passed_decodes x t s passes tells = record {
  read = λ r. ap (content plain) (append_assoc (escape_byte x) t (34 ∷ r)) ∙ passes.read (t ++ 34 ∷ r) ∙ ap (prepend (x ∷ [])) (tells.read r);
  lexed = λ r. ap (lex in_string) (append_assoc (escape_byte x) t (34 ∷ r)) ∙ passes.lexed (t ++ 34 ∷ r) ∙ tells.lexed r;
}

byte_decodes : (x : ℕ) (s : List ℕ) → DecodesTo (escaped (escape s)) s → DecodesTo (escaped (escape_byte x ++ escape s)) (x ∷ s)
byte_decodes x s tells = go (cases_eq x 34) (cases_eq x 92) (cases_lt x 32)
  where
    other_way : Passes x → DecodesTo (escaped (escape_byte x ++ escape s)) (x ∷ s)
    other_way passes = subst (λ (u : List ℕ). DecodesTo u (x ∷ s)) (sym (plain_then (escape_byte x) (escape s) passes.stays)) (passed_decodes x (escaped (escape s)) s passes tells)

    go : (x ≡ 34) ⊎ (x ≡ 34 → ⊥) → (x ≡ 92) ⊎ (x ≡ 92 → ⊥) → (x < 32) ⊎ (32 ≤ x) → DecodesTo (escaped (escape_byte x ++ escape s)) (x ∷ s)
    go (inl e) b c = other_way (subst Passes (sym e) quote_passes)
    go (inr q) (inl e) c = other_way (subst Passes (sym e) backslash_passes)
    go (inr q) (inr b) (inl c) = other_way (each_sound Passes 32 controls x c)
    go (inr q) (inr b) (inr low) =
        subst (λ (u : List ℕ). DecodesTo (escaped (u ++ escape s)) (x ∷ s)) (sym (escape_byte_plain x q b low)) (onto_decodes x (escaped (escape s)) s q b low tells)

string_decodes : (s : List ℕ) → DecodesTo (escaped (escape s)) s
unfolding content lex
string_decodes [] = record { read = λ r. refl; lexed = λ r. refl }
string_decodes (x ∷ s) = byte_decodes x s (string_decodes s)

-- ---- a token

abbrev Same : List ℕ → Type 0
Same text = lex between (escaped text) ≡ lex between text

quoted_same : (s r : List ℕ) → Same r → Same (quoted s ++ r)
unfolding lex
quoted_same s r rest =
    let e = append_assoc (escape s) (34 ∷ []) r in
    let tells = string_decodes s in
    ap (λ l. lex between (escaped (34 ∷ l))) e
    ∙ ap (λ l. lex between (34 ∷ l)) (cut (escape s) (34 ∷ r) (inl (omega arith)))
    ∙ ap₂ (λ o l. token (string_token o) ∷ l) (tells.read (escaped r)) (tells.lexed (escaped r) ∙ rest)
    ∙ sym (ap (λ l. lex between (34 ∷ l)) e ∙ ap₂ (λ o l. token (string_token o) ∷ l) (content-escape s r) (lex-escape s r))

colon_same : (r : List ℕ) → Same r → Same (58 ∷ r)
unfolding lex
colon_same r rest = ap (λ l. colon ∷ l) rest

-- after a value stands a comma, a closing bracket or nothing
after_value_ends : (ts : List Token) → (ends_word (print_from true ts) ≡ true) × (ends_word (escaped (print_from true ts)) ≡ true)
unfolding print_from
after_value_ends [] = (refl, refl)
after_value_ends (begin_object ∷ ts) = (refl, refl)
after_value_ends (end_object ∷ ts) = (refl, refl)
after_value_ends (begin_array ∷ ts) = (refl, refl)
after_value_ends (end_array ∷ ts) = (refl, refl)
after_value_ends (key s ∷ ts) = (refl, refl)
after_value_ends (string s ∷ ts) = (refl, refl)
after_value_ends (number s ∷ ts) = (refl, refl)
after_value_ends (boolean b ∷ ts) = (refl, refl)
after_value_ends (null ∷ ts) = (refl, refl)
after_value_ends (bad ∷ ts) = (refl, refl)

-- what follows a word ends it
abbrev EndsWords : List ℕ → Type 0
EndsWords r = (ends_word r ≡ true) × (ends_word (escaped r) ≡ true)

word_lexed : (r : List ℕ) → ends_word r ≡ true → (lex between (116 ∷ 114 ∷ 117 ∷ 101 ∷ r) ≡ token (boolean true) ∷ lex between r)
    × (lex between (102 ∷ 97 ∷ 108 ∷ 115 ∷ 101 ∷ r) ≡ token (boolean false) ∷ lex between r) × (lex between (110 ∷ 117 ∷ 108 ∷ 108 ∷ r) ≡ token null ∷ lex between r)
unfolding lex word
word_lexed r ended = (
  ap₂ (λ b l. token (cond b (boolean true) bad) ∷ l) ended (in_word-ended r ended),
  ap₂ (λ b l. token (cond b (boolean false) bad) ∷ l) ended (in_word-ended r ended),
  ap₂ (λ b l. token (cond b null bad) ∷ l) ended (in_word-ended r ended),
)

token_same : (t : Token) (r : List ℕ) → IsPrintable t → (ends t ≡ true → EndsWords r) → Same r → Same (token_text t ++ r)
unfolding lex
token_same begin_object r h ended rest = ap (λ l. token begin_object ∷ l) rest
token_same end_object r h ended rest = ap (λ l. token end_object ∷ l) rest
token_same begin_array r h ended rest = ap (λ l. token begin_array ∷ l) rest
token_same end_array r h ended rest = ap (λ l. token end_array ∷ l) rest
token_same (key s) r h ended rest = subst Same (sym (append_assoc (quoted s) (58 ∷ []) r)) (quoted_same s (58 ∷ r) (colon_same r rest))
token_same (string s) r h ended rest = quoted_same s r rest
token_same (number s) r h ended rest =
    ap (lex between) (plain_then s r (number_plain s h)) ∙ lex-number s (escaped r) h (ended refl).1 ∙ ap (λ l. token (number s) ∷ l) rest ∙ sym (lex-number s r h (ended refl).0)
token_same (boolean true) r h ended rest = (word_lexed (escaped r) (ended refl).1).0 ∙ ap (λ l. token (boolean true) ∷ l) rest ∙ sym (word_lexed r (ended refl).0).0
token_same (boolean false) r h ended rest = (word_lexed (escaped r) (ended refl).1).1 ∙ ap (λ l. token (boolean false) ∷ l) rest ∙ sym (word_lexed r (ended refl).0).1
token_same null r h ended rest = (word_lexed (escaped r) (ended refl).1).2 ∙ ap (λ l. token null ∷ l) rest ∙ sym (word_lexed r (ended refl).0).2
token_same bad r h ended rest = absurd h

-- ---- all tokens

separator_same : (b : Bool) (r : List ℕ) → Same r → Same (cond b (44 ∷ []) [] ++ r)
unfolding lex
separator_same true r rest = ap (λ l. comma ∷ l) rest
separator_same false r rest = rest

print_same : (c : Bool) (ts : List Token) → ArePrintable ts → Same (print_from c ts)
unfolding print_from ArePrintable
print_same c [] h = refl
print_same c (t ∷ ts) h =
    separator_same (c && begins t) (token_text t ++ print_from (ends t) ts)
    (token_same t (print_from (ends t) ts) h.0 (λ e. subst (λ (b : Bool). EndsWords (print_from b ts)) (sym e) (after_value_ends ts)) (print_same (ends t) ts h.1))

pub tokens_escaped : (ts : List Token) → ArePrintable ts → tokens (escaped (print ts)) ≡ ts
tokens_escaped ts h = ap (punctuate fresh) (print_same false ts h) ∙ tokens-print ts h
