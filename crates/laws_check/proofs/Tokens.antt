-- The strings, the keys and the numbers among the tokens of a text of UTF-8 are UTF-8.
use Rattle.std.proofs.Common.{◌≡◌, ℕ, ◌-◌, ◌==◌, List, [], ◌∷◌, ◌++◌, IsUtf8, append_assoc, cond, drop, length, nat_eq, take, Bool, true, false, Option, Some, None, refl, sym, subst, arith}
use Rattle.std.specs.Prelude.{◌&&◌, IfSome, ⊤}
use Rattle.std.specs.List.{AllByRecursion, starts_with}
use Rattle.std.proofs.lemmas.Bool.{eqb-true}
use Rattle.json.specs.Text.{content, plain}
use Rattle.json.specs.Token.{Token, begin_object, end_object, begin_array, end_array, key, string, number, boolean, null, bad}
use Rattle.json.specs.Ascii as ascii
use Rattle.json.specs.Word.{after_number, ends_word, head, is_operator, is_space, literal, number_before, word}
use Rattle.json.specs.Lex.{Class, quote, backslash, operator, space, other, class, Lexeme, token, comma, colon, Mode, between, in_word, in_string, in_escape, Place, fresh, after_value, after_comma, after_key, begins_colon, if_allowed, lex, lex_byte, may_begin, may_close, operator_lexeme, place_token, punctuate, string_token, tokens}
use Rattle.laws_check.proofs.Content.{content_utf8}
use Rattle.laws_check.proofs.Cuts.{after}
use Rattle.laws_check.proofs.NumberTexts.{IsRest, before_rest, number_rest}

abbrev pub IsSpelt : Token → Type 0
IsSpelt begin_object = ⊤
IsSpelt end_object = ⊤
IsSpelt begin_array = ⊤
IsSpelt end_array = ⊤
IsSpelt (key s) = IsUtf8 s
IsSpelt (string s) = IsUtf8 s
IsSpelt (number s) = IsUtf8 s
IsSpelt (boolean b) = ⊤
IsSpelt null = ⊤
IsSpelt bad = ⊤

abbrev pub AreSpelt : List Token → Type 0
AreSpelt ts = AllByRecursion IsSpelt ts

abbrev IsRead : Lexeme → Type 0
IsRead (token t) = IsSpelt t
IsRead comma = ⊤
IsRead colon = ⊤

abbrev AreRead : List Lexeme → Type 0
AreRead ls = AllByRecursion IsRead ls

-- ---- one lexeme

either : (b : Bool) (t u : Token) → IsSpelt t → IsSpelt u → IsSpelt (cond b t u)
either true t u first second = first
either false t u first second = second

number_spelt : (t : List ℕ) (o : Option (List ℕ)) → IfSome o (IsRest t) → IsSpelt (number_before t o)
number_spelt t None left = tt
number_spelt t (Some rest) left = either (ends_word rest) (number (take (length t - length rest) t)) bad (before_rest t rest left) tt

literal_spelt : (name : List ℕ) (located : Token) (t : List ℕ) → IsSpelt located → IsSpelt (literal name located t)
literal_spelt name located t h = either (starts_with nat_eq t name && ends_word (drop (length name) t)) located bad h tt

word_spelt : (t : List ℕ) → IsSpelt (word t)
unfolding word
word_spelt t =
    either (head t == ascii.lower_t) (literal ascii.true_text (boolean true) t) _ (literal_spelt ascii.true_text (boolean true) t tt)
    (either (head t == ascii.lower_f) (literal ascii.false_text (boolean false) t) _ (literal_spelt ascii.false_text (boolean false) t tt)
    (either (head t == ascii.lower_n) (literal ascii.null_text null t) _ (literal_spelt ascii.null_text null t tt) (number_spelt t (after_number t) (number_rest t))))

operator_read : (x : ℕ) → IsRead (operator_lexeme x)
operator_read x = of_tests (x == ascii.open_brace) (x == ascii.close_brace) (x == ascii.open_bracket) (x == ascii.close_bracket) (x == ascii.comma)
  where
    of_tests : (a b c d e : Bool) → IsRead (cond a (token begin_object) (cond b (token end_object) (cond c (token begin_array) (cond d (token end_array) (cond e comma colon)))))
    of_tests true b c d e = tt
    of_tests false true c d e = tt
    of_tests false false true d e = tt
    of_tests false false false true e = tt
    of_tests false false false false true = tt
    of_tests false false false false false = tt

string_spelt : (xs : List ℕ) (o : Option (List ℕ)) → IsUtf8 xs → content plain xs ≡ o → IsSpelt (string_token o)
string_spelt xs None text is = tt
string_spelt xs (Some s) text is = content_utf8 xs s text is

-- a byte of that class is a quote
quote_is : (x : ℕ) → class x ≡ quote → x ≡ 34
quote_is x e = eqb-true x 34 (of_tests (x == 34) (x == 92) (is_operator x) (is_space x) e)
  where
    of_tests : (a b c d : Bool) → cond a quote (cond b backslash (cond c operator (cond d space other))) ≡ quote → a ≡ true
    of_tests true b c d e = refl
    of_tests false true c d e = absurd cc
    of_tests false false true d e = absurd cc
    of_tests false false false true e = absurd cc
    of_tests false false false false e = absurd cc

-- ---- all lexemes, after the part of the text that was read

byte_read : (x : ℕ) (xs : List ℕ) (m : Mode) (c : Class) → (c ≡ quote → IsUtf8 xs) → ((next : Mode) → AreRead (lex next xs)) → AreRead (lex_byte m c x xs (λ next. lex next xs))
byte_read x xs between quote text rest = (string_spelt xs (content plain xs) (text refl) refl, rest in_string)
byte_read x xs between backslash text rest = (tt, rest in_word)
byte_read x xs between operator text rest = (operator_read x, rest between)
byte_read x xs between space text rest = rest between
byte_read x xs between other text rest = (word_spelt (x ∷ xs), rest in_word)
byte_read x xs in_word quote text rest = rest in_word
byte_read x xs in_word backslash text rest = rest in_word
byte_read x xs in_word operator text rest = (operator_read x, rest between)
byte_read x xs in_word space text rest = rest between
byte_read x xs in_word other text rest = rest in_word
byte_read x xs in_string quote text rest = rest between
byte_read x xs in_string backslash text rest = rest in_escape
byte_read x xs in_string operator text rest = rest in_string
byte_read x xs in_string space text rest = rest in_string
byte_read x xs in_string other text rest = rest in_string
byte_read x xs in_escape c text rest = rest in_string

all_read : (m : Mode) (p xs : List ℕ) → IsUtf8 (p ++ xs) → AreRead (lex m xs)
unfolding lex
all_read m p [] text = tt
all_read m p (x ∷ xs) text =
    byte_read x xs m (class x) (λ e. after p x xs text (let is : x ≡ 34 = quote_is x e in omega arith))
    (λ next. all_read next (p ++ x ∷ []) xs (subst IsUtf8 (sym (append_assoc p (x ∷ []) xs)) text))

-- ---- the tokens

allowed : (b : Bool) (t : Token) (k : Place → List Token) (next : Place) → IsSpelt t → AreSpelt (k next) → AreSpelt (if_allowed b t k next)
allowed true t k next one rest = (one, rest)
allowed false t k next one rest = (tt, tt)

placed : (p : Place) (t : Token) (b : Bool) (k : Place → List Token) → IsSpelt t → ((next : Place) → AreSpelt (k next)) → AreSpelt (place_token p t b k)
placed p begin_object b k one rest = allowed (may_begin p) begin_object k fresh tt (rest fresh)
placed p end_object b k one rest = allowed (may_close p) end_object k after_value tt (rest after_value)
placed p begin_array b k one rest = allowed (may_begin p) begin_array k fresh tt (rest fresh)
placed p end_array b k one rest = allowed (may_close p) end_array k after_value tt (rest after_value)
placed p (key s) b k one rest = (tt, tt)
placed p (string s) true k one rest = allowed (may_begin p) (key s) k after_key one (rest after_key)
placed p (string s) false k one rest = allowed (may_begin p) (string s) k after_value one (rest after_value)
placed p (number s) b k one rest = allowed (may_begin p) (number s) k after_value one (rest after_value)
placed p (boolean x) b k one rest = allowed (may_begin p) (boolean x) k after_value tt (rest after_value)
placed p null b k one rest = allowed (may_begin p) null k after_value tt (rest after_value)
placed p bad b k one rest = (tt, tt)

all_placed : (p : Place) (ls : List Lexeme) → AreRead ls → AreSpelt (punctuate p ls)
unfolding punctuate
all_placed fresh [] h = tt
all_placed after_value [] h = tt
all_placed after_comma [] h = (tt, tt)
all_placed after_key [] h = (tt, tt)
all_placed fresh (token t ∷ ls) h = placed fresh t (begins_colon ls) (λ next. punctuate next ls) h.0 (λ next. all_placed next ls h.1)
all_placed after_value (token t ∷ ls) h = placed after_value t (begins_colon ls) (λ next. punctuate next ls) h.0 (λ next. all_placed next ls h.1)
all_placed after_comma (token t ∷ ls) h = placed after_comma t (begins_colon ls) (λ next. punctuate next ls) h.0 (λ next. all_placed next ls h.1)
all_placed after_key (token t ∷ ls) h = placed after_key t (begins_colon ls) (λ next. punctuate next ls) h.0 (λ next. all_placed next ls h.1)
all_placed fresh (comma ∷ ls) h = (tt, tt)
all_placed after_value (comma ∷ ls) h = all_placed after_comma ls h.1
all_placed after_comma (comma ∷ ls) h = (tt, tt)
all_placed after_key (comma ∷ ls) h = (tt, tt)
all_placed fresh (colon ∷ ls) h = (tt, tt)
all_placed after_value (colon ∷ ls) h = (tt, tt)
all_placed after_comma (colon ∷ ls) h = (tt, tt)
all_placed after_key (colon ∷ ls) h = all_placed fresh ls h.1

pub tokens_spelt : (text : List ℕ) → IsUtf8 text → AreSpelt (tokens text)
tokens_spelt text utf8 = all_placed fresh (lex between text) (all_read between [] text utf8)
