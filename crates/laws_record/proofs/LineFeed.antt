-- A line feed after a printed value adds no token.
use Rattle.std.proofs.Common.{◌≡◌, ℕ, Bool, true, false, cond, ◌&&◌, List, [], ◌∷◌, ◌++◌, refl, sym, ap, ap₂, ◌∙◌, append_assoc}
use Rattle.json.specs.Token.{Token, begin_object, end_object, begin_array, end_array, key, string, number, boolean, null, bad}
use Rattle.json.specs.Word.{ends_word, word}
use Rattle.json.specs.Lex.{Lexeme, token, comma, colon, string_token, lex, between, fresh, punctuate, tokens}
use Rattle.json.specs.Print.{escape, quoted, token_text, begins, ends, print_from, print, IsPrintable, ArePrintable}
use Rattle.json.proofs.Printed.Strings.{content-escape, lex-escape}
use Rattle.json.proofs.Printed.Numbers.{lex-number, in_word-ended}
use Rattle.json.proofs.Printed.Tokens.{tokens-print}

-- the lexemes of a token before a rest
abbrev before : Token → List Lexeme → List Lexeme
before begin_object ls = token begin_object ∷ ls
before end_object ls = token end_object ∷ ls
before begin_array ls = token begin_array ∷ ls
before end_array ls = token end_array ∷ ls
before (key s) ls = token (string s) ∷ colon ∷ ls
before (string s) ls = token (string s) ∷ ls
before (number s) ls = token (number s) ∷ ls
before (boolean b) ls = token (boolean b) ∷ ls
before null ls = token null ∷ ls
before bad ls = ls

abbrev Ended : Token → List ℕ → Type 0
Ended t r = ends t ≡ true → ends_word r ≡ true

quoted_lexed : (s r : List ℕ) → lex between (quoted s ++ r) ≡ token (string s) ∷ lex between r
unfolding lex
quoted_lexed s r =
    let e = append_assoc (escape s) (34 ∷ []) r in
    ap (λ l. lex between (34 ∷ l)) e ∙ ap₂ (λ o l. token (string_token o) ∷ l) (content-escape s r) (lex-escape s r)

token_lexed : (t : Token) (r : List ℕ) → IsPrintable t → Ended t r → lex between (token_text t ++ r) ≡ before t (lex between r)
unfolding lex word
token_lexed begin_object r h ended = refl
token_lexed end_object r h ended = refl
token_lexed begin_array r h ended = refl
token_lexed end_array r h ended = refl
token_lexed (key s) r h ended = ap (lex between) (append_assoc (quoted s) (58 ∷ []) r) ∙ quoted_lexed s (58 ∷ r)
token_lexed (string s) r h ended = quoted_lexed s r
token_lexed (number s) r h ended = lex-number s r h (ended refl)
token_lexed (boolean true) r h ended = ap₂ (λ b l. token (cond b (boolean true) bad) ∷ l) (ended refl) (in_word-ended r (ended refl))
token_lexed (boolean false) r h ended = ap₂ (λ b l. token (cond b (boolean false) bad) ∷ l) (ended refl) (in_word-ended r (ended refl))
token_lexed null r h ended = ap₂ (λ b l. token (cond b null bad) ∷ l) (ended refl) (in_word-ended r (ended refl))
token_lexed bad r h ended = absurd h

-- a comma or nothing before two texts of the same lexemes
separated : (b : Bool) (r s : List ℕ) → lex between r ≡ lex between s → lex between (cond b (44 ∷ []) [] ++ r) ≡ lex between (cond b (44 ∷ []) [] ++ s)
unfolding lex
separated true r s same = ap (λ ls. comma ∷ ls) same
separated false r s same = same

-- after a value stands a comma, a closing bracket, a line feed or nothing
ended : (ts : List Token) → ends_word (print_from true ts) ≡ true
unfolding print_from
ended [] = refl
ended (begin_object ∷ ts) = refl
ended (end_object ∷ ts) = refl
ended (begin_array ∷ ts) = refl
ended (end_array ∷ ts) = refl
ended (key s ∷ ts) = refl
ended (string s ∷ ts) = refl
ended (number s ∷ ts) = refl
ended (boolean b ∷ ts) = refl
ended (null ∷ ts) = refl
ended (bad ∷ ts) = refl

ended_by_feed : (ts : List Token) → ends_word (print_from true ts ++ 10 ∷ []) ≡ true
unfolding print_from
ended_by_feed [] = refl
ended_by_feed (begin_object ∷ ts) = refl
ended_by_feed (end_object ∷ ts) = refl
ended_by_feed (begin_array ∷ ts) = refl
ended_by_feed (end_array ∷ ts) = refl
ended_by_feed (key s ∷ ts) = refl
ended_by_feed (string s ∷ ts) = refl
ended_by_feed (number s ∷ ts) = refl
ended_by_feed (boolean b ∷ ts) = refl
ended_by_feed (null ∷ ts) = refl
ended_by_feed (bad ∷ ts) = refl

same_lexemes : (c : Bool) (ts : List Token) → ArePrintable ts → lex between (print_from c ts ++ 10 ∷ []) ≡ lex between (print_from c ts)
unfolding lex print_from ArePrintable
same_lexemes c [] h = refl
same_lexemes c (t ∷ ts) h =
    let rest = print_from (ends t) ts in
    let comma = cond (c && begins t) (44 ∷ []) [] in
    ap (lex between) (append_assoc comma (token_text t ++ rest) (10 ∷ []))
    ∙ separated (c && begins t) ((token_text t ++ rest) ++ 10 ∷ []) (token_text t ++ rest)
    (ap (lex between) (append_assoc (token_text t) rest (10 ∷ []))
    ∙ token_lexed t (rest ++ 10 ∷ []) h.0 (λ e. ap (λ b. ends_word (print_from b ts ++ 10 ∷ [])) e ∙ ended_by_feed ts)
    ∙ ap (before t) (same_lexemes (ends t) ts h.1)
    ∙ sym (token_lexed t rest h.0 (λ e. ap (λ b. ends_word (print_from b ts)) e ∙ ended ts)))

pub line_tokens : (ts : List Token) → ArePrintable ts → tokens (print ts ++ 10 ∷ []) ≡ ts
line_tokens ts h = ap (punctuate fresh) (same_lexemes false ts h) ∙ tokens-print ts h
