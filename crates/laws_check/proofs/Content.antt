-- The content of a string of JSON in a text of UTF-8 is UTF-8.
use Rattle.std.proofs.Common.{◌≡◌, ℕ, ◌+◌, ◌*◌, ◌<◌, ◌≤◌, ◌==◌, List, [], ◌∷◌, ◌++◌, IsUtf8, append_assoc, append-nil, cond, nat_lt, Bool, true, false, Option, Some, None, refl, sym, subst, ⊎_elim, arith}
use Rattle.std.specs.Prelude.{◌&&◌, nat_le, option_and_then}
use Rattle.std.specs.Char.{IsScalar, digit_value, encode_utf8, is_digit}
use Rattle.std.proofs.Math.Utf8.{low_scalar}
use Rattle.std.proofs.lemmas.Bool.{and_parts, both_ways, cases_lt, eqb-true, le-leb, le-ltb, leb-true, lt-ltb, ltb-true}
use Rattle.std.proofs.lemmas.Option.{same_Some}
use Rattle.std.proofs.lemmas.Str.{IsUtf8-append, IsUtf8-encode, IsUtf8-from_ascii}
use Rattle.std.proofs.lemmas.Str.Ascii.{IsAscii-cons, IsAscii-nil}
use Rattle.json.specs.Text.{Within, plain, after_backslash, after_u, after_high, code_unit, content, is_high_surrogate, is_low_surrogate, prepend, short_escape, surrogate_pair}
use Rattle.laws_check.proofs.Cuts.{before, after}

-- one byte of ASCII is a text
one_utf8 : (x : ℕ) → x < 128 → IsUtf8 (x ∷ [])
one_utf8 x low = IsUtf8-from_ascii (x ∷ []) (IsAscii-cons x [] low IsAscii-nil)

-- the rest of a text after an ASCII byte
pub rest_utf8 : (x : ℕ) (xs : List ℕ) → x < 128 → IsUtf8 (x ∷ xs) → IsUtf8 xs
rest_utf8 x xs low text = after [] x xs text low

-- ---- escapes

short_low : (x c : ℕ) → short_escape x ≡ Some c → (x < 128) × (c < 128)
unfolding short_escape
short_low x c e = grind (arith, e)

hex_low : (c : ℕ) → is_digit c 16 ≡ true → (c < 128) × (digit_value c < 16)
hex_low c e = grind (arith, e)

-- four hex digits are ASCII, and spell 16 bits
record AreHex (a b c d u : ℕ) : Type 0 where
  first : a < 128
  second : b < 128
  third : c < 128
  fourth : d < 128
  small : u < 65536

unit_low : (a b c d u : ℕ) → code_unit a b c d ≡ Some u → AreHex a b c d u
unfolding code_unit
unit_low a b c d u e = of_test (is_digit a 16 && is_digit b 16 && is_digit c 16 && is_digit d 16) refl e
  where
    of_test : (t : Bool) → (is_digit a 16 && is_digit b 16 && is_digit c 16 && is_digit d 16) ≡ t
        → cond t (Some (digit_value a * 4096 + digit_value b * 256 + digit_value c * 16 + digit_value d)) None ≡ Some u → AreHex a b c d u
    of_test false is e = absurd cc
    of_test true is e =
        let one = and_parts _ _ is in
        let two = and_parts _ _ one.0 in
        let three = and_parts _ _ two.0 in
        let h = hex_low a three.0 in let i = hex_low b three.1 in let j = hex_low c two.1 in let k = hex_low d one.1 in
        let value : digit_value a * 4096 + digit_value b * 256 + digit_value c * 16 + digit_value d ≡ u = same_Some _ u e in
        record { first = h.0; second = i.0; third = j.0; fourth = k.0; small = omega arith }

high_scalar : (c : ℕ) → 57344 ≤ c → c < 1114112 → IsScalar c
high_scalar c low high = rw (le-ltb c 55296 (omega arith), le-leb 57344 c low, lt-ltb c 1114112 high) refl

-- 16 bits that are no half of a pair are a character
unit_scalar : (u : ℕ) → u < 65536 → is_high_surrogate u ≡ false → is_low_surrogate u ≡ false → IsScalar u
unit_scalar u small no_high no_low = ⊎_elim
    (λ (below : u < 55296). low_scalar u below)
    (λ (above : 55296 ≤ u). ⊎_elim
    (λ (in_high : u < 56320). absurd (both_ways (is_high_surrogate u) no_high (and_true (nat_le 55296 u) (nat_lt u 56320) (le-leb 55296 u above) (lt-ltb u 56320 in_high))))
    (λ (past_high : 56320 ≤ u). ⊎_elim
    (λ (in_low : u < 57344). absurd (both_ways (is_low_surrogate u) no_low (and_true (nat_le 56320 u) (nat_lt u 57344) (le-leb 56320 u past_high) (lt-ltb u 57344 in_low))))
    (λ (past_low : 57344 ≤ u). high_scalar u past_low (omega arith))
    (cases_lt u 57344))
    (cases_lt u 56320))
    (cases_lt u 55296)
  where
    and_true : (a b : Bool) → a ≡ true → b ≡ true → (a && b) ≡ true
    and_true a b e f = rw (e, f) refl

-- a number that is in the first half of a pair, or in the second
record IsHigh (h : ℕ) : Type 0 where
  from : 0xd800 ≤ h
  to : h < 0xdc00

pair_utf8 : (h l : ℕ) → IsHigh h → is_low_surrogate l ≡ true → IsUtf8 (encode_utf8 (surrogate_pair h l))
pair_utf8 h l high low =
    let parts = and_parts (nat_le 0xdc00 l) (nat_lt l 0xe000) low in
    let from : 0xdc00 ≤ l = leb-true 0xdc00 l parts.0 in
    let to : l < 0xe000 = ltb-true l 0xe000 parts.1 in
    let first = high.from in let last = high.to in
    IsUtf8-encode (surrogate_pair h l) (high_scalar (surrogate_pair h l) (omega arith) (omega arith))

-- ---- from one byte to the next

-- where reading goes on: p is the content so far, or the part of it at which the text would be cut
-- here
abbrev JoinsUtf8 : Within → (p xs : List ℕ) → Type 0
JoinsUtf8 plain p xs = IsUtf8 (p ++ xs)
JoinsUtf8 after_backslash p xs = IsUtf8 p × IsUtf8 xs
JoinsUtf8 after_u p xs = IsUtf8 p × IsUtf8 xs
JoinsUtf8 (after_high h) p xs = IsUtf8 p × IsUtf8 xs × IsHigh h

prepended : (p q s : List ℕ) (rest : Option (List ℕ)) → ((t : List ℕ) → rest ≡ Some t → IsUtf8 ((p ++ q) ++ t)) → prepend q rest ≡ Some s → IsUtf8 (p ++ s)
prepended p q s None more e = absurd cc
prepended p q s (Some t) more e = subst (λ (l : List ℕ). IsUtf8 (p ++ l)) (same_Some (q ++ t) s e) (subst IsUtf8 (append_assoc p q t) (more t refl))

-- the rest after whole characters: the content q, and the rest of the text
abbrev GoesOn : (xs : List ℕ) → Type 0
GoesOn xs = (q t : List ℕ) → IsUtf8 q → IsUtf8 xs → content plain xs ≡ Some t → IsUtf8 (q ++ t)

module _ (p s : List ℕ) where
  plain_step : (x : ℕ) (xs : List ℕ) → IsUtf8 (p ++ x ∷ xs) → (is_quote is_slash is_control : Bool) → (x == 34) ≡ is_quote → (x == 92) ≡ is_slash → (escaped rest : Option (List ℕ))
      → (IsUtf8 p → IsUtf8 xs → escaped ≡ Some s → IsUtf8 (p ++ s)) → ((t : List ℕ) → IsUtf8 ((p ++ x ∷ []) ++ xs) → rest ≡ Some t → IsUtf8 ((p ++ x ∷ []) ++ t))
      → cond is_quote (Some []) (cond is_slash escaped (cond is_control None (prepend (x ∷ []) rest))) ≡ Some s → IsUtf8 (p ++ s)
  plain_step x xs text true is_slash is_control quote slash escaped rest after_slash more e =
      let low : x < 128 = (let is : x ≡ 34 = eqb-true x 34 quote in omega arith) in
      subst (λ (l : List ℕ). IsUtf8 (p ++ l)) (same_Some [] s e) (subst IsUtf8 (sym (append-nil p)) (before p x xs text low))
  plain_step x xs text false true is_control quote slash escaped rest after_slash more e =
      let low : x < 128 = (let is : x ≡ 92 = eqb-true x 92 slash in omega arith) in
      after_slash (before p x xs text low) (after p x xs text low) e
  plain_step x xs text false false true quote slash escaped rest after_slash more e = absurd cc
  plain_step x xs text false false false quote slash escaped rest after_slash more e =
      prepended p (x ∷ []) s rest (λ t is. more t (subst IsUtf8 (sym (append_assoc p (x ∷ []) xs)) text) is) e

  -- a backslash, and one more byte
  short_step : (x : ℕ) (xs : List ℕ) → IsUtf8 p → IsUtf8 (x ∷ xs) → GoesOn xs → (located : Option ℕ) → short_escape x ≡ located
      → option_and_then (λ c. prepend (c ∷ []) (content plain xs)) located ≡ Some s → IsUtf8 (p ++ s)
  short_step x xs front text more None is e = absurd cc
  short_step x xs front text more (Some c) is e =
      let low = short_low x c is in
      prepended p (c ∷ []) s (content plain xs) (λ t same. more (p ++ c ∷ []) t (IsUtf8-append p (c ∷ []) front (one_utf8 c low.1)) (rest_utf8 x xs low.0 text) same) e

  escape_step : (x : ℕ) (xs : List ℕ) → IsUtf8 p → IsUtf8 (x ∷ xs) → GoesOn xs → (is_u : Bool) → (x == 117) ≡ is_u → (behind_u : Option (List ℕ))
      → (IsUtf8 xs → behind_u ≡ Some s → IsUtf8 (p ++ s)) → cond is_u behind_u (option_and_then (λ c. prepend (c ∷ []) (content plain xs)) (short_escape x)) ≡ Some s → IsUtf8 (p ++ s)
  escape_step x xs front text more true is behind_u unit e =
      unit (rest_utf8 x xs (let same : x ≡ 117 = eqb-true x 117 is in omega arith) text) e
  escape_step x xs front text more false is behind_u unit e = short_step x xs front text more (short_escape x) refl e

  -- what follows four hex digits
  after_hex : (a b c d u : ℕ) (xs : List ℕ) → IsUtf8 (a ∷ b ∷ c ∷ d ∷ xs) → AreHex a b c d u → IsUtf8 xs
  after_hex a b c d u xs text hex =
      rest_utf8 d xs hex.fourth (rest_utf8 c (d ∷ xs) hex.third (rest_utf8 b (c ∷ d ∷ xs) hex.second (rest_utf8 a (b ∷ c ∷ d ∷ xs) hex.first text)))

  -- a backslash, `u` and four digits
  unit_step : (a b c d : ℕ) (xs : List ℕ) → IsUtf8 p → IsUtf8 (a ∷ b ∷ c ∷ d ∷ xs) → GoesOn xs → ((h : ℕ) → IsUtf8 xs → IsHigh h → content (after_high h) xs ≡ Some s → IsUtf8 (p ++ s))
      → (located : Option ℕ) → code_unit a b c d ≡ located
      → option_and_then (λ u. cond (is_high_surrogate u) (content (after_high u) xs) (cond (is_low_surrogate u) None (prepend (encode_utf8 u) (content plain xs)))) located ≡ Some s → IsUtf8 (p ++ s)
  unit_step a b c d xs front text more paired None is e = absurd cc
  unit_step a b c d xs front text more paired (Some u) is e = of_unit (is_high_surrogate u) refl (is_low_surrogate u) refl e
    where
      hex : AreHex a b c d u
      hex = unit_low a b c d u is

      of_unit : (high : Bool) → is_high_surrogate u ≡ high → (low : Bool) → is_low_surrogate u ≡ low
          → cond high (content (after_high u) xs) (cond low None (prepend (encode_utf8 u) (content plain xs))) ≡ Some s → IsUtf8 (p ++ s)
      of_unit true in_high low other e =
          let parts = and_parts (nat_le 0xd800 u) (nat_lt u 0xdc00) in_high in
          paired u (after_hex a b c d u xs text hex) (record { from = leb-true 0xd800 u parts.0; to = ltb-true u 0xdc00 parts.1 }) e
      of_unit false not_high true in_low e = absurd cc
      of_unit false not_high false not_low e =
          prepended p (encode_utf8 u) s (content plain xs)
          (λ t same. more (p ++ encode_utf8 u) t (IsUtf8-append p (encode_utf8 u) front (IsUtf8-encode u (unit_scalar u hex.small not_high not_low))) (after_hex a b c d u xs text hex) same) e

  -- the second half of a pair
  pair_step : (h y z a b c d : ℕ) (xs : List ℕ) → IsUtf8 p → IsUtf8 (y ∷ z ∷ a ∷ b ∷ c ∷ d ∷ xs) → IsHigh h → GoesOn xs → (test : Bool) → ((y == 92) && (z == 117)) ≡ test → (located : Option ℕ) → code_unit a b c d ≡ located
      → cond test (option_and_then (λ l. cond (is_low_surrogate l) (prepend (encode_utf8 (surrogate_pair h l)) (content plain xs)) None) located) None ≡ Some s → IsUtf8 (p ++ s)
  pair_step h y z a b c d xs front text high more false is located unit e = absurd cc
  pair_step h y z a b c d xs front text high more true is None unit e = absurd cc
  pair_step h y z a b c d xs front text high more true is (Some l) unit e = of_low (is_low_surrogate l) refl e
    where
      rest : IsUtf8 xs
      rest =
          let both = and_parts (y == 92) (z == 117) is in
          let first : y < 128 = (let same : y ≡ 92 = eqb-true y 92 both.0 in omega arith) in
          let second : z < 128 = (let same : z ≡ 117 = eqb-true z 117 both.1 in omega arith) in
          after_hex a b c d l xs (rest_utf8 z (a ∷ b ∷ c ∷ d ∷ xs) second (rest_utf8 y (z ∷ a ∷ b ∷ c ∷ d ∷ xs) first text)) (unit_low a b c d l unit)

      of_low : (low : Bool) → is_low_surrogate l ≡ low → cond low (prepend (encode_utf8 (surrogate_pair h l)) (content plain xs)) None ≡ Some s → IsUtf8 (p ++ s)
      of_low false other e = absurd cc
      of_low true in_low e =
          let q = encode_utf8 (surrogate_pair h l) in
          prepended p q s (content plain xs) (λ t same. more (p ++ q) t (IsUtf8-append p q front (pair_utf8 h l high in_low)) rest same) e

content_fits : (w : Within) (p xs s : List ℕ) → JoinsUtf8 w p xs → content w xs ≡ Some s → IsUtf8 (p ++ s)
unfolding content
content_fits plain p [] s fits e = absurd cc
content_fits plain p (x ∷ xs) s fits e =
    plain_step p s x xs fits (x == 34) (x == 92) (nat_lt x 32) refl refl (content after_backslash xs) (content plain xs) (λ front rest. content_fits after_backslash p xs s (front, rest)) (λ t. content_fits plain (p ++ x ∷ []) xs t) e
content_fits after_backslash p [] s fits e = absurd cc
content_fits after_backslash p (x ∷ xs) s fits e =
    escape_step p s x xs fits.0 fits.1 (λ q t front rest. content_fits plain q xs t (IsUtf8-append q xs front rest)) (x == 117) refl (content after_u xs) (λ rest. content_fits after_u p xs s (fits.0, rest)) e
content_fits after_u p [] s fits e = absurd cc
content_fits after_u p (a ∷ []) s fits e = absurd cc
content_fits after_u p (a ∷ b ∷ []) s fits e = absurd cc
content_fits after_u p (a ∷ b ∷ c ∷ []) s fits e = absurd cc
content_fits after_u p (a ∷ b ∷ c ∷ d ∷ xs) s fits e =
    unit_step p s a b c d xs fits.0 fits.1 (λ q t front rest. content_fits plain q xs t (IsUtf8-append q xs front rest)) (λ h rest high. content_fits (after_high h) p xs s (fits.0, rest, high)) (code_unit a b c d) refl e
content_fits (after_high h) p [] s fits e = absurd cc
content_fits (after_high h) p (y ∷ []) s fits e = absurd cc
content_fits (after_high h) p (y ∷ z ∷ []) s fits e = absurd cc
content_fits (after_high h) p (y ∷ z ∷ a ∷ []) s fits e = absurd cc
content_fits (after_high h) p (y ∷ z ∷ a ∷ b ∷ []) s fits e = absurd cc
content_fits (after_high h) p (y ∷ z ∷ a ∷ b ∷ c ∷ []) s fits e = absurd cc
content_fits (after_high h) p (y ∷ z ∷ a ∷ b ∷ c ∷ d ∷ xs) s fits e =
    pair_step p s h y z a b c d xs fits.0 fits.1 fits.2 (λ q t front rest. content_fits plain q xs t (IsUtf8-append q xs front rest)) ((y == 92) && (z == 117)) refl (code_unit a b c d) refl e

-- a string that begins in a text is a text
pub content_utf8 : (xs s : List ℕ) → IsUtf8 xs → content plain xs ≡ Some s → IsUtf8 s
content_utf8 xs s text e = content_fits plain [] xs s text e
