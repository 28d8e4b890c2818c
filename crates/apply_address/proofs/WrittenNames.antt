-- The names and keys that are written are read.
use Rattle.std.proofs.Common.{◌≡◌, ◌≢◌, ℕ, suc, ◌+◌, ◌^◌, ◌<◌, ◌≤◌, ◌==◌, nat_lt, Bool, true, false, cond, codes, List, [], ◌∷◌, ◌++◌, length, take, drop, get_or, Some, None, ℤ, pos, negsuc, neg_ℤ, refl, sym, ap, subst, ◌∙◌, arith, append_assoc, length-append, drop_at, take_at}
use Rattle.std.specs.Prelude.{FitsSigned, nat_eq, option_map}
use Rattle.std.specs.Char.{digit_value}
use Rattle.std.specs.Fmt.{decimal, signed_decimal}
use Rattle.std.specs.Int.{w64}
use Rattle.std.specs.List.{AllByRecursion, before_first, after_first, position_or_len}
use Rattle.std.specs.Option.{option_map_or}
use Rattle.std.specs.Str.Parse.{AllDigits, digits_value, signed_digits_value}
use Rattle.std.proofs.lemmas.Bool.Decides.{nat_tests}
use Rattle.std.proofs.lemmas.Fmt.{decimal_is_IsNumeral}
use Rattle.std.proofs.lemmas.Str.Parse.{without_leading_plus_none}
use Rattle.apply_model.specs.declared.plan.key.Key.TheVariants as key
use Rattle.apply_model.specs.Plan.Address.{after_prefix}
use Rattle.apply_address.specs.Address.{IsNamed, Named, written_named}
use Rattle.apply_address.specs.Keys.{IsKey, WrittenKey, no_key, number_key, meant_key, text_key, written_key}
use Rattle.apply_address.specs.Names.{IsName, is_delimiter}
use Rattle.apply_address.specs.Pieces.{IsPiece, Piece, unescaped_text, written_text}
use Rattle.apply_address.specs.Reading.{cut_at_bracket, key_at, name_at, named_at, number_key_at, unescaped_in, text_key_at, whole_number}
use Rattle.apply_address.proofs.LocatedNames.{meant_named}
use Rattle.apply_address.proofs.Numbers.{whole_number-written}
use Rattle.apply_address.proofs.Steps.{after_prefix-at}
use Rattle.apply_address.proofs.WrittenPieces.{AreRead, length-written, pieces_read}

-- ---- a front that ends where a test passes

-- nothing, or a byte that passes in front
abbrev pub EndsAt : (ℕ → Bool) → List ℕ → Type 0
EndsAt passes [] = Unit {0}
EndsAt passes (byte ∷ bytes) = passes byte ≡ true

position-front : (passes : ℕ → Bool) (front remainder : List ℕ) → AllByRecursion (λ byte. passes byte ≡ false) front → EndsAt passes remainder
    → position_or_len passes (front ++ remainder) ≡ length front
position-front passes [] [] none ends = refl
position-front passes [] (byte ∷ remainder) none ends = rw ends refl
position-front passes (byte ∷ front) remainder none ends =
    rw none.0 (omega (arith, position-front passes front remainder none.1 ends))

before-front : (passes : ℕ → Bool) (front remainder : List ℕ) → AllByRecursion (λ byte. passes byte ≡ false) front → EndsAt passes remainder
    → before_first passes (front ++ remainder) ≡ front
before-front passes front remainder none ends =
    ap (λ k. take k (front ++ remainder)) (position-front passes front remainder none ends) ∙ take_at front remainder (length front) refl

-- ---- names

some_length : (size : ℕ) → 0 < size → (size == 0) ≡ false
some_length size some = grind (arith, nat_tests)

pub name_written : (name remainder : List ℕ) → IsName name → EndsAt is_delimiter remainder → name_at (name ++ remainder) ≡ Some (name, remainder)
unfolding name_at
name_written name remainder is ends =
    let place = position-front is_delimiter name remainder is.plain ends in
    let some : (position_or_len is_delimiter (name ++ remainder) == 0) ≡ false = ap (λ k. k == 0) place ∙ some_length (length name) is.some in
    let front = before-front is_delimiter name remainder is.plain ends in
    let rest : drop (position_or_len is_delimiter (name ++ remainder)) (name ++ remainder) ≡ remainder = ap (λ k. drop k (name ++ remainder)) place ∙ drop_at name remainder (length name) refl in
    ap (λ b. cond b None (Some (before_first is_delimiter (name ++ remainder), drop (position_or_len is_delimiter (name ++ remainder)) (name ++ remainder)))) some
    ∙ ap (λ (t : List ℕ). Some (t, drop (position_or_len is_delimiter (name ++ remainder)) (name ++ remainder))) front ∙ ap (λ (t : List ℕ). Some (name, t)) rest

-- ---- numbers

-- digits and a sign, and no other byte
abbrev IsDigitOrSign : ℕ → Type 0
IsDigitOrSign byte = ((byte == 93) ≡ false) × (byte ≢ 34)

digits_plain : (digits : List ℕ) → AllDigits 10 digits → AllByRecursion (λ byte. (byte == 93) ≡ false) digits
digits_plain [] all = tt
digits_plain (digit ∷ digits) all = (let small : digit_value digit < 10 = all.0 in grind (arith, nat_tests), digits_plain digits all.1)

-- what a number is written of
record IsNumber (number : ℤ) : Type 0 where
  first : ℕ
  others : List ℕ
  is : signed_decimal number ≡ first ∷ others
  no_quote : first ≢ 34
  plain : AllByRecursion (λ byte. (byte == 93) ≡ false) (signed_decimal number)
  value : signed_digits_value 10 (signed_decimal number) ≡ number

first_digit : (digits : List ℕ) → 0 < length digits → AllDigits 10 digits → (first : ℕ) × (others : List ℕ) × (digits ≡ first ∷ others) × (48 ≤ first)
first_digit [] some all = absurd (omega arith)
first_digit (digit ∷ digits) some all = (digit, digits, refl, let small : digit_value digit < 10 = all.0 in grind (arith, nat_tests))

value_plain : (digits others : List ℕ) (first : ℕ) → digits ≡ first ∷ others → 48 ≤ first → signed_digits_value 10 digits ≡ pos (digits_value 10 digits)
value_plain digits others first is high =
    let at : get_or digits 0 0 ≡ first = ap (λ t. get_or t 0 0) is in
    let no_minus : (get_or digits 0 0 == 45) ≡ false = grind (arith, nat_tests) in
    let no_plus : get_or digits 0 0 ≢ 43 = λ e. absurd (omega arith) in
    rw no_minus (ap (λ t. pos (digits_value 10 t)) (without_leading_plus_none digits no_plus))

number_is : (number : ℤ) → FitsSigned w64 number → IsNumber number
number_is (pos n) small =
    let less : n < 2 ^ 63 = small.sfits in
    let numeral = decimal_is_IsNumeral n (omega arith) in
    let digit = first_digit (decimal n) numeral.0.0 numeral.0.1 in
    record {
      first = digit.0;
      others = digit.1;
      is = digit.2;
      no_quote = let high = digit.3 in λ e. absurd (omega arith);
      plain = digits_plain (decimal n) numeral.0.1;
      value = value_plain (decimal n) digit.1 digit.0 digit.2 digit.3 ∙ ap (λ k. pos k) numeral.1;
    }
number_is (negsuc n) small =
    let less : n < 2 ^ 63 = small.sfits in
    let numeral = decimal_is_IsNumeral (suc n) (omega arith) in
    record {
      first = 45;
      others = decimal (suc n);
      is = refl;
      no_quote = λ e. absurd (omega arith);
      plain = (refl, digits_plain (decimal (suc n)) numeral.0.1);
      value = ap (λ k. neg_ℤ (pos k)) numeral.1;
    }

whole_number-at : (number : ℤ) → FitsSigned w64 number → whole_number (signed_decimal number) ≡ Some number
whole_number-at number small =
    let is = number_is number small in
    let text = signed_decimal number in
    whole_number-written text (subst (FitsSigned w64) (sym is.value) small) (ap signed_decimal is.value) ∙ ap (λ z. Some z) is.value

cut_written : (front remainder : List ℕ) → AllByRecursion (λ byte. (byte == 93) ≡ false) front → cut_at_bracket (front ++ 93 ∷ remainder) ≡ Some (front, remainder)
unfolding cut_at_bracket
cut_written front remainder plain =
    let is_bracket : ℕ → Bool = λ byte. byte == 93 in
    let place : position_or_len (λ byte. byte == 93) (front ++ 93 ∷ remainder) ≡ length front = position-front (λ byte. byte == 93) front (93 ∷ remainder) plain refl in
    let within : nat_lt (position_or_len (λ byte. byte == 93) (front ++ 93 ∷ remainder)) (length (front ++ 93 ∷ remainder)) ≡ true =
    let whole = length-append front (93 ∷ remainder) in grind (arith, nat_tests) in
    let before : before_first (λ byte. byte == 93) (front ++ 93 ∷ remainder) ≡ front = before-front (λ byte. byte == 93) front (93 ∷ remainder) plain refl in
    let joined : front ++ 93 ∷ remainder ≡ (front ++ 93 ∷ []) ++ remainder = sym (append_assoc front (93 ∷ []) remainder) in
    let long : length (front ++ 93 ∷ []) ≡ length front + 1 = length-append front (93 ∷ []) in
    let after : after_first (λ byte. byte == 93) (front ++ 93 ∷ remainder) ≡ remainder =
    ap (λ k. drop (k + 1) (front ++ 93 ∷ remainder)) place ∙ ap (λ t. drop (length front + 1) t) joined ∙ drop_at (front ++ 93 ∷ []) remainder (length front + 1) long in
    ap (λ b. cond b (Some (before_first (λ byte. byte == 93) (front ++ 93 ∷ remainder), after_first (λ byte. byte == 93) (front ++ 93 ∷ remainder))) None) within
    ∙ ap (λ (t : List ℕ). Some (t, after_first (λ byte. byte == 93) (front ++ 93 ∷ remainder))) before ∙ ap (λ (t : List ℕ). Some (front, t)) after

number_key_written : (number : ℤ) (remainder : List ℕ) → FitsSigned w64 number → number_key_at (signed_decimal number ++ 93 ∷ remainder) ≡ Some (key.Number number, remainder)
unfolding number_key_at
number_key_written number remainder small =
    rw (cut_written (signed_decimal number) remainder (number_is number small).plain, whole_number-at number small) refl

-- ---- keys

text_key_written : (pieces : List Piece) (remainder : List ℕ) → AllByRecursion IsPiece pieces → text_key_at (written_text pieces ++ 34 ∷ 93 ∷ remainder) ≡ Some (key.Name (unescaped_text pieces), remainder)
unfolding text_key_at
text_key_written pieces remainder are =
    let text = written_text pieces ++ 34 ∷ 93 ∷ remainder in
    let room : length pieces ≤ length text = omega (arith, length-written pieces, length-append (written_text pieces) (34 ∷ 93 ∷ remainder)) in
    let read : AreRead (length text) pieces (93 ∷ remainder) = pieces_read (length text) pieces (93 ∷ remainder) are room in
    ap (λ t. option_map (λ (b : List ℕ). (key.Name (unescaped_in text), b)) (after_prefix (codes "\"]") t)) read.remainder
    ∙ ap (λ o. option_map (λ (b : List ℕ). (key.Name (unescaped_in text), b)) o) (after_prefix-at (codes "\"]") remainder)
    ∙ ap (λ (t : List ℕ). Some (key.Name t, remainder)) read.content

-- nothing, or a dot in front
abbrev pub EndsAtDot : List ℕ → Type 0
EndsAtDot remainder = EndsAt (λ byte. byte == 46) remainder

dot_is : (byte : ℕ) → (byte == 46) ≡ true → byte ≡ 46
dot_is byte e = grind (arith, nat_tests)

no_bracket : (remainder : List ℕ) → EndsAtDot remainder → (after_prefix (codes "[\"") remainder ≡ None) × (after_prefix (codes "[") remainder ≡ None)
no_bracket [] ends = (refl, refl)
no_bracket (byte ∷ remainder) ends =
    let P : ℕ → Type 0 = λ first. (after_prefix (codes "[\"") (first ∷ remainder) ≡ None) × (after_prefix (codes "[") (first ∷ remainder) ≡ None) in
    subst P (sym (dot_is byte ends)) (refl, refl)

no_quote_after : (first : ℕ) (others : List ℕ) → first ≢ 34 → after_prefix (codes "[\"") (91 ∷ first ∷ others) ≡ None
no_quote_after first others not_quote =
    let test : nat_eq 34 first ≡ false = grind (arith, nat_tests) in
    rw test refl

number_quoteless : (number : ℤ) (remainder : List ℕ) → FitsSigned w64 number → after_prefix (codes "[\"") (91 ∷ (signed_decimal number ++ remainder)) ≡ None
number_quoteless number remainder small =
    let is = number_is number small in
    ap (λ t. after_prefix (codes "[\"") (91 ∷ (t ++ remainder))) is.is ∙ no_quote_after is.first (is.others ++ remainder) is.no_quote

pub key_written : (written_as : WrittenKey) (remainder : List ℕ) → IsKey written_as → EndsAtDot remainder → key_at (written_key written_as ++ remainder) ≡ Some (meant_key written_as, remainder)
unfolding key_at
key_written no_key remainder is ends =
    let none = no_bracket remainder ends in
    ap (λ o. option_map_or text_key_at o (option_map_or number_key_at (after_prefix (codes "[") remainder) (Some (key.None, remainder)))) none.0
    ∙ ap (λ o. option_map_or number_key_at o (Some (key.None, remainder))) none.1
key_written (number_key number) remainder is ends =
    let inside = signed_decimal number ++ 93 ∷ remainder in
    let whole : written_key (number_key number) ++ remainder ≡ 91 ∷ inside = ap (λ t. 91 ∷ t) (append_assoc (signed_decimal number) (codes "]") remainder) in
    ap key_at whole
    ∙ ap (λ o. option_map_or text_key_at o (option_map_or number_key_at (after_prefix (codes "[") (91 ∷ inside)) (Some (key.None, 91 ∷ inside)))) (number_quoteless number (93 ∷ remainder) is)
    ∙ ap (λ o. option_map_or number_key_at o (Some (key.None, 91 ∷ inside))) (after_prefix-at (codes "[") inside)
    ∙ number_key_written number remainder is
key_written (text_key pieces) remainder is ends =
    let inside = written_text pieces ++ 34 ∷ 93 ∷ remainder in
    let whole : written_key (text_key pieces) ++ remainder ≡ 91 ∷ 34 ∷ inside = ap (λ t. 91 ∷ 34 ∷ t) (append_assoc (written_text pieces) (codes "\"]") remainder) in
    ap key_at whole
    ∙ ap (λ o. option_map_or text_key_at o (option_map_or number_key_at (after_prefix (codes "[") (91 ∷ 34 ∷ inside)) (Some (key.None, 91 ∷ 34 ∷ inside)))) (after_prefix-at (codes "[\"") inside)
    ∙ text_key_written pieces remainder is

-- ---- names with keys

-- a key, followed by a dot or nothing, begins with a delimiter or is empty
delimiter_after : (written_as : WrittenKey) (remainder : List ℕ) → EndsAtDot remainder → EndsAt is_delimiter (written_key written_as ++ remainder)
delimiter_after no_key [] ends = tt
delimiter_after no_key (byte ∷ remainder) ends = ap is_delimiter (dot_is byte ends)
delimiter_after (number_key number) remainder ends = refl
delimiter_after (text_key pieces) remainder ends = refl

pub named_written : (named : Named) (remainder : List ℕ) → IsNamed named → EndsAtDot remainder → named_at (written_named named ++ remainder) ≡ Some (meant_named named, remainder)
unfolding named_at
named_written named remainder is ends =
    let rest = written_key named.key ++ remainder in
    let name : name_at (written_named named ++ remainder) ≡ Some (named.name, rest) =
    ap name_at (append_assoc named.name (written_key named.key) remainder) ∙ name_written named.name rest is.name (delimiter_after named.key remainder ends) in
    rw (name, key_written named.key remainder is.key ends) refl
