-- Whole numbers as JSON writes them.
use Rattle.std.proofs.Common.{◌≡◌, ◌≢◌, ℕ, zero, suc, ◌^◌, ◌<◌, ℤ, pos, negsuc, neg_ℤ, Bool, true, false, ◌==◌, List, [], ◌∷◌, length, get_or, Option, Some, None, Result, Ok, Err, refl, ap, sym, subst, ◌∙◌, ◌&&◌, arith, cond}
use Rattle.std.specs.Prelude.{FitsSigned}
use Rattle.std.specs.Fmt.{decimal, signed_decimal}
use Rattle.std.specs.Int.{w64}
use Rattle.std.specs.Result.{result_ok}
use Rattle.std.specs.Str.{bytes_eq}
use Rattle.std.specs.Str.Parse.{AllDigits, IsNumeral, ParsesSigned, digits_value, signed_digits_value, without_leading_plus, without_leading_sign}
use Rattle.std.proofs.lemmas.Bool.{and_parts}
use Rattle.std.proofs.lemmas.Bool.Decides.{nat_tests}
use Rattle.std.proofs.lemmas.Fmt.{decimal-digits_value, decimal_digit, first_decimal, parse-signed_decimal}
use Rattle.std.proofs.lemmas.Slice.Eq.{bytes_eq-Decides}
use Rattle.std.proofs.lemmas.Str.Parse.{IsNumeralModel, numerals_by_value, tells_digits, without_leading_plus_none}
use Rattle.apply_address.specs.Reading.{is_64_bits, is_canonical, whole_number}

-- the number that the digits of a text are
abbrev number_of : List ℕ → ℤ
number_of text = signed_digits_value 10 text

fits : (z : ℤ) → is_64_bits z ≡ true → FitsSigned w64 z
fits (pos n) e = record { sfits = grind (arith, nat_tests) }
fits (negsuc n) e = record { sfits = grind (arith, nat_tests) }

fits_test : (z : ℤ) → FitsSigned w64 z → is_64_bits z ≡ true
fits_test (pos n) h = let less : n < 2 ^ 63 = h.sfits in grind (arith, nat_tests)
fits_test (negsuc n) h = let less : n < 2 ^ 63 = h.sfits in grind (arith, nat_tests)

-- a number that is read is one of 64 bits, and stands as it is written
pub record IsWhole (text : List ℕ) (number : ℤ) : Type 0 where
  pub fits : FitsSigned w64 number
  pub written : text ≡ signed_decimal number

answer : (text : List ℕ) (b : Bool) → (is_64_bits (number_of text) && bytes_eq (signed_decimal (number_of text)) text) ≡ b → (number : ℤ)
    → cond b (Some (number_of text)) None ≡ Some number → IsWhole text number
answer text true e number is =
    let same : number_of text ≡ number = cc in
    let both = and_parts _ _ e in
    subst (λ (z : ℤ). IsWhole text z) same (record { fits = fits (number_of text) both.0; written = sym ((bytes_eq-Decides (signed_decimal (number_of text)) text).0 both.1) })
answer text false e number is = absurd cc

pub whole_number-answer : (text : List ℕ) (number : ℤ) → whole_number text ≡ Some number → IsWhole text number
unfolding whole_number
whole_number-answer text number is = answer text _ refl number is

-- a number that stands as it is written is read
pub whole_number-written : (text : List ℕ) → FitsSigned w64 (number_of text) → signed_decimal (number_of text) ≡ text → whole_number text ≡ Some (number_of text)
unfolding whole_number
whole_number-written text small same =
    rw (fits_test (number_of text) small, (bytes_eq-Decides (signed_decimal (number_of text)) text).1 same) refl

not_some : {A : Type 0} (o : Option A) → ((x : A) → o ≡ Some x → ⊥) → None ≡ o
not_some None never = refl
not_some (Some x) never = absurd (never x refl)

-- what is no number of 64 bits is not read
pub whole_number-err : {E : Type 0} (text : List ℕ) (r : Result ℤ E) → ParsesSigned w64 10 text r → result_ok r ≡ None → None ≡ whole_number text
whole_number-err text (Ok number) parsed none = absurd cc
whole_number-err text (Err e) parsed none = not_some (whole_number text) (λ number is.
    let whole = whole_number-answer text number is in
    let ok = parse-signed_decimal w64 number text (Err e) whole.fits whole.fits.sfits whole.written parsed in
    cc)

canonical_above : (text : List ℕ) → 48 < get_or text 0 0 → is_canonical text ≡ true
canonical_above text above = grind (arith, nat_tests)

canonical_below : (text : List ℕ) → 48 < get_or text 0 0 → is_canonical (45 ∷ text) ≡ true
canonical_below text above = grind (arith, nat_tests)

canonical_written : (number : ℤ) → FitsSigned w64 number → is_canonical (signed_decimal number) ≡ true
canonical_written (pos zero) small = rw (decimal_digit 0 (omega arith)) refl
canonical_written (pos (suc n)) small = let less : suc n < 2 ^ 63 = small.sfits in canonical_above (decimal (suc n)) (first_decimal (suc n) (omega arith) (omega arith))
canonical_written (negsuc n) small = let less : n < 2 ^ 63 = small.sfits in canonical_below (decimal (suc n)) (first_decimal (suc n) (omega arith) (omega arith))

-- nor what is written otherwise
pub whole_number-odd : (text : List ℕ) → is_canonical text ≡ false → None ≡ whole_number text
whole_number-odd text odd = not_some (whole_number text) (λ number is.
    let whole = whole_number-answer text number is in
    let fine = canonical_written number whole.fits in
    let fine_here : is_canonical text ≡ true = ap is_canonical whole.written ∙ fine in
    cc)

own : IsNumeralModel (AllDigits 10) (digits_value 10)
own = numerals_by_value (AllDigits 10) tells_digits

written_pos : (text : List ℕ) → IsNumeral 10 text → digits_value 10 text < 2 ^ 63 → (get_or text 0 0 ≡ 48 → length text ≡ 1) → decimal (digits_value 10 text) ≡ text
written_pos text numeral small short = decimal-digits_value own text numeral.1 numeral.0 short (omega arith)

written_neg : (value : ℕ) (text : List ℕ) → decimal value ≡ text → (get_or text 0 0 ≡ 48 → ⊥) → signed_decimal (neg_ℤ (pos value)) ≡ 45 ∷ text
written_neg zero text is not_zero = absurd (not_zero (ap (λ t. get_or t 0 0) (sym is ∙ decimal_digit 0 (omega arith))))
written_neg (suc n) text is not_zero = ap (λ t. 45 ∷ t) is

mag_neg : (value : ℕ) → FitsSigned w64 (neg_ℤ (pos value)) → value < 2 ^ 64
mag_neg zero small = omega arith
mag_neg (suc n) small = let less : n < 2 ^ 63 = small.sfits in omega arith

canonical_head : (byte : ℕ) (bytes : List ℕ) → is_canonical (byte ∷ bytes) ≡ true → (byte ≢ 43) × (byte ≡ 48 → length bytes ≡ 0) × (byte ≡ 45 → get_or bytes 0 0 ≢ 48)
canonical_head byte bytes is = (λ same. grind (arith, nat_tests), λ same. grind (arith, nat_tests), λ same zero_next. grind (arith, nat_tests))

minus : (bytes : List ℕ) → is_canonical (45 ∷ bytes) ≡ true → IsNumeral 10 bytes → FitsSigned w64 (neg_ℤ (pos (digits_value 10 bytes)))
    → signed_decimal (neg_ℤ (pos (digits_value 10 bytes))) ≡ 45 ∷ bytes
minus bytes is numeral small =
    let not_zero = (canonical_head 45 bytes is).2 refl in
    written_neg (digits_value 10 bytes) bytes
    (decimal-digits_value own bytes numeral.1 numeral.0 (λ same. absurd (not_zero same)) (mag_neg (digits_value 10 bytes) small)) not_zero

sign_cases : (byte : ℕ) (bytes : List ℕ) (b : Bool) → (byte == 45) ≡ b → is_canonical (byte ∷ bytes) ≡ true → IsNumeral 10 (without_leading_sign (byte ∷ bytes))
    → FitsSigned w64 (number_of (byte ∷ bytes)) → signed_decimal (number_of (byte ∷ bytes)) ≡ byte ∷ bytes
sign_cases byte bytes true minus_is is numeral small =
    let same : byte ≡ 45 = grind (arith, nat_tests) in
    let P : ℕ → Type 0 = λ first. is_canonical (first ∷ bytes) ≡ true → IsNumeral 10 (without_leading_sign (first ∷ bytes)) → FitsSigned w64 (number_of (first ∷ bytes))
    → signed_decimal (number_of (first ∷ bytes)) ≡ first ∷ bytes in
    subst P (sym same) (λ c n s. minus bytes c n s) is numeral small
sign_cases byte bytes false minus_is is numeral small =
    let head = canonical_head byte bytes is in
    let plain : without_leading_plus (byte ∷ bytes) ≡ byte ∷ bytes = without_leading_plus_none (byte ∷ bytes) head.0 in
    let sign : without_leading_sign (byte ∷ bytes) ≡ byte ∷ bytes = rw minus_is plain in
    let value : number_of (byte ∷ bytes) ≡ pos (digits_value 10 (byte ∷ bytes)) = rw minus_is (ap (λ t. pos (digits_value 10 t)) plain) in
    let fits_here : FitsSigned w64 (pos (digits_value 10 (byte ∷ bytes))) = subst (FitsSigned w64) value small in
    ap signed_decimal value ∙ written_pos (byte ∷ bytes) (subst (IsNumeral 10) sign numeral) fits_here.sfits (λ same. let short = head.1 same in omega arith)

canonical_same : (text : List ℕ) → is_canonical text ≡ true → IsNumeral 10 (without_leading_sign text) → FitsSigned w64 (number_of text) → signed_decimal (number_of text) ≡ text
canonical_same [] is numeral small = absurd (omega (arith, numeral.0))
canonical_same (byte ∷ bytes) is numeral small = sign_cases byte bytes (byte == 45) refl is numeral small

-- a number as JSON writes it is read
pub whole_number-ok : {E : Type 0} (text : List ℕ) (r : Result ℤ E) (number : ℤ) → ParsesSigned w64 10 text r → result_ok r ≡ Some number → is_canonical text ≡ true → Some number ≡ whole_number text
whole_number-ok text (Err e) number parsed is fine = absurd cc
whole_number-ok text (Ok read) number parsed is fine =
    let same : read ≡ number = cc in
    ap (λ z. Some z) (sym same ∙ parsed.1) ∙ sym (whole_number-written text parsed.0.1 (canonical_same text fine parsed.0.0 parsed.0.1))
