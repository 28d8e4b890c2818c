-- Hexadecimal digits.
use Rattle.std.proofs.Common.{◌≡◌, ℕ, zero, suc, ◌+◌, ◌^◌, ◌<◌, ◌≤◌, Bool, true, false, nat_lt, List, [], ◌∷◌, length, take, get_or, Some, None, refl, ap, sym, subst, ◌∙◌, ◌-◌, ◌&&◌, arith}
use Rattle.std.specs.Char.{digit_value}
use Rattle.std.specs.List.{list_all}
use Rattle.std.specs.Str.Parse.{AllDigits, digits_value}
use Rattle.std.proofs.Math.Nat.{pow-le-pow_right}
use Rattle.std.proofs.lemmas.Bool.Decides.{nat_tests}
use Rattle.std.proofs.lemmas.Int.Digits.{digits_value-lt}
use Rattle.std.proofs.lemmas.List.{get_or-take, length-take-le, take_all}
use Rattle.std.proofs.lemmas.Option.{cond_some}
use Rattle.std.proofs.lemmas.Str.{IsCharBoundary-after_ascii}
use Rattle.std.specs.Str.{IsCharBoundary, IsUtf8}
use Rattle.std.proofs.lemmas.List.Folds.{list_all_at}
use Rattle.apply_address.specs.Reading.{hexadecimal}

abbrev pub is_hexadecimal : ℕ → Bool
is_hexadecimal digit = nat_lt (digit_value digit) 16

all_hexadecimal : (digits : List ℕ) → AllDigits 16 digits → list_all is_hexadecimal digits ≡ true
all_hexadecimal [] all = refl
all_hexadecimal (digit ∷ digits) all =
    let first : is_hexadecimal digit ≡ true = let less : digit_value digit < 16 = all.0 in grind (arith, nat_tests) in
    rw (first, all_hexadecimal digits all.1) refl

digits_more : (digit : ℕ) (digits : List ℕ) (b : Bool) → is_hexadecimal digit ≡ b → (list_all is_hexadecimal digits ≡ true → AllDigits 16 digits)
    → (b && list_all is_hexadecimal digits) ≡ true → AllDigits 16 (digit ∷ digits)
digits_more digit digits true is others e = (grind (arith, nat_tests), others e)
digits_more digit digits false is others e = absurd cc

all_digits : (digits : List ℕ) → list_all is_hexadecimal digits ≡ true → AllDigits 16 digits
all_digits [] all = tt
all_digits (digit ∷ digits) all = digits_more digit digits (is_hexadecimal digit) refl (all_digits digits) all

pub hexadecimal-value : (digits : List ℕ) → AllDigits 16 digits → hexadecimal digits ≡ Some (digits_value 16 digits)
unfolding hexadecimal
hexadecimal-value digits all = rw (all_hexadecimal digits all) refl

pub hexadecimal-none : (digits : List ℕ) (i : ℕ) → i < length digits → (digit_value (get_or digits i 0) < 16 → ⊥) → hexadecimal digits ≡ None
unfolding hexadecimal
hexadecimal-none digits i within not_one =
    let fails : is_hexadecimal (get_or digits i 0) ≡ false = grind (arith, nat_tests) in
    rw (list_all_at is_hexadecimal digits i 0 within fails) refl

pub hexadecimal-all : (digits : List ℕ) (code : ℕ) → hexadecimal digits ≡ Some code → AllDigits 16 digits × (digits_value 16 digits ≡ code)
unfolding hexadecimal
hexadecimal-all digits code is =
    let both = cond_some (list_all is_hexadecimal digits) (digits_value 16 digits) code is in
    (all_digits digits both.0, both.1)

-- all digits have been read
pub hexadecimal-end : (digits : List ℕ) (i value : ℕ) → length digits ≤ i → AllDigits 16 (take i digits) → value ≡ digits_value 16 (take i digits) → Some value ≡ hexadecimal digits
hexadecimal-end digits i value past all is =
    let whole : take i digits ≡ digits = take_all i digits past in
    ap (λ v. Some v) (is ∙ ap (digits_value 16) whole) ∙ sym (hexadecimal-value digits (subst (AllDigits 16) whole all))

digit_at : (digits : List ℕ) (i : ℕ) → AllDigits 16 digits → i < length digits → digit_value (get_or digits i 0) < 16
digit_at [] i all within = absurd (omega arith)
digit_at (digit ∷ digits) zero all within = all.0
digit_at (digit ∷ digits) (suc i) all within = digit_at digits i all.1 (omega arith)

pub digit_ascii : (digit : ℕ) → digit_value digit < 16 → digit < 128
digit_ascii digit small = grind (arith, nat_tests)

-- a text can be cut after digits
pub digits_boundary : (text : List ℕ) (count code : ℕ) → IsUtf8 text → count ≤ length text → hexadecimal (take count text) ≡ Some code → 0 < count → IsCharBoundary text count
digits_boundary text count code utf8 within is some =
    let all = (hexadecimal-all (take count text) code is).0 in
    let last : digit_value (get_or (take count text) (count - 1) 0) < 16 = digit_at (take count text) (count - 1) all (omega (arith, length-take-le count text within)) in
    let same : get_or (take count text) (count - 1) 0 ≡ get_or text (count - 1) 0 = get_or-take count text (count - 1) 0 (omega arith) in
    let low : get_or text (count - 1) 0 < 128 = rw same at (digit_ascii (get_or (take count text) (count - 1) 0) last) in
    let next : (count - 1) + 1 ≡ count = omega arith in
    subst (IsCharBoundary text) next (IsCharBoundary-after_ascii text (count - 1) utf8 (omega arith) low)

-- seven digits leave room for one more
pub room_for_digit : (digits : List ℕ) (i : ℕ) → AllDigits 16 (take i digits) → i < length digits → length digits ≤ 8 → digits_value 16 (take i digits) < 2 ^ 28
room_for_digit digits i all within few =
    let some : length (take i digits) ≡ i = length-take-le i digits (omega arith) in
    let less : digits_value 16 (take i digits) < 16 ^ length (take i digits) = digits_value-lt 16 (take i digits) all in
    let seven : length (take i digits) ≤ 7 = omega arith in
    let most : 16 ^ length (take i digits) ≤ 16 ^ 7 = pow-le-pow_right {n = 16} (omega arith) seven in
    omega arith
