-- The words of durations: a digit, and then digits, letters and dots.
use Rattle.std.proofs.Common.{◌≡◌, ◌∙◌, ℕ, zero, suc, ◌+◌, ◌-◌, ◌/◌, ◌%◌, ◌^◌, ◌<◌, ◌≤◌, ◌==◌, ◌∷◌, ◌++◌, [], List, Bool, true, false, ap, arith, codes, min, refl, sym}
use Rattle.std.specs.Prelude.{if◌then◌else◌, nat_lt}
use Rattle.std.specs.Fmt.{decimal}
use Rattle.std.specs.Str.{IsAscii}
use Rattle.std.proofs.lemmas.Fmt.{decimal_by_steps}
use Rattle.std.proofs.lemmas.Bool.Decides.{nat_tests}
use Rattle.std.proofs.lemmas.Str.{encodes-IsAscii}
use Rattle.term_text.specs.Fitted.{shown_characters}
use Rattle.term_text.specs.Shown.{is_hidden}
use Rattle.term_words.specs.Words.{duration_words, long_words, short_words, two_digits}
use Rattle.laws_watch.proofs.Fine.{AllQuiet, IsFine-quiet, IsQuiet, shown_characters-same}

-- characters of words: digits, letters, dots and others of ASCII
abbrev pub AreWords : List ℕ → Type 0
AreWords [] = Unit {0}
AreWords (c ∷ cs) = (36 ≤ c) × (c < 127) × AreWords cs

-- words that begin with a digit
pub record BeginWithDigit (cs : List ℕ) : Type 0 where
  pub digit : ℕ
  pub rest : List ℕ
  pub is_digit : digit < 10
  pub is : cs ≡ (48 + digit) ∷ rest
  pub words : AreWords cs

AreWords-append : (xs ys : List ℕ) → AreWords xs → AreWords ys → AreWords (xs ++ ys)
AreWords-append [] ys front back = back
AreWords-append (x ∷ xs) ys front back = (front.0, front.1, AreWords-append xs ys front.2 back)

begin-append : (xs ys : List ℕ) → BeginWithDigit xs → AreWords ys → BeginWithDigit (xs ++ ys)
begin-append xs ys front back = record {
  digit = front.digit;
  rest = front.rest ++ ys;
  is_digit = front.is_digit;
  is = ap (λ t. t ++ ys) front.is;
  words = AreWords-append xs ys front.words back;
}

one_digit : (n : ℕ) → n < 10 → BeginWithDigit ((48 + n) ∷ [])
one_digit n small = record { digit = n; rest = []; is_digit = small; is = refl; words = (omega arith, omega arith, tt) }

begin-decimal : (n : ℕ) → n < 2 ^ 64 → BeginWithDigit (decimal n)
begin-decimal n fits =
    decimal_by_steps (λ m ds. BeginWithDigit ds) one_digit
    (λ m ds high so_far. begin-append ds ((48 + m % 10) ∷ []) so_far (omega arith, omega arith, tt)) n fits

letter : (c : ℕ) → 36 ≤ c → c < 127 → AreWords (c ∷ [])
letter c low high = (low, high, tt)

either : (P : List ℕ → Type 0) (test : Bool) (x y : List ℕ) → P x → P y → P (if test then x else y)
either P true x y then_is else_is = then_is
either P false x y then_is else_is = else_is

begin-two_digits : (n : ℕ) → n < 2 ^ 64 → BeginWithDigit (two_digits n)
begin-two_digits n fits = begin-append _ _ (begin-decimal (n / 10) (omega arith)) (begin-decimal (n % 10) (omega arith)).words

begin-short : (seconds milliseconds : ℕ) → seconds < 2 ^ 64 → milliseconds < 2 ^ 64 → BeginWithDigit (short_words seconds milliseconds)
begin-short seconds milliseconds few fits =
    let s = letter 115 (omega arith) (omega arith) in
    let whole = begin-decimal seconds few in
    either BeginWithDigit (seconds == 0) _ _
    (either BeginWithDigit (milliseconds == 0) _ _ (begin-append (48 ∷ []) (115 ∷ []) (one_digit 0 (omega arith)) s)
    (begin-append (decimal milliseconds) (codes "ms") (begin-decimal milliseconds fits) (AreWords-append (109 ∷ []) (115 ∷ []) (letter 109 (omega arith) (omega arith)) s)))
    (either BeginWithDigit (milliseconds / 100 == 0) _ _ (begin-append (decimal seconds) (codes "s") whole s)
    (begin-append (decimal seconds ++ codes "." ++ decimal (milliseconds / 100)) (codes "s")
    (begin-append (decimal seconds ++ codes ".") (decimal (milliseconds / 100))
    (begin-append (decimal seconds) (codes ".") whole (letter 46 (omega arith) (omega arith))) (begin-decimal (milliseconds / 100) (omega arith)).words) s))

begin-long : (seconds : ℕ) → seconds < 2 ^ 64 → BeginWithDigit (long_words seconds)
begin-long seconds fits =
    let s = letter 115 (omega arith) (omega arith) in
    let m = letter 109 (omega arith) (omega arith) in
    let h = letter 104 (omega arith) (omega arith) in
    either BeginWithDigit (seconds / 60 == 0) _ _ (begin-append (decimal (seconds % 60)) (codes "s") (begin-decimal (seconds % 60) (omega arith)) s)
    (either BeginWithDigit (seconds / 60 / 60 == 0) _ _
    (begin-append (decimal (seconds / 60 % 60) ++ codes "m" ++ two_digits (seconds % 60)) (codes "s")
    (begin-append (decimal (seconds / 60 % 60) ++ codes "m") (two_digits (seconds % 60))
    (begin-append (decimal (seconds / 60 % 60)) (codes "m") (begin-decimal (seconds / 60 % 60) (omega arith)) m) (begin-two_digits (seconds % 60) (omega arith)).words) s)
    (begin-append (decimal (seconds / 60 / 60) ++ codes "h" ++ two_digits (seconds / 60 % 60)) (codes "m")
    (begin-append (decimal (seconds / 60 / 60) ++ codes "h") (two_digits (seconds / 60 % 60))
    (begin-append (decimal (seconds / 60 / 60)) (codes "h") (begin-decimal (seconds / 60 / 60) (omega arith)) h) (begin-two_digits (seconds / 60 % 60) (omega arith)).words) m))

pub begin-duration : (microseconds : ℕ) → BeginWithDigit (duration_words microseconds)
unfolding duration_words
begin-duration microseconds =
    let seconds = min (microseconds / 1000000) (2 ^ 64 - 1) in
    let milliseconds = microseconds % 1000000 / 1000 in
    either BeginWithDigit (nat_lt seconds 10) _ _ (begin-short seconds milliseconds (omega arith) (omega arith)) (begin-long seconds (omega arith))

-- ---- words are shown as they are

quiet : (c : ℕ) → 36 ≤ c → c < 127 → IsQuiet c
unfolding is_hidden
quiet c low high = record {
  is = grind (arith, nat_tests);
  no_hidden = grind (arith, nat_tests);
  other = λ same. omega arith;
}

pub AllQuiet-words : (cs : List ℕ) → AreWords cs → AllQuiet cs
AllQuiet-words [] words = tt
AllQuiet-words (c ∷ cs) words = (quiet c words.0 words.1, AllQuiet-words cs words.2)

IsAscii-words : (cs : List ℕ) → AreWords cs → IsAscii cs
IsAscii-words [] words index = omega arith
IsAscii-words (c ∷ cs) words zero = omega (arith, words.1)
IsAscii-words (c ∷ cs) words (suc index) = IsAscii-words cs words.2 index

pub shown_characters-words : (cs : List ℕ) → AreWords cs → shown_characters cs ≡ cs
shown_characters-words cs words =
    ap shown_characters (sym (encodes-IsAscii cs (IsAscii-words cs words))) ∙ shown_characters-same cs (IsFine-quiet cs (AllQuiet-words cs words))
