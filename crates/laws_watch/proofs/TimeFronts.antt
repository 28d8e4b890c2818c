-- The first six columns of a line: a time or blanks.
use Rattle.std.proofs.Common.{◌≡◌, ◌∙◌, ℕ, zero, suc, ◌+◌, ◌-◌, ◌*◌, ◌/◌, ◌<◌, ◌≤◌, ◌∷◌, ◌++◌, [], List, Bool, true, false, ap, arith, refl, replicate, sym}
use Rattle.std.specs.Prelude.{if◌then◌else◌, nat_le, nat_lt}
use Rattle.std.specs.Char.{encode_utf8}
use Rattle.std.proofs.Math.Nat.{mul-one}
use Rattle.std.proofs.lemmas.Bool.Decides.{nat_tests}
use Rattle.std.proofs.lemmas.List.Folds.{sum_by-replicate}
use Rattle.std.proofs.lemmas.List.Sums.{sum_by-append}
use Rattle.std.proofs.lemmas.Str.{encodes-append}
use lib.Utf8.{encodes}
use Rattle.term_text.specs.Columns.{column_count, columns_of}
use Rattle.term_text.specs.Fitted.{shown_characters}
use Rattle.term_text.specs.Fitting.{back_within, few_marks, fitted, front_within}
use Rattle.term_words.specs.MessageTexts.{right_text}
use Rattle.term_words.specs.Words.{duration_words}
use Rattle.stream_watch.specs.Printed.{time_text}
use Rattle.laws_watch.proofs.Fine.{AllQuiet, IsFine-quiet, shown_characters-same}
use Rattle.laws_watch.proofs.Signs.{blank, ellipsis}
use Rattle.laws_watch.proofs.Times.{AllQuiet-words, begin-duration, shown_characters-words}
use Rattle.laws_watch.proofs.Widths.{column_count-ascii, fitted_fits}

-- ---- fitted characters

either : (P : List ℕ → Type 0) (test : Bool) (x y : List ℕ) → P x → P y → P (if test then x else y)
either P true x y then_is else_is = then_is
either P false x y then_is else_is = else_is

AllQuiet-append : (xs ys : List ℕ) → AllQuiet xs → AllQuiet ys → AllQuiet (xs ++ ys)
AllQuiet-append [] ys front back = back
AllQuiet-append (x ∷ xs) ys front back = (front.0, AllQuiet-append xs ys front.1 back)

few_marks-quiet : (marks : ℕ) (cs : List ℕ) → AllQuiet cs → AllQuiet (few_marks marks cs)
few_marks-quiet marks [] quiet = tt
few_marks-quiet marks (c ∷ cs) quiet =
    either AllQuiet (nat_lt 0 (column_count c)) _ _ (quiet.0, few_marks-quiet 0 cs quiet.1)
    (either AllQuiet (nat_le 4 marks) _ _ (few_marks-quiet marks cs quiet.1) (quiet.0, few_marks-quiet (marks + 1) cs quiet.1))

front_within-quiet : (columns : ℕ) (cs : List ℕ) → AllQuiet cs → AllQuiet (front_within columns cs)
front_within-quiet columns [] quiet = tt
front_within-quiet columns (c ∷ cs) quiet =
    either AllQuiet (nat_le (column_count c) columns) _ _ (quiet.0, front_within-quiet (columns - column_count c) cs quiet.1) tt

back_within-quiet : (columns : ℕ) (cs : List ℕ) → AllQuiet cs → AllQuiet (back_within columns cs)
back_within-quiet columns [] quiet = tt
back_within-quiet columns (c ∷ cs) quiet =
    either AllQuiet (nat_le (columns_of (c ∷ cs)) columns) _ _ quiet (back_within-quiet columns cs quiet.1)

fitted-quiet : (columns : ℕ) (cs : List ℕ) → AllQuiet cs → AllQuiet (fitted columns cs)
unfolding fitted
fitted-quiet columns cs quiet =
    let few = few_marks-quiet 0 cs quiet in
    either AllQuiet (nat_le (columns_of (few_marks 0 cs)) columns) _ _ few
    (AllQuiet-append _ _ (front_within-quiet ((columns - 1) * 2 / 5) (few_marks 0 cs) few) (ellipsis.quiet, back_within-quiet _ (few_marks 0 cs) few))

-- ---- the time

-- characters that begin with this one
pub record BeginWith (first : ℕ) (cs : List ℕ) : Type 0 where
  pub rest : List ℕ
  pub is : cs ≡ first ∷ rest

fitted-begins : (first : ℕ) (cs : List ℕ) → column_count first ≡ 1 → BeginWith first cs → BeginWith first (fitted 6 cs)
unfolding fitted
fitted-begins first cs one begins =
    let some : nat_lt 0 (column_count first) ≡ true = grind (arith, nat_tests) in
    let room : nat_le (column_count first) 2 ≡ true = grind (arith, nat_tests) in
    let few : few_marks 0 cs ≡ first ∷ few_marks 0 begins.rest = ap (few_marks 0) begins.is ∙ rw some refl in
    let start : front_within 2 (few_marks 0 cs) ≡ first ∷ front_within (2 - column_count first) (few_marks 0 begins.rest) = ap (front_within 2) few ∙ rw room refl in
    either (BeginWith first) (nat_le (columns_of (few_marks 0 cs)) 6) _ _ (record { rest = few_marks 0 begins.rest; is = few })
    (record { rest = _; is = ap (λ t. t ++ (8230 ∷ back_within (5 - columns_of (front_within 2 (few_marks 0 cs))) (few_marks 0 cs))) start })

-- six columns that steer nothing
pub record IsFront (cs : List ℕ) : Type 0 where
  pub quiet : AllQuiet cs
  pub columns : columns_of cs ≡ 6

pub record IsTimeFront (bytes : List ℕ) : Type 0 where
  pub blanks : ℕ
  pub digit : ℕ
  pub rest : List ℕ
  pub is_digit : digit < 10
  pub fine : IsFront (replicate blanks 32 ++ (48 + digit) ∷ rest)
  pub is : bytes ≡ encodes (replicate blanks 32 ++ (48 + digit) ∷ rest)

blanks-quiet : (n : ℕ) → AllQuiet (replicate n 32)
blanks-quiet zero = tt
blanks-quiet (suc n) = (blank.quiet, blanks-quiet n)

pub encodes-blanks : (n : ℕ) → encodes (replicate n 32) ≡ replicate n 32
unfolding encode_utf8
encodes-blanks zero = refl
encodes-blanks (suc n) = ap (λ t. 32 ∷ t) (encodes-blanks n)

blanks-columns : (n : ℕ) → columns_of (replicate n 32) ≡ n
blanks-columns n = sum_by-replicate column_count n 32 ∙ ap (λ k. n * k) blank.one ∙ mul-one n

pub blanks-front : IsFront (replicate 6 32)
blanks-front = record { quiet = blanks-quiet 6; columns = blanks-columns 6 }

-- quiet characters of six columns at most, right in six
right-front : (cs : List ℕ) (digit : ℕ) → AllQuiet cs → columns_of cs ≤ 6 → digit < 10 → BeginWith (48 + digit) cs → IsTimeFront (right_text 6 (encodes cs))
right-front cs digit quiet few is_digit begins =
    let blanks = 6 - columns_of cs in
    let same : shown_characters (encodes cs) ≡ cs = shown_characters-same cs (IsFine-quiet cs quiet) in
    let all : replicate blanks 32 ++ cs ≡ replicate blanks 32 ++ (48 + digit) ∷ begins.rest = ap (λ t. replicate blanks 32 ++ t) begins.is in
    let front : IsFront (replicate blanks 32 ++ cs) = record {
      quiet = AllQuiet-append (replicate blanks 32) cs (blanks-quiet blanks) quiet;
      columns = omega (arith, few, sum_by-append column_count (replicate blanks 32) cs, blanks-columns blanks);
    } in
    let is : right_text 6 (encodes cs) ≡ encodes (replicate blanks 32 ++ cs) =
    ap (λ t. replicate (6 - columns_of t) 32 ++ encodes cs) same ∙ ap (λ t. t ++ encodes cs) (sym (encodes-blanks blanks)) ∙ sym (encodes-append (replicate blanks 32) cs) in
    record {
      blanks = blanks;
      digit = digit;
      rest = begins.rest;
      is_digit = is_digit;
      fine = rw all at front;
      is = is ∙ ap encodes all;
    }

pub time-front : (elapsed : ℕ) → IsTimeFront (right_text 6 (time_text elapsed))
unfolding time_text
time-front elapsed =
    let words = duration_words (elapsed / 1000000 * 1000000) in
    let begins = begin-duration (elapsed / 1000000 * 1000000) in
    let same : shown_characters words ≡ words = shown_characters-words words begins.words in
    let one : column_count (48 + begins.digit) ≡ 1 = column_count-ascii (48 + begins.digit) (omega arith) (omega (arith, begins.is_digit)) in
    rw same
    (right-front (fitted 6 words) begins.digit (fitted-quiet 6 words (AllQuiet-words words begins.words)) (fitted_fits 6 words (omega arith)) begins.is_digit
    (fitted-begins (48 + begins.digit) words one (record { rest = begins.rest; is = begins.is })))
