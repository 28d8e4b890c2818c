-- The signs of lines: each has one column, and none steers anything.
use Rattle.std.proofs.Common.{◌≡◌, ℕ, ◌==◌, true, false, arith, refl}
use Rattle.std.proofs.lemmas.Bool.Decides.{nat_tests}
use lib.Utf8.{scalar}
use Rattle.term_text.specs.Columns.{column_count}
use Rattle.term_text.specs.Shown.{is_hidden}
use Rattle.unicode_width.proofs.Computing.{unicode_width}
use Rattle.stream_watch.specs.Marks.{bar_of, sign_of}
use Rattle.stream_watch.specs.declared.mark.Mark.{Mark}
use Rattle.stream_watch.specs.declared.mark.Mark.TheVariants as mark
use Rattle.laws_watch.proofs.Fine.{IsQuiet}

pub record IsSign (character : ℕ) : Type 0 where
  pub quiet : IsQuiet character
  pub one : column_count character ≡ 1

made : (character : ℕ) → scalar character ≡ true → is_hidden character ≡ false → (character == 35) ≡ false → column_count character ≡ 1 → IsSign character
made character is no_hidden other one = record {
  quiet = record { is = is; no_hidden = no_hidden; other = grind (arith, nat_tests) };
  one = one;
}

pub sign : (mark : Mark) → IsSign (sign_of mark).character
unfolding is_hidden unicode_width
sign mark.Begin = made 0x25B8 refl refl refl refl
sign mark.Done = made 0x2713 refl refl refl refl
sign mark.Whole = made 0x2713 refl refl refl refl
sign mark.Failed = made 0x2717 refl refl refl refl
sign mark.Warning = made 33 refl refl refl refl
sign mark.Drift = made 33 refl refl refl refl
sign mark.UnderWay = made 0x2026 refl refl refl refl
sign mark.NoEnd = made 0x2026 refl refl refl refl
sign mark.Create = made 43 refl refl refl refl
sign mark.Update = made 126 refl refl refl refl
sign mark.Delete = made 45 refl refl refl refl
sign mark.Replace = made 0xB1 refl refl refl refl
sign mark.Read = made 60 refl refl refl refl
sign mark.Remove = made 46 refl refl refl refl
sign mark.Move = made 0x2192 refl refl refl refl
sign mark.Import = made 0x2190 refl refl refl refl
sign mark.OtherPlan = made 42 refl refl refl refl
sign mark.Sum = made 32 refl refl refl refl
sign mark.Output = made 0x2502 refl refl refl refl
sign mark.Other = made 0xB7 refl refl refl refl
sign mark.Passed = made 124 refl refl refl refl

pub bar : IsSign 0x2502
unfolding is_hidden unicode_width
bar = made 0x2502 refl refl refl refl

pub blank : IsSign 32
unfolding is_hidden unicode_width
blank = made 32 refl refl refl refl

pub ellipsis : IsSign 0x2026
unfolding is_hidden unicode_width
ellipsis = made 0x2026 refl refl refl refl

pub bar_is : (mark : Mark) → (bar_of mark).character ≡ 0x2502
bar_is mark.Begin = refl
bar_is mark.Done = refl
bar_is mark.Whole = refl
bar_is mark.Failed = refl
bar_is mark.Warning = refl
bar_is mark.Drift = refl
bar_is mark.UnderWay = refl
bar_is mark.NoEnd = refl
bar_is mark.Create = refl
bar_is mark.Update = refl
bar_is mark.Delete = refl
bar_is mark.Replace = refl
bar_is mark.Read = refl
bar_is mark.Remove = refl
bar_is mark.Move = refl
bar_is mark.Import = refl
bar_is mark.OtherPlan = refl
bar_is mark.Sum = refl
bar_is mark.Output = refl
bar_is mark.Other = refl
bar_is mark.Passed = refl
