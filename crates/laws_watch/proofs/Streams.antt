-- What holds of each line that is printed holds of all that is told of a stream.
use Rattle.std.proofs.Common.{◌≡◌, ◌∙◌, ℕ, ◌≤◌, ◌∷◌, ◌++◌, [], Bool, List, Some, ap, append_assoc, false, inl, inr, refl, subst, sym, true}
use Rattle.std.specs.List.{flat_map}
use Rattle.std.specs.Str.{chars}
use Rattle.std.proofs.lemmas.List.Elements.{All-append, All-weaker}
use Rattle.std.proofs.lemmas.List.Concat.{flat_map-append}
use Rattle.term_text.specs.Columns.{columns_of}
use Rattle.term_text.specs.Commands.{HoldsNoCommand}
use Rattle.term_text.specs.LineTexts.{uncoloured}
use Rattle.stream_check.specs.declared.verdict.judge.Verdict.{Verdict}
use Rattle.stream_watch.specs.Stream.{stream_told}
use Rattle.stream_watch.specs.declared.looks.Looks.{Looks}
use Rattle.laws_watch.specs.PrintedLines.{AreLines, AreTimedLines, BeginsAsTold, BeginsWithBar, IsPlain, with_colour}
use Rattle.laws_watch.proofs.Colours.{BecomeBytes, become-append, become-further, become-line, become-none, become-whole}
use Rattle.laws_watch.proofs.Printing.{AreLines-more, AreLines-none, further-bars, further-fits, line-fits_in, line-timed}
use Rattle.laws_watch.proofs.Shut.{AreShut, no_command-shut, shut-append, shut-further, shut-line, shut-none}
use Rattle.laws_watch.proofs.Walk.{IsKept, stream}

-- ---- lines behind lines

AreLines-append : (P : List ℕ → Type 0) (a b : List ℕ) → AreLines P a → AreLines P b → AreLines P (a ++ b)
AreLines-append P a b front back = record {
  lines = front.lines ++ back.lines;
  plain = All-append IsPlain front.lines back.lines front.plain back.plain;
  each = All-append P front.lines back.lines front.each back.each;
  are = ap (λ t. t ++ b) front.are ∙ ap (λ t. flat_map (λ (line : List ℕ). line ++ 10 ∷ []) front.lines ++ t) back.are
      ∙ sym (flat_map-append (λ (line : List ℕ). line ++ 10 ∷ []) front.lines back.lines);
}

AreLines-weaker : (P Q : List ℕ → Type 0) (bytes : List ℕ) → ((line : List ℕ) → P line → Q line) → AreLines P bytes → AreLines Q bytes
AreLines-weaker P Q bytes weaker are = record { lines = are.lines; plain = are.plain; each = All-weaker P Q weaker are.lines are.each; are = are.are }

bars : (bytes : List ℕ) → AreLines BeginsWithBar bytes → AreLines BeginsAsTold bytes
bars bytes are = AreLines-weaker BeginsWithBar BeginsAsTold bytes (λ line begins. inr begins) are

timed : (bytes : List ℕ) → AreTimedLines bytes → AreLines BeginsAsTold bytes
timed bytes are =
    subst (AreLines BeginsAsTold) (append_assoc are.first (10 ∷ []) are.rest ∙ sym are.are)
    (AreLines-more BeginsAsTold are.first are.rest are.plain (inl are.begins) (bars are.rest are.later))

-- ---- streams

kept-plain : (looks : Looks) → IsKept (λ one other. AreLines BeginsAsTold one) (with_colour false looks) (with_colour false looks)
kept-plain looks = record {
  none = AreLines-none BeginsAsTold;
  both = λ a b c d front back. AreLines-append BeginsAsTold a c front back;
  timed = λ elapsed mark text. timed _ (line-timed looks.width elapsed mark text);
  further = λ mark text. bars _ (further-bars looks.width mark text);
  panel = refl;
}

pub stream-plain : (looks : Looks) (find : Bool) (lines : List (List ℕ)) (verdict : Verdict)
    → AreLines BeginsAsTold (stream_told (with_colour false looks) find lines verdict).bytes
stream-plain looks find lines verdict = (stream _ _ _ (kept-plain looks) find lines verdict).bytes

kept-shut : (looks : Looks) → IsKept (λ one other. AreShut one) looks looks
kept-shut looks = record {
  none = shut-none;
  both = λ a b c d front back. shut-append a c front back;
  timed = λ elapsed mark text. shut-line looks.width looks.has_colour elapsed mark text;
  further = λ mark text. shut-further looks.width looks.has_colour mark text;
  panel = refl;
}

pub stream-no_command : (looks : Looks) (find : Bool) (lines : List (List ℕ)) (verdict : Verdict) → HoldsNoCommand (stream_told looks find lines verdict).bytes
stream-no_command looks find lines verdict = no_command-shut _ (stream _ _ _ (kept-shut looks) find lines verdict).bytes

kept-colours : (looks : Looks) → IsKept BecomeBytes (with_colour true looks) (with_colour false looks)
kept-colours looks = record {
  none = become-none;
  both = λ a b c d front back. become-append a c b d front back;
  timed = λ elapsed mark text. become-line looks.width elapsed mark text;
  further = λ mark text. become-further looks.width mark text;
  panel = refl;
}

pub stream-uncoloured : (looks : Looks) (find : Bool) (lines : List (List ℕ)) (verdict : Verdict)
    → uncoloured (stream_told (with_colour true looks) find lines verdict).bytes ≡ (stream_told (with_colour false looks) find lines verdict).bytes
stream-uncoloured looks find lines verdict = become-whole _ _ (stream _ _ _ (kept-colours looks) find lines verdict).bytes

kept-width : (width : ℕ) (looks : Looks) → 13 ≤ width → looks.width ≡ Some width
    → IsKept (λ one other. AreLines (λ line. columns_of (chars line) ≤ width) one) (with_colour false looks) (with_colour false looks)
kept-width width looks wide is =
    let P : List ℕ → Type 0 = λ line. columns_of (chars line) ≤ width in
    record {
      none = AreLines-none P;
      both = λ a b c d front back. AreLines-append P a c front back;
      timed = λ elapsed mark text. rw is (line-fits_in width elapsed mark text wide);
      further = λ mark text. rw is (further-fits width mark text wide);
      panel = refl;
    }

pub stream-fits : (width : ℕ) (looks : Looks) (find : Bool) (lines : List (List ℕ)) (verdict : Verdict) → 13 ≤ width → looks.width ≡ Some width
    → AreLines (λ line. columns_of (chars line) ≤ width) (stream_told (with_colour false looks) find lines verdict).bytes
stream-fits width looks find lines verdict wide is = (stream _ _ _ (kept-width width looks wide is) find lines verdict).bytes
