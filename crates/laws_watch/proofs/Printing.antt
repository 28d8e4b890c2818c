-- What is printed of a text, line by line.
use Rattle.std.proofs.Common.{◌≡◌, ◌∙◌, ℕ, suc, ◌+◌, ◌-◌, ◌≤◌, ◌∷◌, ◌++◌, [], List, Option, None, Some, false, add-one, ap, append_assoc, arith, length, refl, replicate, subst, sym}
use Rattle.std.specs.Prelude.{All}
use Rattle.std.specs.Str.{chars}
use Rattle.std.proofs.lemmas.List.Elements.{All-cons, All-head, All-nil, All-tail}
use Rattle.term_text.specs.Breaking.{broken, pieces_within}
use Rattle.term_text.specs.Columns.{columns_of}
use Rattle.term_text.specs.Fitted.{shown_characters}
use Rattle.term_text.specs.declared.rendition.Rendition.{Rendition}
use Rattle.stream_watch.specs.Marks.{sign_of, text_rendition}
use Rattle.stream_watch.specs.Printed.{further_bytes, later_lines, line_bytes, pieces_in, timed_lines}
use Rattle.stream_watch.specs.declared.mark.Mark.{Mark}
use Rattle.laws_watch.specs.PrintedLines.{AreLines, AreTimedLines, BeginsWithBar, IsPlain}
use Rattle.laws_watch.proofs.Fine.{IsFine, shown_characters-fine}
use Rattle.laws_watch.proofs.Lines.{later_line-plain, line-begins_with_bar, line-begins_with_time, line-fits, line-plain, line_of, timed_line-plain}
use Rattle.laws_watch.proofs.Pieces.{IsFine-without_blanks, broken-fine}
use Rattle.laws_watch.proofs.Signs.{bar, sign}
use Rattle.laws_watch.proofs.TimeFronts.{blanks-front, time-front}
use Rattle.laws_watch.proofs.Widths.{broken-fit}

-- ---- lines behind one another

pub AreLines-none : (P : List ℕ → Type 0) → AreLines P []
AreLines-none P = record { lines = []; plain = All-nil IsPlain; each = All-nil P; are = refl }

pub AreLines-more : (P : List ℕ → Type 0) (line bytes : List ℕ) → IsPlain line → P line → AreLines P bytes → AreLines P (line ++ 10 ∷ [] ++ bytes)
AreLines-more P line bytes plain is rest = record {
  lines = line ∷ rest.lines;
  plain = All-cons IsPlain line rest.lines plain rest.plain;
  each = All-cons P line rest.lines is rest.each;
  are = ap (λ t. line ++ 10 ∷ [] ++ t) rest.are;
}

-- ---- pieces

pub pieces_in-fine : (width : Option ℕ) (cs : List ℕ) → IsFine cs → All IsFine (pieces_in width cs)
pieces_in-fine None cs fine = All-cons IsFine _ [] (IsFine-without_blanks cs fine) (All-nil IsFine)
pieces_in-fine (Some width) cs fine = broken-fine (width - 10) cs fine

-- there is a first piece
pub record HasFirst (pieces : List (List ℕ)) : Type 0 where
  pub first : List ℕ
  pub rest : List (List ℕ)
  pub are : pieces ≡ first ∷ rest

broken-some : (columns : ℕ) (cs : List ℕ) → HasFirst (broken columns cs)
unfolding broken
broken-some columns cs =
    let long : length cs + 1 ≡ suc (length cs) = add-one (length cs) in
    record { first = _; rest = _; are = ap (λ turns. pieces_within turns columns cs) long }

pub pieces_in-some : (width : Option ℕ) (cs : List ℕ) → HasFirst (pieces_in width cs)
pieces_in-some None cs = record { first = _; rest = []; are = refl }
pieces_in-some (Some width) cs = broken-some (width - 10) cs

-- ---- further lines

pub later-lines : (P : List ℕ → Type 0) (mark : Mark) (text_as : Option Rendition) (pieces : List (List ℕ)) → All IsFine pieces
    → All (λ piece. P (line_of (replicate 6 32) 0x2502 piece)) pieces → AreLines P (later_lines false mark text_as pieces)
later-lines P mark text_as [] fine are = AreLines-none P
later-lines P mark text_as (piece ∷ pieces) fine are =
    let Q : List ℕ → Type 0 = λ piece. P (line_of (replicate 6 32) 0x2502 piece) in
    subst (λ t. AreLines P (t ++ later_lines false mark text_as pieces)) (sym (later_line-plain mark text_as piece))
    (AreLines-more P _ _ (line-plain (replicate 6 32) 0x2502 piece blanks-front bar.quiet (All-head IsFine piece pieces fine)) (All-head Q piece pieces are)
    (later-lines P mark text_as pieces (All-tail IsFine piece pieces fine) (All-tail Q piece pieces are)))

bars : (pieces : List (List ℕ)) → All (λ piece. BeginsWithBar (line_of (replicate 6 32) 0x2502 piece)) pieces
bars pieces index piece below = line-begins_with_bar _

pub further-bars : (width : Option ℕ) (mark : Mark) (text : List ℕ) → AreLines BeginsWithBar (further_bytes width false mark text)
unfolding further_bytes
further-bars width mark text =
    let pieces = pieces_in width (shown_characters text) in
    later-lines BeginsWithBar mark None pieces (pieces_in-fine width (shown_characters text) (shown_characters-fine text)) (bars pieces)

-- ---- lines with a time

timed : (elapsed : ℕ) (mark : Mark) (pieces : List (List ℕ)) → All IsFine pieces → HasFirst pieces → AreTimedLines (timed_lines false elapsed mark pieces)
timed elapsed mark pieces fine some =
    let time = time-front elapsed in
    let front = replicate time.blanks 32 ++ (48 + time.digit) ∷ time.rest in
    let sign_is = sign mark in
    let all : All IsFine (some.first ∷ some.rest) = rw some.are at fine in
    record {
      first = line_of front (sign_of mark).character some.first;
      rest = later_lines false mark (text_rendition mark) some.rest;
      plain = line-plain front (sign_of mark).character some.first time.fine sign_is.quiet (All-head IsFine some.first some.rest all);
      begins = line-begins_with_time time.blanks time.digit time.rest (sign_of mark).character some.first time.is_digit;
      later = later-lines BeginsWithBar mark (text_rendition mark) some.rest (All-tail IsFine some.first some.rest all) (bars some.rest);
      are = ap (timed_lines false elapsed mark) some.are
          ∙ ap (λ t. t ++ later_lines false mark (text_rendition mark) some.rest) (timed_line-plain elapsed mark front some.first time.is)
          ∙ append_assoc (line_of front (sign_of mark).character some.first) (10 ∷ []) (later_lines false mark (text_rendition mark) some.rest);
    }

pub line-timed : (width : Option ℕ) (elapsed : ℕ) (mark : Mark) (text : List ℕ) → AreTimedLines (line_bytes width false elapsed mark text)
unfolding line_bytes
line-timed width elapsed mark text =
    timed elapsed mark _ (pieces_in-fine width (shown_characters text) (shown_characters-fine text)) (pieces_in-some width (shown_characters text))

-- ---- how wide they are

later-fit : (width : ℕ) (pieces : List (List ℕ)) → 13 ≤ width → All IsFine pieces → All (λ piece. columns_of piece ≤ width - 10) pieces
    → All (λ piece. columns_of (chars (line_of (replicate 6 32) 0x2502 piece)) ≤ width) pieces
later-fit width pieces wide fine fit index piece below =
    line-fits width (replicate 6 32) 0x2502 _ blanks-front bar (fine index piece below) (fit index piece below) wide

pub further-fits : (width : ℕ) (mark : Mark) (text : List ℕ) → 13 ≤ width → AreLines (λ line. columns_of (chars line) ≤ width) (further_bytes (Some width) false mark text)
unfolding further_bytes
further-fits width mark text wide =
    let pieces = broken (width - 10) (shown_characters text) in
    let fine = broken-fine (width - 10) (shown_characters text) (shown_characters-fine text) in
    later-lines (λ line. columns_of (chars line) ≤ width) mark None pieces fine
    (later-fit width pieces wide fine (broken-fit (width - 10) (shown_characters text) (omega arith)))

timed-fit : (width elapsed : ℕ) (mark : Mark) (pieces : List (List ℕ)) → 13 ≤ width → All IsFine pieces → All (λ piece. columns_of piece ≤ width - 10) pieces
    → AreLines (λ line. columns_of (chars line) ≤ width) (timed_lines false elapsed mark pieces)
timed-fit width elapsed mark [] wide fine fit = AreLines-none (λ line. columns_of (chars line) ≤ width)
timed-fit width elapsed mark (piece ∷ pieces) wide fine fit =
    let P : List ℕ → Type 0 = λ line. columns_of (chars line) ≤ width in
    let Q : List ℕ → Type 0 = λ piece. columns_of piece ≤ width - 10 in
    let time = time-front elapsed in
    let front = replicate time.blanks 32 ++ (48 + time.digit) ∷ time.rest in
    let sign_is = sign mark in
    let this = All-head IsFine piece pieces fine in
    let others = All-tail IsFine piece pieces fine in
    subst (λ t. AreLines P (t ++ later_lines false mark (text_rendition mark) pieces)) (sym (timed_line-plain elapsed mark front piece time.is))
    (AreLines-more P _ _ (line-plain front (sign_of mark).character piece time.fine sign_is.quiet this)
    (line-fits width front (sign_of mark).character piece time.fine sign_is this (All-head Q piece pieces fit) wide)
    (later-lines P mark (text_rendition mark) pieces others (later-fit width pieces wide others (All-tail Q piece pieces fit))))

pub line-fits_in : (width elapsed : ℕ) (mark : Mark) (text : List ℕ) → 13 ≤ width
    → AreLines (λ line. columns_of (chars line) ≤ width) (line_bytes (Some width) false elapsed mark text)
unfolding line_bytes
line-fits_in width elapsed mark text wide =
    timed-fit width elapsed mark (broken (width - 10) (shown_characters text)) wide (broken-fine (width - 10) (shown_characters text) (shown_characters-fine text))
    (broken-fit (width - 10) (shown_characters text) (omega arith))
