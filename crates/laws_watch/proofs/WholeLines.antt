-- Each row is whole lines, and rows that a line asks for begin with a time.
use Rattle.std.proofs.Common.{◌≡◌, ◌∙◌, ℕ, ◌-◌, List, [], ◌∷◌, ◌++◌, ◌==◌, ◌&&◌, Bool, true, false, Option, None, Some, add-one, ap, append-nil, append_assoc, codes, cond, if◌then◌else◌, length, refl, replicate, subst, sym}
use Rattle.std.proofs.lemmas.Bool.{false≢true}
use Rattle.std.proofs.lemmas.List.Elements.{All-head}
use Rattle.term_text.specs.Breaking.{broken, pieces_within}
use Rattle.term_text.specs.Fitted.{shown_characters}
use Rattle.term_text.specs.declared.rendition.Rendition.{Rendition}
use Rattle.stream_watch.specs.Marks.{bar_of, is_in_panel, sign_of, text_rendition}
use Rattle.stream_watch.specs.Printed.{behind_front, further_bytes, later_line, later_lines, line_bytes, pieces_in, stretch, time_front, timed_line, timed_lines}
use Rattle.stream_watch.specs.declared.looks.Looks.{Looks}
use Rattle.stream_watch.specs.declared.mark.Mark.{Mark}
use Rattle.laws_watch.specs.Rows.{AreRows, EndsLine, IsAt, IsOneRow, Row, further, row_bytes, starts_timed, timed, timed_marks}

-- ---- ends of lines

ends_after : (v w : List ℕ) → EndsLine w → EndsLine (v ++ w)
ends_after v w ends = (v ++ ends.0, ap (λ (x : List ℕ). v ++ x) ends.1 ∙ sym (append_assoc v ends.0 (10 ∷ [])))

blank_ends : (is_blank : Bool) (sign : List ℕ) → EndsLine (if is_blank then 10 ∷ [] else codes "  " ++ sign ++ 10 ∷ [])
blank_ends true sign = ([], refl)
blank_ends false sign = (codes "  " ++ sign, refl)

behind_sign : (has_colour : Bool) (m : Mark) (text_as : Option Rendition) (text : List ℕ) → EndsLine (behind_front has_colour (sign_of m) text_as text)
behind_sign has_colour m text_as [] =
    blank_ends ((sign_of m).character == 32) (stretch has_colour (sign_of m).rendition ((sign_of m).character ∷ []))
behind_sign has_colour m text_as (character ∷ characters) =
    (codes "  " ++ stretch has_colour (sign_of m).rendition ((sign_of m).character ∷ []) ++ codes " " ++ stretch has_colour text_as (character ∷ characters), refl)

behind_bar : (has_colour : Bool) (m : Mark) (text_as : Option Rendition) (text : List ℕ) → EndsLine (behind_front has_colour (bar_of m) text_as text)
behind_bar has_colour m text_as [] =
    blank_ends ((bar_of m).character == 32) (stretch has_colour (bar_of m).rendition ((bar_of m).character ∷ []))
behind_bar has_colour m text_as (character ∷ characters) =
    (codes "  " ++ stretch has_colour (bar_of m).rendition ((bar_of m).character ∷ []) ++ codes " " ++ stretch has_colour text_as (character ∷ characters), refl)

later_ends : (has_colour : Bool) (mark : Mark) (text_as : Option Rendition) (piece : List ℕ) (pieces : List (List ℕ))
    → EndsLine (later_lines has_colour mark text_as (piece ∷ pieces))
later_ends has_colour mark text_as piece [] =
    let line = later_line has_colour mark text_as piece in
    subst EndsLine (sym (append-nil line)) (ends_after (replicate 6 32) _ (behind_bar has_colour mark text_as piece))
later_ends has_colour mark text_as piece (next ∷ pieces) =
    ends_after (later_line has_colour mark text_as piece) (later_lines has_colour mark text_as (next ∷ pieces))
    (later_ends has_colour mark text_as next pieces)

with_later : (has_colour : Bool) (mark : Mark) (text_as : Option Rendition) (line : List ℕ) (pieces : List (List ℕ)) → EndsLine line
    → EndsLine (line ++ later_lines has_colour mark text_as pieces)
with_later has_colour mark text_as line [] ends = subst EndsLine (sym (append-nil line)) ends
with_later has_colour mark text_as line (piece ∷ pieces) ends =
    ends_after line (later_lines has_colour mark text_as (piece ∷ pieces)) (later_ends has_colour mark text_as piece pieces)

timed_ends : (has_colour : Bool) (time : ℕ) (mark : Mark) (piece : List ℕ) (pieces : List (List ℕ))
    → EndsLine (timed_lines has_colour time mark (piece ∷ pieces))
timed_ends has_colour time mark piece pieces =
    with_later has_colour mark (text_rendition mark) (timed_line has_colour time mark piece) pieces
    (ends_after (time_front has_colour time) _ (behind_sign has_colour mark (text_rendition mark) piece))

-- ---- a text has a piece at least

HasPiece : List (List ℕ) → Type 0
HasPiece pieces = (piece : List ℕ) × (rest : List (List ℕ)) × (pieces ≡ piece ∷ rest)

broken_has_piece : (columns : ℕ) (text : List ℕ) → HasPiece (broken columns text)
unfolding broken HasPiece
broken_has_piece columns text = (_, _, ap (λ (turns : ℕ). pieces_within turns columns text) (add-one (length text)))

has_piece : (width : Option ℕ) (text : List ℕ) → HasPiece (pieces_in width text)
unfolding HasPiece
has_piece None text = (_, _, refl)
has_piece (Some width) text = broken_has_piece (width - 10) text

-- ---- rows

pub line_ends : (width : Option ℕ) (has_colour : Bool) (time : ℕ) (mark : Mark) (text : List ℕ) → EndsLine (line_bytes width has_colour time mark text)
unfolding line_bytes HasPiece
line_ends width has_colour time mark text =
    let pieces = has_piece width (shown_characters text) in
    subst (λ (x : List (List ℕ)). EndsLine (timed_lines has_colour time mark x)) (sym pieces.2) (timed_ends has_colour time mark pieces.0 pieces.1)

pub further_ends : (width : Option ℕ) (has_colour : Bool) (mark : Mark) (text : List ℕ) → EndsLine (further_bytes width has_colour mark text)
unfolding further_bytes HasPiece
further_ends width has_colour mark text =
    let pieces = has_piece width (shown_characters text) in
    subst (λ (x : List (List ℕ)). EndsLine (later_lines has_colour mark None x)) (sym pieces.2) (later_ends has_colour mark None pieces.0 pieces.1)

-- what a panel hides

shown_with : (has_panel in_panel : Bool) (bytes : List ℕ) → (has_panel && in_panel) ≡ false → (if has_panel && in_panel then [] else bytes) ≡ bytes
shown_with has_panel in_panel bytes shown = ap (λ (b : Bool). cond b [] bytes) shown

pub row_is_line : (looks : Looks) (time : ℕ) (mark : Mark) (text : List ℕ) → (looks.has_panel && is_in_panel mark) ≡ false
    → row_bytes looks (timed time mark text) ≡ line_bytes looks.width looks.has_colour time mark text
row_is_line looks time mark text shown = shown_with looks.has_panel (is_in_panel mark) (line_bytes looks.width looks.has_colour time mark text) shown

pub row_ends : (looks : Looks) (time : ℕ) (mark : Mark) (text : List ℕ) → (looks.has_panel && is_in_panel mark) ≡ false
    → EndsLine (row_bytes looks (timed time mark text))
row_ends looks time mark text shown =
    subst EndsLine (sym (row_is_line looks time mark text shown)) (line_ends looks.width looks.has_colour time mark text)

-- ---- no mark and one mark

no_marks : (rows : List Row) → timed_marks rows ≡ [] → starts_timed rows ≡ true → rows ≡ []
no_marks [] none start = refl
no_marks (timed time mark text ∷ rows) none start = absurd cc
no_marks (further mark text ∷ rows) none start = absurd (false≢true start)

pub no_row : (time : ℕ) (rows : List Row) → AreRows time [] rows → rows ≡ []
no_row time rows are = no_marks rows are.marks are.start

pub one_row : (time : ℕ) (m : Mark) (rows : List Row) → AreRows time (m ∷ []) rows → IsOneRow time m rows
one_row time m [] are = absurd (let none = are.marks in cc)
one_row time m (timed t mark text ∷ rows) are =
    let at : t ≡ time = All-head (IsAt time) (timed t mark text) rows are.times in
    let marks = are.marks in
    let first : mark ≡ m = cc in
    let rest : timed_marks rows ≡ [] = cc in
    record {
      text = text;
      rest = rows;
      rows = ap (λ (x : ℕ). timed x mark text ∷ rows) at ∙ ap (λ (x : Mark). timed time x text ∷ rows) first;
      rest_is_further = rest;
    }
one_row time m (further mark text ∷ rows) are = absurd (false≢true are.start)
