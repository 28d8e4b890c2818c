-- Printed lines without the sequences of colours.
use Rattle.std.proofs.Common.{◌≡◌, ◌≢◌, ◌∙◌, ◌-◌, ℕ, ◌<◌, ◌≤◌, ◌==◌, ◌∷◌, ◌++◌, [], List, Bool, Option, None, Some, true, false, ⊎_elim, ap, append_assoc, append-nil, arith, codes, refl, replicate, subst, sym}
use Rattle.std.specs.Prelude.{◌&&◌, All, drop, if◌then◌else◌, nat_eq}
use Rattle.std.specs.List.{starts_with}
use Rattle.std.specs.Str.{NonePass}
use Rattle.std.proofs.lemmas.Bool.{cases_lt, true≢false}
use Rattle.std.proofs.lemmas.Bool.Decides.{nat_tests}
use Rattle.std.proofs.lemmas.List.Elements.{All-append, All-cons, All-from_get_or, All-head, All-nil, All-tail}
use Rattle.std.proofs.lemmas.Str.{encode_ascii, inside_one}
use lib.Utf8.{encode, encodes}
use Rattle.term_text.specs.Fitted.{shown_characters}
use Rattle.term_text.specs.LineTexts.{colour_size, size_through, uncoloured, uncoloured_after}
use Rattle.term_text.specs.Shown.{is_hidden}
use Rattle.term_text.specs.declared.rendition.Rendition.{Rendition}
use Rattle.term_text.specs.declared.rendition.Rendition.TheVariants as rendition
use Rattle.term_words.specs.MessageTexts.{right_text}
use Rattle.stream_watch.specs.Marks.{bar_of, sign_of, text_rendition}
use Rattle.stream_watch.specs.Printed.{begin_bytes, behind_front, end_bytes, further_bytes, later_line, later_lines, line_bytes, pieces_in, stretch, time_front, time_text, timed_line, timed_lines}
use Rattle.stream_watch.specs.declared.mark.Mark.{Mark}
use Rattle.laws_watch.proofs.Fine.{IsFine, IsFine-quiet, IsQuiet, shown_characters-fine}
use Rattle.laws_watch.proofs.Printing.{pieces_in-fine}
use Rattle.laws_watch.proofs.Signs.{bar, bar_is, sign}
use Rattle.laws_watch.proofs.TimeFronts.{time-front}

-- without sequences of colours, the first bytes in front of others are the second ones in front of
-- them
abbrev pub BecomeBytes : (coloured plain : List ℕ) → Type 0
BecomeBytes coloured plain = (more : List ℕ) → uncoloured (coloured ++ more) ≡ plain ++ uncoloured more

pub become-append : (xs ys plain_xs plain_ys : List ℕ) → BecomeBytes xs plain_xs → BecomeBytes ys plain_ys → BecomeBytes (xs ++ ys) (plain_xs ++ plain_ys)
become-append xs ys plain_xs plain_ys front back more =
    ap uncoloured (append_assoc xs ys more) ∙ front (ys ++ more) ∙ ap (λ t. plain_xs ++ t) (back more) ∙ sym (append_assoc plain_xs plain_ys (uncoloured more))

pub become-none : BecomeBytes [] []
become-none more = refl

-- ---- sequences

become-begin : (rendition : Option Rendition) → BecomeBytes (begin_bytes true rendition) (begin_bytes false rendition)
unfolding colour_size uncoloured_after
become-begin None more = refl
become-begin (Some rendition.Bold) more = refl
become-begin (Some rendition.Dim) more = refl
become-begin (Some rendition.Red) more = refl
become-begin (Some rendition.Green) more = refl
become-begin (Some rendition.Yellow) more = refl
become-begin (Some rendition.Magenta) more = refl
become-begin (Some rendition.Cyan) more = refl
become-begin (Some rendition.White) more = refl

become-end : (rendition : Option Rendition) → BecomeBytes (end_bytes true rendition) (end_bytes false rendition)
unfolding colour_size uncoloured_after
become-end None more = refl
become-end (Some rendition) more = refl

-- ---- bytes without an escape character

no_sequence : (byte : ℕ) (rest : List ℕ) → byte ≢ 27 → colour_size (byte ∷ rest) ≡ 0
unfolding colour_size
no_sequence byte rest other =
    let test : (27 == byte) ≡ false = grind (arith, nat_tests) in
    ap (λ b. if b && starts_with nat_eq rest (91 ∷ []) then size_through 2 (drop 2 (byte ∷ rest)) else 0) test

become-plain : (bytes : List ℕ) → All (λ byte. byte ≢ 27) bytes → BecomeBytes bytes bytes
unfolding uncoloured_after
become-plain [] none more = refl
become-plain (byte ∷ bytes) none more =
    let other = All-head (λ b. b ≢ 27) byte bytes none in
    ap (λ size. if size == 0 then byte ∷ uncoloured_after 0 (bytes ++ more) else uncoloured_after (size - 1) (bytes ++ more)) (no_sequence byte (bytes ++ more) other)
    ∙ ap (λ t. byte ∷ t) (become-plain bytes (All-tail (λ b. b ≢ 27) byte bytes none) more)

no_escape-encode : (c : ℕ) → is_hidden c ≡ false → All (λ byte. byte ≢ 27) (encode c)
unfolding is_hidden
no_escape-encode c plain =
    ⊎_elim
    (λ (low : c < 128).
    let other : c ≢ 27 = λ is. true≢false (sym (ap is_hidden is) ∙ plain) in
    rw (encode_ascii c low) (All-cons (λ byte. byte ≢ 27) c [] other (All-nil (λ byte. byte ≢ 27))))
    (λ (high : 128 ≤ c).
    All-from_get_or (λ byte. byte ≢ 27) (encode c) 0
    (λ i below. λ is. omega (arith, inside_one c [] (encode c) i (sym (append-nil (encode c))) below (omega (arith, is)), is, high)))
    (cases_lt c 128)

no_escape : (cs : List ℕ) → NonePass is_hidden cs → All (λ byte. byte ≢ 27) (encodes cs)
no_escape [] none = All-nil (λ byte. byte ≢ 27)
no_escape (c ∷ cs) none = All-append (λ byte. byte ≢ 27) (encode c) (encodes cs) (no_escape-encode c none.0) (no_escape cs none.1)

become-text : (cs : List ℕ) → IsFine cs → BecomeBytes (encodes cs) (encodes cs)
become-text cs fine = become-plain (encodes cs) (no_escape cs fine.no_hidden)

-- ---- lines

become-stretch : (rendition : Option Rendition) (cs : List ℕ) → IsFine cs → BecomeBytes (stretch true rendition cs) (stretch false rendition cs)
become-stretch rendition cs fine =
    become-append (begin_bytes true rendition ++ encodes cs) (end_bytes true rendition) (begin_bytes false rendition ++ encodes cs) (end_bytes false rendition)
    (become-append (begin_bytes true rendition) (encodes cs) (begin_bytes false rendition) (encodes cs) (become-begin rendition) (become-text cs fine))
    (become-end rendition)

either : (test : Bool) (x y plain_x plain_y : List ℕ) → BecomeBytes x plain_x → BecomeBytes y plain_y → BecomeBytes (if test then x else y) (if test then plain_x else plain_y)
either true x y plain_x plain_y then_is else_is = then_is
either false x y plain_x plain_y then_is else_is = else_is

feed : BecomeBytes (10 ∷ []) (10 ∷ [])
unfolding colour_size uncoloured_after
feed more = refl

blank : BecomeBytes (codes " ") (codes " ")
unfolding colour_size uncoloured_after
blank more = refl

two_blanks : BecomeBytes (codes "  ") (codes "  ")
unfolding colour_size uncoloured_after
two_blanks more = refl

six_blanks : BecomeBytes (replicate 6 32) (replicate 6 32)
unfolding colour_size uncoloured_after
six_blanks more = refl

-- two blanks and a sign
become-sign : (rendition : Option Rendition) (sign : ℕ) → IsQuiet sign
    → BecomeBytes (codes "  " ++ stretch true rendition (sign ∷ [])) (codes "  " ++ stretch false rendition (sign ∷ []))
become-sign rendition sign quiet =
    become-append (codes "  ") (stretch true rendition (sign ∷ [])) (codes "  ") (stretch false rendition (sign ∷ [])) two_blanks
    (become-stretch rendition (sign ∷ []) (IsFine-quiet (sign ∷ []) (quiet, tt)))

become-behind_front : (sign : _) (text_as : Option Rendition) (text bytes : List ℕ) → behind_front true sign text_as text ≡ bytes → IsQuiet sign.character → IsFine text
    → BecomeBytes bytes (behind_front false sign text_as text)
become-behind_front sign text_as [] bytes is quiet fine =
    let shown = become-sign sign.rendition sign.character quiet in
    let coloured = codes "  " ++ stretch true sign.rendition (sign.character ∷ []) in
    let plain = codes "  " ++ stretch false sign.rendition (sign.character ∷ []) in
    subst (λ t. BecomeBytes t (behind_front false sign text_as [])) is
    (either (sign.character == 32) (10 ∷ []) (coloured ++ 10 ∷ []) (10 ∷ []) (plain ++ 10 ∷ []) feed (become-append coloured (10 ∷ []) plain (10 ∷ []) shown feed))
become-behind_front sign text_as (c ∷ cs) bytes is quiet fine =
    let shown = become-sign sign.rendition sign.character quiet in
    let coloured = codes "  " ++ stretch true sign.rendition (sign.character ∷ []) in
    let plain = codes "  " ++ stretch false sign.rendition (sign.character ∷ []) in
    let coloured_text = stretch true text_as (c ∷ cs) in
    let plain_text = stretch false text_as (c ∷ cs) in
    subst (λ t. BecomeBytes t (behind_front false sign text_as (c ∷ cs))) is
    (become-append (coloured ++ codes " " ++ coloured_text) (10 ∷ []) (plain ++ codes " " ++ plain_text) (10 ∷ [])
    (become-append (coloured ++ codes " ") coloured_text (plain ++ codes " ") plain_text (become-append coloured (codes " ") plain (codes " ") shown blank)
    (become-stretch text_as (c ∷ cs) fine))
    feed)

become-later : (mark : Mark) (text_as : Option Rendition) (text : List ℕ) → IsFine text → BecomeBytes (later_line true mark text_as text) (later_line false mark text_as text)
become-later mark text_as text fine =
    let quiet : IsQuiet (bar_of mark).character = rw (bar_is mark) bar.quiet in
    become-append (replicate 6 32) _ (replicate 6 32) _ six_blanks (become-behind_front (bar_of mark) text_as text _ refl quiet fine)

become-time_front : (elapsed : ℕ) → BecomeBytes (time_front true elapsed) (time_front false elapsed)
become-time_front elapsed =
    let time = time-front elapsed in
    let shown = right_text 6 (time_text elapsed) in
    let same : BecomeBytes shown shown = rw time.is (become-text _ (IsFine-quiet _ time.fine.quiet)) in
    let begin = begin_bytes true (Some rendition.Dim) in
    let none = begin_bytes false (Some rendition.Dim) in
    become-append (begin ++ shown) (end_bytes true (Some rendition.Dim)) (none ++ shown) (end_bytes false (Some rendition.Dim))
    (become-append (begin_bytes true (Some rendition.Dim)) shown (begin_bytes false (Some rendition.Dim)) shown (become-begin (Some rendition.Dim)) same)
    (become-end (Some rendition.Dim))

become-timed : (elapsed : ℕ) (mark : Mark) (text : List ℕ) → IsFine text → BecomeBytes (timed_line true elapsed mark text) (timed_line false elapsed mark text)
become-timed elapsed mark text fine =
    become-append (time_front true elapsed) _ (time_front false elapsed) _ (become-time_front elapsed)
    (become-behind_front (sign_of mark) (text_rendition mark) text _ refl (sign mark).quiet fine)

become-later_lines : (mark : Mark) (text_as : Option Rendition) (pieces : List (List ℕ)) → All IsFine pieces
    → BecomeBytes (later_lines true mark text_as pieces) (later_lines false mark text_as pieces)
become-later_lines mark text_as [] fine = become-none
become-later_lines mark text_as (piece ∷ pieces) fine =
    become-append (later_line true mark text_as piece) (later_lines true mark text_as pieces) (later_line false mark text_as piece) (later_lines false mark text_as pieces)
    (become-later mark text_as piece (All-head IsFine piece pieces fine)) (become-later_lines mark text_as pieces (All-tail IsFine piece pieces fine))

become-timed_lines : (elapsed : ℕ) (mark : Mark) (pieces : List (List ℕ)) → All IsFine pieces
    → BecomeBytes (timed_lines true elapsed mark pieces) (timed_lines false elapsed mark pieces)
become-timed_lines elapsed mark [] fine = become-none
become-timed_lines elapsed mark (piece ∷ pieces) fine =
    become-append (timed_line true elapsed mark piece) (later_lines true mark (text_rendition mark) pieces) (timed_line false elapsed mark piece)
    (later_lines false mark (text_rendition mark) pieces) (become-timed elapsed mark piece (All-head IsFine piece pieces fine))
    (become-later_lines mark (text_rendition mark) pieces (All-tail IsFine piece pieces fine))

-- ---- texts

pub become-whole : (coloured plain : List ℕ) → BecomeBytes coloured plain → uncoloured coloured ≡ plain
unfolding uncoloured_after
become-whole coloured plain become = ap uncoloured (sym (append-nil coloured)) ∙ become [] ∙ append-nil plain

pub become-line : (width : Option ℕ) (elapsed : ℕ) (mark : Mark) (text : List ℕ) → BecomeBytes (line_bytes width true elapsed mark text) (line_bytes width false elapsed mark text)
unfolding line_bytes
become-line width elapsed mark text =
    become-timed_lines elapsed mark (pieces_in width (shown_characters text)) (pieces_in-fine width (shown_characters text) (shown_characters-fine text))

pub become-further : (width : Option ℕ) (mark : Mark) (text : List ℕ) → BecomeBytes (further_bytes width true mark text) (further_bytes width false mark text)
unfolding further_bytes
become-further width mark text =
    become-later_lines mark None (pieces_in width (shown_characters text)) (pieces_in-fine width (shown_characters text) (shown_characters-fine text))
