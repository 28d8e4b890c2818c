-- Printed lines, with colours or without, hold no command.
use Rattle.std.proofs.Common.{arith, ◌≡◌, ◌≢◌, ◌∙◌, ℕ, ◌==◌, ◌∷◌, ◌++◌, [], List, Bool, Option, None, Some, true, false, not, append_assoc, append-nil, codes, refl, replicate, subst, sym}
use Rattle.std.specs.Prelude.{◌&&◌, All, if◌then◌else◌}
use Rattle.std.specs.Char.{is_ascii_alphabetic}
use Rattle.std.proofs.Math.Bool.{and-false}
use Rattle.std.proofs.lemmas.Bool.{and_parts}
use Rattle.std.proofs.lemmas.List.Elements.{All-head, All-tail}
use lib.Utf8.{encode, encodes}
use Rattle.term_text.specs.Commands.{HoldsNoCommand, after_character, is_named}
use Rattle.term_text.specs.Fitted.{shown_characters}
use Rattle.term_text.specs.declared.command_start.CommandStart.{CommandStart}
use Rattle.term_text.specs.declared.command_start.CommandStart.TheVariants as command_start
use Rattle.term_text.specs.declared.rendition.Rendition.{Rendition}
use Rattle.term_text.specs.declared.rendition.Rendition.TheVariants as rendition
use Rattle.term_text.proofs.Commands.{HoldsNoCommand-from, none_opens, none_opens-from, starts_anew}
use Rattle.term_words.specs.MessageTexts.{right_text}
use Rattle.stream_watch.specs.Marks.{bar_of, sign_of, text_rendition}
use Rattle.stream_watch.specs.Printed.{begin_bytes, behind_front, end_bytes, further_bytes, later_line, later_lines, line_bytes, pieces_in, stretch, time_front, time_text, timed_line, timed_lines}
use Rattle.stream_watch.specs.declared.mark.Mark.{Mark}
use Rattle.laws_watch.proofs.Fine.{AllQuiet, IsFine, IsQuiet, none_opens-quiet, shown_characters-fine}
use Rattle.laws_watch.proofs.Printing.{pieces_in-fine}
use Rattle.laws_watch.proofs.Signs.{bar, bar_is, sign}
use Rattle.laws_watch.proofs.TimeFronts.{time-front}

-- behind nothing, the bytes open no command, and nor do bytes behind them that open none by
-- themselves
abbrev pub AreShut : List ℕ → Type 0
AreShut bytes = (more : List ℕ) → none_opens command_start.Nothing more ≡ true → none_opens command_start.Nothing (bytes ++ more) ≡ true

pub shut-append : (xs ys : List ℕ) → AreShut xs → AreShut ys → AreShut (xs ++ ys)
shut-append xs ys front back more none = rw (append_assoc xs ys more) (front (ys ++ more) (back more none))

pub shut-none : AreShut []
shut-none more none = none

shut-quiet : (cs : List ℕ) → AllQuiet cs → AreShut (encodes cs)
shut-quiet [] quiet more none = none
shut-quiet (c ∷ cs) quiet more none =
    rw (append_assoc (encode c) (encodes cs) more)
    (none_opens-quiet c (encodes cs ++ more) quiet.0.other ∙ shut-quiet cs quiet.1 more none)

shut-begin : (has_colour : Bool) (rendition : Option Rendition) → AreShut (begin_bytes has_colour rendition)
shut-begin has_colour None more none = none
shut-begin false (Some rendition) more none = none
shut-begin true (Some rendition.Bold) more none = none
shut-begin true (Some rendition.Dim) more none = none
shut-begin true (Some rendition.Red) more none = none
shut-begin true (Some rendition.Green) more none = none
shut-begin true (Some rendition.Yellow) more none = none
shut-begin true (Some rendition.Magenta) more none = none
shut-begin true (Some rendition.Cyan) more none = none
shut-begin true (Some rendition.White) more none = none

shut-end : (has_colour : Bool) (rendition : Option Rendition) → AreShut (end_bytes has_colour rendition)
shut-end has_colour None more none = none
shut-end false (Some rendition) more none = none
shut-end true (Some rendition) more none = none

shut-stretch : (has_colour : Bool) (rendition : Option Rendition) (cs : List ℕ) → AllQuiet cs → AreShut (stretch has_colour rendition cs)
shut-stretch has_colour rendition cs quiet =
    shut-append (begin_bytes has_colour rendition ++ encodes cs) (end_bytes has_colour rendition)
    (shut-append (begin_bytes has_colour rendition) (encodes cs) (shut-begin has_colour rendition) (shut-quiet cs quiet)) (shut-end has_colour rendition)

-- ---- a text, up to a byte that ends the name of a command

before-stop : (start : CommandStart) (bytes : List ℕ) (stop : ℕ) (more : List ℕ) → stop ≢ 35 → is_ascii_alphabetic stop ≡ false → (stop == 91) ≡ false
    → none_opens start bytes ≡ true → none_opens command_start.Nothing more ≡ true → none_opens start (bytes ++ stop ∷ more) ≡ true
before-stop start [] stop more other no_letter no_bracket none after =
    rw (no_bracket, and-false (is_named start), starts_anew start stop other no_letter) after
before-stop start (byte ∷ bytes) stop more other no_letter no_bracket none after =
    let both = and_parts _ _ none in
    let shut : not (is_named start && byte == 91) ≡ true = both.0 in
    rw shut (before-stop (after_character start byte) bytes stop more other no_letter no_bracket both.1 after)

shut-stop : (bytes : List ℕ) (stop : ℕ) (rest : List ℕ) → stop ≢ 35 → is_ascii_alphabetic stop ≡ false → (stop == 91) ≡ false
    → none_opens command_start.Nothing bytes ≡ true → AreShut rest → AreShut (bytes ++ stop ∷ rest)
shut-stop bytes stop rest other no_letter no_bracket none after more more_none =
    rw (append_assoc bytes (stop ∷ rest) more)
    (before-stop command_start.Nothing bytes stop (rest ++ more) other no_letter no_bracket none (after more more_none))

-- a line feed behind a text, or a sequence and a line feed
shut-feed : (cs : List ℕ) → IsFine cs → AreShut (encodes cs ++ [] ++ 10 ∷ [])
shut-feed cs fine =
    rw (append-nil (encodes cs))
    (shut-stop (encodes cs) 10 [] (λ same. omega arith) refl refl (none_opens-from (encodes cs) fine.no_command) (λ more none. none))

shut-end_feed : (cs : List ℕ) → IsFine cs → AreShut (encodes cs ++ (27 ∷ 91 ∷ 48 ∷ 109 ∷ 10 ∷ []))
shut-end_feed cs fine =
    shut-stop (encodes cs) 27 (91 ∷ 48 ∷ 109 ∷ 10 ∷ []) (λ same. omega arith) refl refl (none_opens-from (encodes cs) fine.no_command) (λ more none. none)

shut-text : (has_colour : Bool) (rendition : Option Rendition) (cs : List ℕ) → IsFine cs → AreShut (stretch has_colour rendition cs ++ 10 ∷ [])
shut-text has_colour None cs fine = shut-feed cs fine
shut-text false (Some rendition) cs fine = shut-feed cs fine
shut-text true (Some rendition) cs fine =
    let begin = begin_bytes true (Some rendition) in
    let end : List ℕ = 27 ∷ 91 ∷ 48 ∷ 109 ∷ [] in
    subst AreShut (sym (append_assoc (begin ++ encodes cs) end (10 ∷ []) ∙ append_assoc begin (encodes cs) (27 ∷ 91 ∷ 48 ∷ 109 ∷ 10 ∷ [])))
    (shut-append begin (encodes cs ++ (27 ∷ 91 ∷ 48 ∷ 109 ∷ 10 ∷ [])) (shut-begin true (Some rendition)) (shut-end_feed cs fine))

-- ---- lines

through : (more : List ℕ) → none_opens command_start.Nothing more ≡ true → none_opens command_start.Nothing more ≡ true
through more none = none

either : (test : Bool) (x y : List ℕ) → AreShut x → AreShut y → AreShut (if test then x else y)
either true x y then_is else_is = then_is
either false x y then_is else_is = else_is

shut-behind_front : (has_colour : Bool) (sign : _) (text_as : Option Rendition) (text bytes : List ℕ) → behind_front has_colour sign text_as text ≡ bytes
    → IsQuiet sign.character → IsFine text → AreShut bytes
shut-behind_front has_colour sign text_as [] bytes is quiet fine =
    subst AreShut is (
    let shown = stretch has_colour sign.rendition (sign.character ∷ []) in
    either (sign.character == 32) (10 ∷ []) (codes "  " ++ shown ++ 10 ∷ []) through
    (shut-append (codes "  " ++ shown) (10 ∷ []) (shut-append (codes "  ") shown through (shut-stretch has_colour sign.rendition (sign.character ∷ []) (quiet, tt))) through))
shut-behind_front has_colour sign text_as (c ∷ cs) bytes is quiet fine =
    subst AreShut is (
    let shown = stretch has_colour sign.rendition (sign.character ∷ []) in
    let text = stretch has_colour text_as (c ∷ cs) in
    let front = codes "  " ++ shown ++ codes " " in
    let front_shut : AreShut front =
    shut-append (codes "  " ++ shown) (codes " ") (shut-append (codes "  ") shown through (shut-stretch has_colour sign.rendition (sign.character ∷ []) (quiet, tt))) through in
    subst AreShut (sym (append_assoc front text (10 ∷ []))) (shut-append front (text ++ 10 ∷ []) front_shut (shut-text has_colour text_as (c ∷ cs) fine)))

shut-later : (has_colour : Bool) (mark : Mark) (text_as : Option Rendition) (text : List ℕ) → IsFine text → AreShut (later_line has_colour mark text_as text)
shut-later has_colour mark text_as text fine =
    let quiet : IsQuiet (bar_of mark).character = rw (bar_is mark) bar.quiet in
    shut-append (replicate 6 32) (behind_front has_colour (bar_of mark) text_as text) through (shut-behind_front has_colour (bar_of mark) text_as text _ refl quiet fine)

shut-time_front : (has_colour : Bool) (elapsed : ℕ) → AreShut (time_front has_colour elapsed)
shut-time_front has_colour elapsed =
    let time = time-front elapsed in
    let begin = begin_bytes has_colour (Some rendition.Dim) in
    let shown : AreShut (right_text 6 (time_text elapsed)) = rw time.is (shut-quiet _ time.fine.quiet) in
    shut-append (begin ++ right_text 6 (time_text elapsed)) (end_bytes has_colour (Some rendition.Dim))
    (shut-append begin (right_text 6 (time_text elapsed)) (shut-begin has_colour (Some rendition.Dim)) shown) (shut-end has_colour (Some rendition.Dim))

shut-timed : (has_colour : Bool) (elapsed : ℕ) (mark : Mark) (text : List ℕ) → IsFine text → AreShut (timed_line has_colour elapsed mark text)
shut-timed has_colour elapsed mark text fine =
    shut-append (time_front has_colour elapsed) (behind_front has_colour (sign_of mark) (text_rendition mark) text) (shut-time_front has_colour elapsed)
    (shut-behind_front has_colour (sign_of mark) (text_rendition mark) text _ refl (sign mark).quiet fine)

shut-later_lines : (has_colour : Bool) (mark : Mark) (text_as : Option Rendition) (pieces : List (List ℕ)) → All IsFine pieces
    → AreShut (later_lines has_colour mark text_as pieces)
shut-later_lines has_colour mark text_as [] fine = through
shut-later_lines has_colour mark text_as (piece ∷ pieces) fine =
    shut-append (later_line has_colour mark text_as piece) (later_lines has_colour mark text_as pieces)
    (shut-later has_colour mark text_as piece (All-head IsFine piece pieces fine))
    (shut-later_lines has_colour mark text_as pieces (All-tail IsFine piece pieces fine))

shut-timed_lines : (has_colour : Bool) (elapsed : ℕ) (mark : Mark) (pieces : List (List ℕ)) → All IsFine pieces → AreShut (timed_lines has_colour elapsed mark pieces)
shut-timed_lines has_colour elapsed mark [] fine = through
shut-timed_lines has_colour elapsed mark (piece ∷ pieces) fine =
    shut-append (timed_line has_colour elapsed mark piece) (later_lines has_colour mark (text_rendition mark) pieces)
    (shut-timed has_colour elapsed mark piece (All-head IsFine piece pieces fine))
    (shut-later_lines has_colour mark (text_rendition mark) pieces (All-tail IsFine piece pieces fine))

-- ---- texts

pub no_command-shut : (bytes : List ℕ) → AreShut bytes → HoldsNoCommand bytes
no_command-shut bytes shut = HoldsNoCommand-from command_start.Nothing bytes (rw (append-nil bytes) at (shut [] refl))

pub shut-line : (width : Option ℕ) (has_colour : Bool) (elapsed : ℕ) (mark : Mark) (text : List ℕ) → AreShut (line_bytes width has_colour elapsed mark text)
unfolding line_bytes
shut-line width has_colour elapsed mark text =
    shut-timed_lines has_colour elapsed mark (pieces_in width (shown_characters text)) (pieces_in-fine width (shown_characters text) (shown_characters-fine text))

pub shut-further : (width : Option ℕ) (has_colour : Bool) (mark : Mark) (text : List ℕ) → AreShut (further_bytes width has_colour mark text)
unfolding further_bytes
shut-further width has_colour mark text =
    shut-later_lines has_colour mark None (pieces_in width (shown_characters text)) (pieces_in-fine width (shown_characters text) (shown_characters-fine text))
