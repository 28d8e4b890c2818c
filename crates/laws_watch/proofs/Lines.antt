-- Lines without colours, as characters.
use Rattle.std.proofs.Common.{◌≡◌, ◌∙◌, ℕ, ◌+◌, ◌-◌, ◌<◌, ◌≤◌, ◌==◌, ◌∷◌, ◌++◌, [], List, Option, None, Some, true, false, ⊎_elim, ap, codes, append_assoc, append-nil, arith, refl, replicate, sym}
use Rattle.std.specs.Prelude.{if◌then◌else◌}
use Rattle.std.specs.Char.{encode_utf8}
use Rattle.std.specs.Str.{chars}
use Rattle.std.proofs.lemmas.Bool.{cases_Bool}
use Rattle.std.proofs.lemmas.List.Sums.{sum_by-append, sum_by-cons}
use Rattle.std.proofs.lemmas.Str.{chars-encodes, encode_ascii, encodes-append}
use lib.Utf8.{encode, encodes}
use Rattle.term_text.specs.Columns.{column_count, columns_of}
use Rattle.term_text.specs.declared.rendition.Rendition.{Rendition}
use Rattle.stream_watch.specs.Marks.{bar_of, sign_of, text_rendition}
use Rattle.term_words.specs.MessageTexts.{right_text}
use Rattle.stream_watch.specs.Printed.{behind_front, later_line, stretch, time_text, timed_line}
use Rattle.stream_watch.specs.declared.mark.Mark.{Mark}
use Rattle.laws_watch.specs.PrintedLines.{BeginsWithBar, BeginsWithTime, IsPlain}
use Rattle.laws_watch.proofs.Fine.{IsFine, IsFine-behind, IsFine-cons, IsFine-nil, IsQuiet}
use Rattle.laws_watch.proofs.Signs.{IsSign, bar_is, blank, sign}
use Rattle.laws_watch.proofs.TimeFronts.{IsFront, encodes-blanks}

-- ---- a line

-- what stands behind the first six columns
abbrev pub tail_of : (sign : ℕ) (text : List ℕ) → List ℕ
tail_of sign [] = if sign == 32 then [] else 32 ∷ 32 ∷ sign ∷ []
tail_of sign (c ∷ cs) = 32 ∷ 32 ∷ sign ∷ 32 ∷ c ∷ cs

stretch-plain : (rendition : Option Rendition) (cs : List ℕ) → stretch false rendition cs ≡ encodes cs
stretch-plain None cs = append-nil (encodes cs)
stretch-plain (Some rendition) cs = append-nil (encodes cs)

spaced : (sign text : List ℕ) → codes "  " ++ (sign ++ []) ++ codes " " ++ text ≡ 32 ∷ 32 ∷ (sign ++ 32 ∷ text)
spaced sign text = ap (λ t. 32 ∷ 32 ∷ t) (ap (λ t. t ++ 32 ∷ [] ++ text) (append-nil sign) ∙ append_assoc sign (32 ∷ []) text)

tail_bytes : (sign : ℕ) (text : List ℕ) → encodes (32 ∷ 32 ∷ sign ∷ 32 ∷ text) ≡ 32 ∷ 32 ∷ (encode sign ++ 32 ∷ encodes text)
unfolding encode_utf8
tail_bytes sign text = refl

short_tail_bytes : (sign : ℕ) → encodes (32 ∷ 32 ∷ sign ∷ []) ≡ 32 ∷ 32 ∷ (encode sign ++ [])
unfolding encode_utf8
short_tail_bytes sign = refl

behind_front-plain : (sign : _) (text_as : Option Rendition) (text : List ℕ)
    → behind_front false sign text_as text ≡ encodes (tail_of sign.character text) ++ 10 ∷ []
behind_front-plain sign text_as [] =
    ⊎_elim
    (λ (yes : (sign.character == 32) ≡ true). rw yes refl)
    (λ (other : (sign.character == 32) ≡ false).
    rw other
    (ap (λ t. codes "  " ++ t ++ 10 ∷ []) (stretch-plain sign.rendition (sign.character ∷ [])) ∙ ap (λ t. t ++ 10 ∷ []) (sym (short_tail_bytes sign.character))))
    (cases_Bool (sign.character == 32))
behind_front-plain sign text_as (c ∷ cs) =
    let first = stretch-plain sign.rendition (sign.character ∷ []) in
    let second = stretch-plain text_as (c ∷ cs) in
    ap (λ t. codes "  " ++ t ++ codes " " ++ stretch false text_as (c ∷ cs) ++ 10 ∷ []) first
    ∙ ap (λ t. codes "  " ++ encodes (sign.character ∷ []) ++ codes " " ++ t ++ 10 ∷ []) second
    ∙ ap (λ t. t ++ 10 ∷ []) (spaced (encode sign.character) (encodes (c ∷ cs)) ∙ sym (tail_bytes sign.character (c ∷ cs)))

-- the line with these six columns, this sign and this text
abbrev pub line_of : (front : List ℕ) (sign : ℕ) (text : List ℕ) → List ℕ
line_of front sign text = encodes (front ++ tail_of sign text)

pub later_line-plain : (mark : Mark) (text_as : Option Rendition) (text : List ℕ) → later_line false mark text_as text ≡ line_of (replicate 6 32) 0x2502 text ++ 10 ∷ []
later_line-plain mark text_as text =
    ap (λ t. replicate 6 32 ++ t) (behind_front-plain (bar_of mark) text_as text ∙ ap (λ sign. encodes (tail_of sign text) ++ 10 ∷ []) (bar_is mark))
    ∙ sym (append_assoc (replicate 6 32) (encodes (tail_of 0x2502 text)) (10 ∷ []))
    ∙ ap (λ t. t ++ encodes (tail_of 0x2502 text) ++ 10 ∷ []) (sym (encodes-blanks 6))
    ∙ ap (λ t. t ++ 10 ∷ []) (sym (encodes-append (replicate 6 32) (tail_of 0x2502 text)))

pub timed_line-plain : (elapsed : ℕ) (mark : Mark) (front text : List ℕ) → right_text 6 (time_text elapsed) ≡ encodes front
    → timed_line false elapsed mark text ≡ line_of front (sign_of mark).character text ++ 10 ∷ []
timed_line-plain elapsed mark front text is =
    let tail = tail_of (sign_of mark).character text in
    ap (λ t. t ++ behind_front false (sign_of mark) (text_rendition mark) text) (append-nil (right_text 6 (time_text elapsed)) ∙ is)
    ∙ ap (λ t. encodes front ++ t) (behind_front-plain (sign_of mark) (text_rendition mark) text)
    ∙ sym (append_assoc (encodes front) (encodes tail) (10 ∷ []))
    ∙ ap (λ t. t ++ 10 ∷ []) (sym (encodes-append front tail))

-- ---- what holds of a line

tail-fine : (sign : ℕ) (text : List ℕ) → IsQuiet sign → IsFine text → IsFine (tail_of sign text)
tail-fine sign [] quiet fine =
    ⊎_elim
    (λ (yes : (sign == 32) ≡ true). rw yes IsFine-nil)
    (λ (other : (sign == 32) ≡ false). rw other (IsFine-cons 32 _ blank.quiet (IsFine-cons 32 _ blank.quiet (IsFine-cons sign [] quiet IsFine-nil))))
    (cases_Bool (sign == 32))
tail-fine sign (c ∷ cs) quiet fine =
    IsFine-cons 32 _ blank.quiet (IsFine-cons 32 _ blank.quiet (IsFine-cons sign _ quiet (IsFine-cons 32 (c ∷ cs) blank.quiet fine)))

line-fine : (front : List ℕ) (sign : ℕ) (text : List ℕ) → IsFront front → IsQuiet sign → IsFine text → IsFine (front ++ tail_of sign text)
line-fine front sign text six quiet fine = IsFine-behind front (tail_of sign text) six.quiet (tail-fine sign text quiet fine)

pub line-plain : (front : List ℕ) (sign : ℕ) (text : List ℕ) → IsFront front → IsQuiet sign → IsFine text → IsPlain (line_of front sign text)
line-plain front sign text six quiet fine =
    let all = line-fine front sign text six quiet fine in
    record { no_hidden = (front ++ tail_of sign text, refl, all.no_hidden); no_command = all.no_command }

tail-columns : (sign : ℕ) (text : List ℕ) → column_count sign ≡ 1 → columns_of (tail_of sign text) ≤ columns_of text + 4
tail-columns sign [] one =
    ⊎_elim
    (λ (yes : (sign == 32) ≡ true). rw yes (omega arith))
    (λ (other : (sign == 32) ≡ false).
    rw other
    (omega (arith, sum_by-cons column_count 32 (32 ∷ sign ∷ []), sum_by-cons column_count 32 (sign ∷ []), sum_by-cons column_count sign [], blank.one, one)))
    (cases_Bool (sign == 32))
tail-columns sign (c ∷ cs) one =
    omega (
      arith,
      sum_by-cons column_count 32 (32 ∷ sign ∷ 32 ∷ c ∷ cs),
      sum_by-cons column_count 32 (sign ∷ 32 ∷ c ∷ cs),
      sum_by-cons column_count sign (32 ∷ c ∷ cs),
      sum_by-cons column_count 32 (c ∷ cs),
      blank.one,
      one,
    )

pub line-fits : (width : ℕ) (front : List ℕ) (sign : ℕ) (text : List ℕ) → IsFront front → IsSign sign → IsFine text → columns_of text ≤ width - 10 → 13 ≤ width
    → columns_of (chars (line_of front sign text)) ≤ width
line-fits width front sign text six is fine fits wide =
    let same : chars (line_of front sign text) ≡ front ++ tail_of sign text = chars-encodes _ (line-fine front sign text six is.quiet fine).are in
    omega (arith, ap columns_of same, sum_by-append column_count front (tail_of sign text), six.columns, tail-columns sign text is.one, fits, wide)

pub line-begins_with_bar : (text : List ℕ) → BeginsWithBar (line_of (replicate 6 32) 0x2502 text)
unfolding encode_utf8
line-begins_with_bar [] = record { rest = []; is = refl }
line-begins_with_bar (c ∷ cs) = record { rest = 32 ∷ encodes (c ∷ cs); is = refl }

pub line-begins_with_time : (blanks digit : ℕ) (rest : List ℕ) (sign : ℕ) (text : List ℕ) → digit < 10 → BeginsWithTime (line_of (replicate blanks 32 ++ (48 + digit) ∷ rest) sign text)
line-begins_with_time blanks digit rest sign text small =
    let tail = tail_of sign text in
    let ascii : encode (48 + digit) ≡ (48 + digit) ∷ [] = encode_ascii (48 + digit) (omega arith) in
    record {
      blanks = blanks;
      digit = digit;
      rest = encodes (rest ++ tail);
      is_digit = small;
      is = ap encodes (append_assoc (replicate blanks 32) ((48 + digit) ∷ rest) tail) ∙ encodes-append (replicate blanks 32) ((48 + digit) ∷ (rest ++ tail))
          ∙ ap (λ t. t ++ encodes ((48 + digit) ∷ (rest ++ tail))) (encodes-blanks blanks) ∙ ap (λ t. replicate blanks 32 ++ (t ++ encodes (rest ++ tail))) ascii;
    }
