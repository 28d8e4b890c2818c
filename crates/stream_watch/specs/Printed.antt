-- The lines that are printed, as bytes.
use Rattle.std.specs.Prelude.{◌≡◌, ◌∷◌, ◌++◌, ◌-◌, ◌*◌, ◌/◌, ◌==◌, [], ℕ, List, Bool, Option, None, Some, codes, encode_utf8_all, if◌then◌else◌, replicate, true}
use Rattle.std.specs.List.{flat_map}
use Rattle.term_text.specs.Breaking.{broken}
use Rattle.term_text.specs.Fitted.{shown_characters}
use Rattle.term_text.specs.Fitting.{without_blanks}
use Rattle.term_text.specs.Renditions.{rendition_codes, sequence}
use Rattle.term_text.specs.declared.rendition.Rendition.{Rendition}
use Rattle.term_text.specs.declared.rendition.Rendition.TheVariants as rendition
use Rattle.term_words.specs.MessageTexts.{AppendsText, fitted_text, right_text}
use Rattle.term_words.specs.Words.{duration_words}
use Rattle.stream_watch.specs.Marks.{bar_of, sign_of, text_rendition}
use Rattle.stream_watch.specs.declared.mark.Mark.{Mark}
use Rattle.stream_watch.specs.declared.mark.Sign.{Sign}
use Rattle.stream_watch.specs.declared.printer.Printer.{Printer}

-- ---- the time

-- the whole seconds of so many microseconds, in six columns at most
unfoldable pub time_text : (elapsed : ℕ) → List ℕ
time_text elapsed = fitted_text 6 (duration_words (elapsed / 1000000 * 1000000))

-- ---- one line

-- the sequences around a stretch with a rendition
abbrev pub begin_bytes : (has_colour : Bool) → Option Rendition → List ℕ
begin_bytes has_colour None = []
begin_bytes has_colour (Some rendition) = if has_colour then sequence (rendition_codes rendition) else []

abbrev pub end_bytes : (has_colour : Bool) → Option Rendition → List ℕ
end_bytes has_colour None = []
end_bytes has_colour (Some rendition) = if has_colour then sequence (codes "0") else []

-- characters with a rendition or without one
abbrev pub stretch : (has_colour : Bool) → Option Rendition → (characters : List ℕ) → List ℕ
stretch has_colour rendition characters =
    begin_bytes has_colour rendition ++ encode_utf8_all characters ++ end_bytes has_colour rendition

-- the first six columns of a line with a time: the time, right among them
abbrev pub time_front : (has_colour : Bool) (elapsed : ℕ) → List ℕ
time_front has_colour elapsed =
    begin_bytes has_colour (Some rendition.Dim) ++ right_text 6 (time_text elapsed) ++ end_bytes has_colour (Some rendition.Dim)

-- What stands after the first six columns: two blanks, a sign, a blank, the text, and a line feed.
-- Blanks at the end are left out; the text has none there.
abbrev pub behind_front : (has_colour : Bool) → Sign → (text_as : Option Rendition) (text : List ℕ) → List ℕ
behind_front has_colour sign text_as [] =
    if sign.character == 32 then 10 ∷ [] else codes "  " ++ stretch has_colour sign.rendition (sign.character ∷ []) ++ 10 ∷ []
behind_front has_colour sign text_as (character ∷ characters) =
    codes "  " ++ stretch has_colour sign.rendition (sign.character ∷ []) ++ codes " " ++ stretch has_colour text_as (character ∷ characters) ++ 10 ∷ []

-- a line with a time
abbrev pub timed_line : (has_colour : Bool) (elapsed : ℕ) → Mark → (text : List ℕ) → List ℕ
timed_line has_colour elapsed mark text =
    time_front has_colour elapsed ++ behind_front has_colour (sign_of mark) (text_rendition mark) text

-- a line that belongs to the one before it: a bar in place of a sign, and no time
abbrev pub later_line : (has_colour : Bool) → Mark → (text_as : Option Rendition) (text : List ℕ) → List ℕ
later_line has_colour mark text_as text = replicate 6 32 ++ behind_front has_colour (bar_of mark) text_as text

-- ---- a text, which may need several lines

-- The lines of a text: one, or as many as it needs within a width. Ten columns stand before it.
abbrev pub pieces_in : (width : Option ℕ) → (text : List ℕ) → List (List ℕ)
pieces_in None text = without_blanks text ∷ []
pieces_in (Some width) text = broken (width - 10) text

abbrev pub later_lines : (has_colour : Bool) → Mark → (text_as : Option Rendition) → List (List ℕ) → List ℕ
later_lines has_colour mark text_as pieces = flat_map (later_line has_colour mark text_as) pieces

abbrev pub timed_lines : (has_colour : Bool) (elapsed : ℕ) → Mark → List (List ℕ) → List ℕ
timed_lines has_colour elapsed mark [] = []
timed_lines has_colour elapsed mark (piece ∷ pieces) =
    timed_line has_colour elapsed mark piece ++ later_lines has_colour mark (text_rendition mark) pieces

-- a text with a mark and a time
unfoldable pub line_bytes : (width : Option ℕ) (has_colour : Bool) (elapsed : ℕ) → Mark → (text : List ℕ) → List ℕ
line_bytes width has_colour elapsed mark text = timed_lines has_colour elapsed mark (pieces_in width (shown_characters text))

-- a text that belongs to a line with this mark
unfoldable pub further_bytes : (width : Option ℕ) (has_colour : Bool) → Mark → (text : List ℕ) → List ℕ
further_bytes width has_colour mark text = later_lines has_colour mark None (pieces_in width (shown_characters text))

-- ---- what a printer has

-- unless memory was refused, the printer holds these bytes
abbrev pub HasPrinted : Printer → List ℕ → Type 0
HasPrinted printer bytes = printer.printed.is_whole ≡ true → printer.printed.bytes.items ≡ bytes

-- unless memory was refused, these bytes were printed
pub record Prints (before after : Printer) (bytes : List ℕ) : Type 0 where
  pub width : after.width ≡ before.width
  pub has_colour : after.has_colour ≡ before.has_colour
  pub printed : AppendsText before.printed after.printed bytes
