-- What of a panel is drawn, and how many columns its lines have.
use Rattle.std.specs.Prelude.{◌≡◌, ◌∷◌, ◌++◌, [], ℕ, Bool, List, map, min, true}
use Rattle.term_words.specs.MessageTexts.{HasText, is_whole_text, text_bytes}
use Rattle.stream_watch.specs.Counts.{plus}
use Rattle.stream_panel.specs.Stretches.{Stretch, bytes_of, columns_in, panel_bytes}
use Rattle.stream_panel.specs.declared.canvas.Canvas.{Canvas}

-- nothing is drawn
pub record IsBlank (canvas : Canvas) : Type 0 where
  pub text : HasText canvas.text []
  pub widths : canvas.widths.items ≡ []
  pub columns : canvas.columns ≡ 0

-- ---- the line at hand

pub record Drawn (before after : Canvas) (bytes : List ℕ) (count : ℕ) : Type 0 where
  pub whole : is_whole_text before.text ≡ true
  pub text : text_bytes after.text ≡ text_bytes before.text ++ bytes
  pub widths : after.widths.items ≡ before.widths.items
  pub columns : after.columns ≡ plus before.columns count

-- unless memory was refused, the stretches were added to the line at hand
abbrev pub Draws : (before after : Canvas) → (has_colour : Bool) → List Stretch → Type 0
Draws before after has_colour line =
    is_whole_text after.text ≡ true → Drawn before after (bytes_of has_colour line) (columns_in line)

pub record Ended (before after : Canvas) : Type 0 where
  pub whole : is_whole_text before.text ≡ true
  pub text : text_bytes after.text ≡ text_bytes before.text ++ 10 ∷ []
  pub widths : after.widths.items ≡ before.widths.items ++ before.columns ∷ []
  pub columns : after.columns ≡ 0

-- unless memory was refused, the line at hand ended
abbrev pub EndsLine : (before after : Canvas) → Type 0
EndsLine before after = is_whole_text after.text ≡ true → Ended before after

-- ---- lines

-- how many columns a line has, as far as a number of 64 bits goes
abbrev pub width_in : List Stretch → ℕ
width_in line = min (columns_in line) 18446744073709551615

pub record DrawnLines (before after : Canvas) (has_colour : Bool) (lines : List (List Stretch)) : Type 0 where
  pub whole : is_whole_text before.text ≡ true
  pub text : text_bytes after.text ≡ text_bytes before.text ++ panel_bytes has_colour lines
  pub widths : before.columns ≡ 0 → after.widths.items ≡ before.widths.items ++ map width_in lines
  pub columns : before.columns ≡ 0 → after.columns ≡ 0

-- unless memory was refused, the lines were added, where no line had begun
abbrev pub DrawsLines : (before after : Canvas) → (has_colour : Bool) → (lines : List (List Stretch)) → Type 0
DrawsLines before after has_colour lines = is_whole_text after.text ≡ true → DrawnLines before after has_colour lines
