-- Lines of a panel, as stretches of characters that are rendered alike.
use Rattle.std.specs.Prelude.{ℕ, ◌∷◌, ◌++◌, [], Bool, List, None, Option, Some, codes, encode_utf8_all, if◌then◌else◌, replicate}
use Rattle.std.specs.List.{flat_map, sum_by}
use Rattle.term_text.specs.Columns.{columns_of}
use Rattle.term_text.specs.Fitted.{shown_characters}
use Rattle.term_text.specs.Fitting.{fitted}
use Rattle.term_text.specs.Renditions.{rendition_codes, sequence}
use Rattle.term_text.specs.declared.rendition.Rendition.{Rendition}
use Rattle.term_words.specs.MessageTexts.{right_text}
use Rattle.stream_watch.specs.Printed.{time_text}

pub record Stretch : Type 0 where
  pub rendition : Option Rendition
  pub characters : List ℕ

-- the characters as one stretch, or as none where there are no characters
abbrev pub rendered : Option Rendition → (characters : List ℕ) → List Stretch
rendered rendition [] = []
rendered rendition (character ∷ characters) = record { rendition = rendition; characters = character ∷ characters } ∷ []

abbrev pub plain : (characters : List ℕ) → List Stretch
plain characters = rendered None characters

-- so many times the character
abbrev pub copies : Option Rendition → (character count : ℕ) → List Stretch
copies rendition character count = rendered rendition (replicate count character)

-- words as they are shown, in at most so many columns
abbrev pub within : Option Rendition → (columns : ℕ) → (words : List ℕ) → List Stretch
within rendition columns words = rendered rendition (fitted columns (shown_characters words))

-- the front of a line: a time, right in six columns, and two blanks
unfoldable pub front : Option Rendition → (age : ℕ) → List Stretch
front rendition age = within rendition 6 (right_text 6 (time_text age)) ++ plain (32 ∷ 32 ∷ [])

-- how many columns a line has
abbrev pub columns_in : List Stretch → ℕ
columns_in stretches = sum_by (λ (stretch : Stretch). columns_of stretch.characters) stretches

-- ---- bytes

-- bytes with the sequences of a rendition around them, where there is one and lines have colours
abbrev pub rendered_bytes : (has_colour : Bool) → Option Rendition → (bytes : List ℕ) → List ℕ
rendered_bytes has_colour None bytes = bytes
rendered_bytes has_colour (Some rendition) bytes =
    if has_colour then sequence (rendition_codes rendition) ++ bytes ++ sequence (codes "0") else bytes

abbrev pub stretch_bytes : (has_colour : Bool) → Stretch → List ℕ
stretch_bytes has_colour stretch = rendered_bytes has_colour stretch.rendition (encode_utf8_all stretch.characters)

unfoldable pub bytes_of : (has_colour : Bool) → List Stretch → List ℕ
bytes_of has_colour stretches = flat_map (stretch_bytes has_colour) stretches

-- a line and its line feed
abbrev pub line_bytes : (has_colour : Bool) → List Stretch → List ℕ
line_bytes has_colour stretches = bytes_of has_colour stretches ++ 10 ∷ []

abbrev pub panel_bytes : (has_colour : Bool) → List (List Stretch) → List ℕ
panel_bytes has_colour lines = flat_map (line_bytes has_colour) lines
