-- Fitting and padding: texts in a limited number of columns.
use Rattle.std.specs.Prelude.{◌+◌, ◌-◌, ◌*◌, ◌/◌, ◌++◌, ◌∷◌, ◌==◌, [], ℕ, List, Bool, if◌then◌else◌, nat_le, nat_lt, replicate}
use Rattle.std.specs.List.{list_all}
use Rattle.term_text.specs.Columns.{column_count, columns_of}

-- The characters, but at most four zero-width ones in a row. `marks` of them come before the list.
abbrev pub few_marks : ℕ → List ℕ → List ℕ
few_marks marks [] = []
few_marks marks (character ∷ characters) =
    if nat_lt 0 (column_count character) then character ∷ few_marks 0 characters
    else if nat_le 4 marks then few_marks marks characters
    else character ∷ few_marks (marks + 1) characters

-- the longest front that fits into `columns`
abbrev pub front_within : (columns : ℕ) → List ℕ → List ℕ
front_within columns [] = []
front_within columns (character ∷ characters) =
    if nat_le (column_count character) columns then character ∷ front_within (columns - column_count character) characters else []

-- the longest end that fits into `columns`
abbrev pub back_within : (columns : ℕ) → List ℕ → List ℕ
back_within columns [] = []
back_within columns (character ∷ characters) =
    if nat_le (columns_of (character ∷ characters)) columns then character ∷ characters else back_within columns characters

-- The start of the text in two fifths of `columns`, then `…`, then its end in the columns that are
-- left.
abbrev pub cut_short : (columns : ℕ) → List ℕ → List ℕ
cut_short columns text =
    front_within (columns * 2 / 5) text ++ 8230 ∷ back_within (columns - columns_of (front_within (columns * 2 / 5) text)) text

-- The text with few zero-width marks where it fits into `columns`; else its start and its end
-- around `…`.
unfoldable pub fitted : (columns : ℕ) → List ℕ → List ℕ
fitted columns text =
    if nat_le (columns_of (few_marks 0 text)) columns then few_marks 0 text else cut_short (columns - 1) (few_marks 0 text)

-- ---- blanks

abbrev pub is_blank : ℕ → Bool
is_blank character = character == 32

-- the text without blanks at its end
abbrev pub without_blanks : List ℕ → List ℕ
without_blanks [] = []
without_blanks (character ∷ characters) =
    if list_all is_blank (character ∷ characters) then [] else character ∷ without_blanks characters

-- the text padded with blanks to `columns`, at the left or at the right
abbrev pub at_left : (columns : ℕ) → List ℕ → List ℕ
at_left columns text = text ++ replicate (columns - columns_of text) 32

abbrev pub at_right : (columns : ℕ) → List ℕ → List ℕ
at_right columns text = replicate (columns - columns_of text) 32 ++ text
