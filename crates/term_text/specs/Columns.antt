-- How many columns of a terminal a text takes.
use Rattle.std.specs.Prelude.{ℕ, List, Option, unwrap_or, false}
use Rattle.std.specs.List.{sum_by}
use Rattle.unicode_width.specs.Width.{char_width}

-- The columns of a character: none for a control, 0 for a character that joins the one before it.
abbrev pub width_of : ℕ → Option ℕ
width_of character = char_width false character

-- The columns of a character, with 0 for a control too.
abbrev pub column_count : ℕ → ℕ
column_count character = unwrap_or (width_of character) 0

-- The sum of the columns of all characters.
abbrev pub columns_of : List ℕ → ℕ
columns_of characters = sum_by column_count characters
