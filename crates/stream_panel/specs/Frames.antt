-- What is written to a terminal at once: told lines in place of the panel that stands, and a new
-- panel below them.
use Rattle.std.specs.Prelude.{ℕ, ◌∷◌, ◌++◌, [], List, codes, if◌then◌else◌, max, min, nat_lt}
use Rattle.std.specs.Fmt.{decimal}
use Rattle.std.specs.Int.{div_ceil}
use Rattle.std.specs.List.{sum_by}

-- ---- how far a frame goes up

-- How many rows a line takes in a terminal of so many columns. An empty line takes one too.
unfoldable pub line_rows : (columns width : ℕ) → ℕ
line_rows columns width = max (div_ceil width (max columns 1)) 1

-- how many rows lines of these widths take: a terminal that was made narrower has broken them
abbrev pub rows_taken : (columns : ℕ) → (widths : List ℕ) → ℕ
rows_taken columns widths = sum_by (line_rows columns) widths

-- the same, as far as a number of 64 bits goes
abbrev pub rows_up : (columns : ℕ) → (widths : List ℕ) → ℕ
rows_up columns widths = min (rows_taken columns widths) 18446744073709551615

-- ---- bytes

-- ESC, `[` and the words (ECMA-48, section 5.4)
abbrev pub control : List ℕ → List ℕ
control words = 27 ∷ 91 ∷ words

-- the cursor goes up so many rows (ECMA-48, section 8.3.22)
abbrev pub up_bytes : ℕ → List ℕ
up_bytes rows = if nat_lt 0 rows then control (decimal rows ++ codes "A") else []

-- DEC's mode 7, in which a terminal breaks lines, is off for these bytes
abbrev pub between_modes : List ℕ → List ℕ
between_modes bytes = control (codes "?7l") ++ bytes ++ control (codes "?7h")

-- lines that the terminal does not break where they are too wide
abbrev pub unbroken_bytes : (lines : List ℕ) → List ℕ
unbroken_bytes [] = []
unbroken_bytes (byte ∷ bytes) = between_modes (byte ∷ bytes)

-- A panel of `standing` rows goes, the told lines stand in its place, and a new panel below them.
unfoldable pub frame_bytes : (standing : ℕ) → (told panel : List ℕ) → List ℕ
frame_bytes standing told panel = codes "\r" ++ up_bytes standing ++ control (codes "J") ++ told ++ unbroken_bytes panel
