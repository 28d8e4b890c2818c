-- A terminal of rows, and what a frame does to it.
use Rattle.std.specs.Prelude.{ℕ, ◌-◌, ◌∷◌, ◌++◌, [], List, codes, drop, length, map, replicate, suc, take, zero}
use Rattle.std.specs.List.{flat_map}
use Rattle.term_text.specs.Columns.{column_count}
use Rattle.stream_panel.specs.Frames.{control, line_rows, up_bytes}
use Rattle.stream_panel.specs.Stretches.{Stretch}

-- The rows above the cursor, and the rows from there on. The cursor stands at the start of a row.
pub record Terminal : Type 0 where
  pub above : List (List ℕ)
  pub below : List (List ℕ)

-- rows, with the cursor below them
abbrev pub rows_of : List (List ℕ) → Terminal
rows_of rows = record { above = rows; below = [] }

-- what a terminal is told: by a carriage return, by sequences, and by lines with a line feed
pub data Command : Type 0 where
  to_start : Command
  go_up : ℕ → Command
  erase_below : Command
  write_line : List ℕ → Command
  keep_lines : Command
  break_lines : Command

abbrev pub command_bytes : Command → List ℕ
command_bytes to_start = 13 ∷ []
command_bytes (go_up rows) = up_bytes rows
command_bytes erase_below = control (codes "J")
command_bytes (write_line line) = line ++ 10 ∷ []
command_bytes keep_lines = control (codes "?7l")
command_bytes break_lines = control (codes "?7h")

-- The terminal after a command. A line takes one row: that of a panel is not broken, and a told one
-- is as wide as the terminal at most.
abbrev pub after : Command → Terminal → Terminal
after to_start terminal = terminal
after (go_up rows) terminal = record {
  above = take (length terminal.above - rows) terminal.above;
  below = drop (length terminal.above - rows) terminal.above ++ terminal.below;
}
after erase_below terminal = rows_of terminal.above
after (write_line line) terminal = record { above = terminal.above ++ line ∷ []; below = drop 1 terminal.below }
after keep_lines terminal = terminal
after break_lines terminal = terminal

abbrev pub after_all : List Command → Terminal → Terminal
after_all [] terminal = terminal
after_all (command ∷ commands) terminal = after_all commands (after command terminal)

-- ---- a terminal that becomes narrower

-- the cells that characters fill: each as many as it has columns
abbrev pub cells_of_text : (characters : List ℕ) → List ℕ
cells_of_text characters = flat_map (λ character. replicate (column_count character) character) characters

-- the cells that a line fills
abbrev pub cells_of : List Stretch → List ℕ
cells_of stretches = flat_map (λ (stretch : Stretch). cells_of_text stretch.characters) stretches

-- so many rows of so many cells
abbrev pub cut_rows : (count columns : ℕ) → (cells : List ℕ) → List (List ℕ)
cut_rows zero columns cells = []
cut_rows (suc count) columns cells = take columns cells ∷ cut_rows count columns (drop columns cells)

-- the rows into which a terminal of so many columns breaks a row
abbrev pub broken_row : (columns : ℕ) → (cells : List ℕ) → List (List ℕ)
broken_row columns cells = cut_rows (line_rows columns (length cells)) columns cells

-- the rows of a panel in a terminal of so many columns
abbrev pub standing_rows : (columns : ℕ) → (lines : List (List Stretch)) → List (List ℕ)
standing_rows columns lines = flat_map (λ line. broken_row columns (cells_of line)) lines

-- ---- a frame

abbrev pub panel_commands : (panel : List (List ℕ)) → List Command
panel_commands [] = []
panel_commands (line ∷ lines) = keep_lines ∷ map write_line (line ∷ lines) ++ break_lines ∷ []

abbrev pub frame_commands : (standing : ℕ) → (told panel : List (List ℕ)) → List Command
frame_commands standing told panel = to_start ∷ go_up standing ∷ erase_below ∷ map write_line told ++ panel_commands panel

-- lines, each with a line feed
abbrev pub lines_bytes : List (List ℕ) → List ℕ
lines_bytes lines = flat_map (λ line. line ++ 10 ∷ []) lines
