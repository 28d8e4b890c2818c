-- How large a panel is, and how old what it shows.
use Rattle.std.specs.Prelude.{ℕ, ℤ, ◌-◌, ◌/◌, ◌&&◌, Bool, Option, None, Some, max, min, nat_le}
use Rattle.std.specs.Int.{int_gap}
use Rattle.stream_watch.specs.Counts.{plus}
use Rattle.stream_panel.specs.declared.size.Size.{Size}
use Rattle.stream_panel.specs.declared.view.View.{View}

-- a terminal has room for a panel
abbrev pub has_room : Size → Bool
has_room size = nat_le 40 size.columns && nat_le 8 size.rows

-- how many lines a panel has at most
abbrev pub most_lines : Size → ℕ
most_lines size = max 3 (min (size.rows / 2) 12)

-- the columns, within a limit where there is one
abbrev pub limited : (limit : Option ℕ) → (columns : ℕ) → ℕ
limited None columns = columns
limited (Some limit) columns = min limit columns

-- how many columns a line has at most
abbrev pub line_columns : View → ℕ
line_columns view = limited view.width (min view.size.columns 120) - 1

-- How many microseconds ago a moment was. The greatest moment was read `since` microseconds ago.
abbrev pub age : (since : ℕ) → (begin now : ℤ) → ℕ
age since begin now = plus (int_gap begin now) since
