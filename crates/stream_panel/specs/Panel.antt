-- A panel: how far the apply is, and a row for each open step, as far as there is room.
use Rattle.std.specs.Prelude.{ℕ, ◌-◌, ◌∷◌, ◌++◌, List, if◌then◌else◌, length, map, nat_lt, take}
use Rattle.stream_watch.specs.State.{State}
use Rattle.stream_panel.specs.Rows.{more_lines, row_line}
use Rattle.stream_panel.specs.Sizes.{most_lines}
use Rattle.stream_panel.specs.Status.{status_line}
use Rattle.stream_panel.specs.Stretches.{Stretch}
use Rattle.stream_panel.specs.declared.size.Size.{Size}
use Rattle.stream_panel.specs.declared.view.View.{View}

-- How many of so many steps have a row: all of them, if there is room. Else one line is left to say
-- how many have none.
abbrev pub shown_rows : Size → (steps : ℕ) → ℕ
shown_rows size steps = if nat_lt steps (most_lines size) then steps else most_lines size - 2

-- the rows of the steps that began first
abbrev pub row_lines : View → State → List (List Stretch)
row_lines view state = map (row_line view state) (take (shown_rows view.size (length state.steps)) state.steps)

unfoldable pub panel_lines : View → State → List (List Stretch)
panel_lines view state =
    status_line view state ∷ row_lines view state
    ++ more_lines view (length state.steps - shown_rows view.size (length state.steps))
