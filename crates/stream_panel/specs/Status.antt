-- The first line of a panel: how far the apply is.
use Rattle.std.specs.Prelude.{ℕ, ◌+◌, ◌-◌, ◌∷◌, ◌++◌, ◌&&◌, [], Bool, List, Some, codes, if◌then◌else◌, min, nat_le, nat_lt}
use Rattle.term_text.specs.Columns.{columns_of}
use Rattle.term_text.specs.Fitted.{shown_characters}
use Rattle.term_text.specs.Fitting.{fitted}
use Rattle.term_text.specs.declared.rendition.Rendition.TheVariants as rendition
use Rattle.term_words.specs.Words.{grouped}
use Rattle.stream_watch.specs.Progress.{state_words}
use Rattle.stream_watch.specs.State.{State}
use Rattle.stream_watch.specs.Steps.{changes_in}
use Rattle.stream_watch.specs.declared.counts.Counts.{Counts}
use Rattle.stream_panel.specs.Bar.{bar}
use Rattle.stream_panel.specs.Sizes.{age, line_columns}
use Rattle.stream_panel.specs.Stretches.{Stretch, front, plain, rendered}
use Rattle.stream_panel.specs.declared.view.View.{View}

-- ---- words

-- how many planned changes neither ended nor run
abbrev pub left_of : Counts → (running : ℕ) → ℕ
left_of counts running = counts.planned - counts.done - counts.failed - running

abbrev pub left_words : Counts → (running : ℕ) → List ℕ
left_words counts running =
    if nat_lt 0 counts.planned then codes ", " ++ grouped (left_of counts running) ++ codes " left" else []

-- how many changes are done, failed, under way and left
unfoldable pub status_words : (is_waiting : Bool) → State → List ℕ
status_words is_waiting state =
    if is_waiting then codes "waiting for the first line"
    else state_words state ++ left_words state.counts (changes_in state.steps)

-- ---- the line

-- how many cells a bar has at most beside a status, in a room of so many columns
abbrev pub bar_cells : (room : ℕ) → (status : List ℕ) → ℕ
bar_cells room status = min 20 (room - 1 - columns_of status)

-- changes are planned, and there is room for eight cells
abbrev pub has_bar : Counts → (cells : ℕ) → Bool
has_bar counts cells = nat_lt 0 counts.planned && nat_le 8 cells

-- the status in so many columns
abbrev pub bold_within : (columns : ℕ) → (status : List ℕ) → List Stretch
bold_within columns status = rendered (Some rendition.Bold) (fitted columns status)

-- a bar of so many cells, and the status in the columns that are left
abbrev pub bar_and_status : Counts → (running room cells : ℕ) → (status : List ℕ) → List Stretch
bar_and_status counts running room cells status =
    bar counts running cells ++ plain (32 ∷ []) ++ bold_within (room - (cells + 1)) status

-- the status, and a bar before it where there is room
unfoldable pub status_part : Counts → (running room : ℕ) → (status : List ℕ) → List Stretch
status_part counts running room status =
    if has_bar counts (bar_cells room status) then bar_and_status counts running room (bar_cells room status) status
    else bold_within room status

-- the time since the first message, and how far the apply is
unfoldable pub status_line : View → State → List Stretch
status_line view state =
    front (Some rendition.Dim) (age view.since state.clock.first state.clock.now)
    ++ status_part state.counts (changes_in state.steps) (line_columns view - 8) (shown_characters (status_words view.is_waiting state))
