-- The row of a step in a text: its action, address, length and bar.
use Rattle.std.specs.Prelude.{◌≡◌, ◌+◌, ◌-◌, ◌*◌, ◌/◌, ◌++◌, ◌∷◌, ◌&&◌, ◌⊎◌, [], ℕ, List, All, Bool, None, Some, drop, encode_utf8, if◌then◌else◌, is_none, is_some, length, map, max, min, nat_le, nat_lt, not, take}
use Rattle.std.specs.List.{range_with_len, slice_get}
use Rattle.std.specs.Int.{int_gap}
use Rattle.std.specs.Option.{option_map_or}
use Rattle.stream_timeline.specs.Bars.{end_half, first_half}
use Rattle.stream_timeline.specs.Intervals.{length_of, span_of, until_of}
use Rattle.stream_timeline.specs.Steps.{StepRead}
use Rattle.stream_timeline.specs.declared.reading.time_range.TimeRange.{TimeRange}
use Rattle.term_text.specs.Fitting.{at_left, at_right, fitted, without_blanks}
use Rattle.stream_view.specs.Columns.{column_text, widest}
use Rattle.stream_view.specs.Kinds.{kind_of, kind_rendition}
use Rattle.stream_view.specs.Lines.{with_character, with_characters, with_styled}
use Rattle.term_text.specs.Fitted.{shown_characters}
use Rattle.term_words.specs.Words.{duration_words}
use Rattle.stream_view.specs.declared.column.Column.TheVariants as column
use Rattle.stream_view.specs.declared.picture.Picture.{Picture}
use Rattle.stream_view.specs.declared.text.rendition.Rendition.{Rendition}
use Rattle.stream_view.specs.declared.text.rendition.Rendition.TheVariants as rendition
use Rattle.stream_view.specs.declared.text.line_piece.LinePiece.{LinePiece}

-- ---- the columns

-- the widths of the action, the address and the bar
pub record Layout : Type 0 where
  pub action : ℕ
  pub label : ℕ
  pub cells : ℕ

-- The action has at most 8 columns, the address at least 7 and at most eleven twentieths of the
-- others. Twelve columns are for blanks, a mark and a duration.
abbrev pub with_label : (width action label : ℕ) → Layout
with_label width action label =
    record { action = action; label = label; cells = max (min (width - (action + 12) - label) 400) 1 }

abbrev pub with_action : (width action address : ℕ) → Layout
with_action width action address = with_label width action (min (max 7 address) ((width - (action + 12)) * 11 / 20))

-- the columns of a line of this width, for the rows of the picture
unfoldable pub layout_of : (width : ℕ) → Picture → Layout
layout_of width picture =
    with_action width (min (widest (column_text column.Action) picture.timeline.now.steps picture.rows.places.items) 8)
    (widest (column_text column.Address) picture.timeline.now.steps picture.rows.places.items)

-- ---- before the bar

-- red if the step failed, else the colour of its kind
abbrev pub rendition_of : StepRead → Rendition
rendition_of step = if step.failed then rendition.Red else kind_rendition (kind_of step.action)

-- `✗` if the step failed, `…` if it has no end
abbrev pub mark_of : StepRead → ℕ
mark_of step = if step.failed then 10007 else if is_none step.end then 8230 else 32

-- before the length of a step without an end: `≤` if the step failed, else `≥`
abbrev pub bound_words : StepRead → List ℕ
bound_words step = if is_some step.end then [] else if step.failed then encode_utf8 8804 else encode_utf8 8805

-- the length of the step, with the sign of a bound
abbrev pub length_words : TimeRange → StepRead → List ℕ
length_words time_range step = bound_words step ++ duration_words (length_of time_range step)

-- the action in its colour, and the address
abbrev pub with_names : (width : ℕ) → Layout → StepRead → List LinePiece → List LinePiece
with_names width layout step pieces =
    with_characters width
    (with_character width (with_styled width pieces (Some (rendition_of step)) (at_left layout.action (fitted layout.action (shown_characters step.action)))) 32)
    (at_left layout.label (fitted layout.label (shown_characters step.address)))

-- the mark and the length of the step
abbrev pub length_characters : TimeRange → StepRead → List ℕ
length_characters time_range step = mark_of step ∷ at_right 8 (fitted 8 (shown_characters (length_words time_range step)))

-- the mark and the length, red if the step failed
abbrev pub with_length : (width : ℕ) → TimeRange → StepRead → List LinePiece → List LinePiece
with_length width time_range step pieces =
    with_styled width pieces (if step.failed then Some rendition.Red else None)
    (length_characters time_range step)

-- ---- the bar

abbrev pub covers : (first end half : ℕ) → Bool
covers first end half = nat_le first half && nat_lt half end

-- The character in a cell that the bar covers at least half of: `✗` in the last cell of a failed
-- step, `░` if the step has no end. Else `▄`, `▖` or `▗`, by the halves that are covered.
abbrev pub bar_character : (failed ended : Bool) → (first end cell : ℕ) → ℕ
bar_character failed ended first end cell =
    if failed && not (covers first end (2 * cell + 2)) then 10007
    else if not ended then 9617
    else if covers first end (2 * cell) && covers first end (2 * cell + 1) then 9604
    else if covers first end (2 * cell) then 9622
    else 9623

-- the characters of a bar, and the cells that they replace
pub record Bar : Type 0 where
  -- the first cell that the bar covers at least half of, and the cell after the last
  pub first : ℕ
  pub end : ℕ
  pub characters : List ℕ

abbrev pub bar_between : (failed ended : Bool) → (first_half end_half first end : ℕ) → Bar
bar_between failed ended first_half end_half first end =
    record { first = first; end = end; characters = map (bar_character failed ended first_half end_half) (range_with_len first (end - first)) }

abbrev pub bar_over : (failed ended : Bool) → (cells first_half end_half : ℕ) → Bar
bar_over failed ended cells first_half end_half =
    bar_between failed ended first_half end_half (min cells (first_half / 2)) (min cells ((end_half + 1) / 2))

-- the first half that the bar of a step covers, and the half after the last
abbrev pub first_half_of : (cells : ℕ) → TimeRange → StepRead → ℕ
first_half_of cells time_range step = first_half cells (span_of time_range) (int_gap time_range.first step.begin)

abbrev pub end_half_of : (cells : ℕ) → TimeRange → StepRead → ℕ
end_half_of cells time_range step =
    end_half cells (span_of time_range) (int_gap time_range.first step.begin) (int_gap time_range.first (until_of time_range step))

unfoldable pub bar_of : (cells : ℕ) → TimeRange → StepRead → Bar
bar_of cells time_range step =
    bar_over step.failed (is_some step.end) cells (first_half_of cells time_range step) (end_half_of cells time_range step)

-- cells that no bar covers, dim if there are any
abbrev pub with_dim : (width : ℕ) → List LinePiece → List ℕ → List LinePiece
with_dim width pieces [] = pieces
with_dim width pieces (tick ∷ ticks) = with_styled width pieces (Some rendition.Dim) (tick ∷ ticks)

-- the bar in its colour, the ticks before and after it, and no blanks at the end
abbrev pub with_bar : (width : ℕ) → Rendition → (ticks : List ℕ) → Bar → List LinePiece → List LinePiece
with_bar width rendition ticks bar pieces =
    with_dim width (with_styled width (with_dim width pieces (take bar.first ticks)) (Some rendition) bar.characters)
    (without_blanks (drop bar.end ticks))

-- ---- the rows

abbrev pub with_row : (width : ℕ) → Layout → TimeRange → (ticks : List ℕ) → StepRead → List LinePiece → List LinePiece
with_row width layout time_range ticks step pieces =
    with_bar width (rendition_of step) ticks (bar_of layout.cells time_range step)
    (with_character width (with_length width time_range step (with_character width (with_names width layout step pieces) 32)) 32)

-- the row of a step, with these characters in the cells that no bar covers
unfoldable pub row_of : (width : ℕ) → Picture → (ticks : List ℕ) → StepRead → List LinePiece
row_of width picture ticks step = with_row width (layout_of width picture) picture.time_range ticks step []

-- the row of the step at this place
abbrev pub row_at : (width : ℕ) → Picture → (ticks : List ℕ) → (place : ℕ) → List LinePiece
row_at width picture ticks place = option_map_or (row_of width picture ticks) (slice_get picture.timeline.now.steps place) []

abbrev pub rows_of : (width : ℕ) → Picture → (ticks : List ℕ) → List (List LinePiece)
rows_of width picture ticks = map (row_at width picture ticks) picture.rows.places.items

-- `┊` or a blank
abbrev pub IsTick : ℕ → Type 0
IsTick character = (character ≡ 9482) ⊎ (character ≡ 32)

-- there is one character for each cell
pub record AreTicks (layout : Layout) (ticks : List ℕ) : Type 0 where
  pub cells : length ticks ≡ layout.cells
  pub each : All IsTick ticks
