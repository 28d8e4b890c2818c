-- What is told of a line and of lines, in rows.
use Rattle.std.specs.Prelude.{◌≡◌, ℕ, List, [], ◌∷◌, ◌+◌, ◌++◌, ◌==◌, ◌&&◌, Bool, true, false, Option, Some, None, if◌then◌else◌, is_some}
use Rattle.std.specs.List.{count_by, filter, flat_map}
use Rattle.serde_json.specs.Data.{Data}
use Rattle.stream_watch.specs.Clock.{elapsed}
use Rattle.stream_watch.specs.Progress.{is_due, under_way_words}
use Rattle.stream_watch.specs.Reading.{message_of}
use Rattle.stream_watch.specs.RefreshRow.{refreshed_words}
use Rattle.stream_watch.specs.State.{State, Told}
use Rattle.stream_watch.specs.Telling.{at_moment, moment_of, text_told, told_at}
use Rattle.stream_watch.specs.declared.looks.Looks.{Looks}
use Rattle.stream_watch.specs.declared.mark.Mark.{Mark}
use Rattle.stream_watch.specs.declared.mark.Mark.TheVariants as mark
use Rattle.laws_watch.specs.Asked.{Asked, asked_by}
use Rattle.laws_watch.specs.Rows.{AreRows, Row, rows_bytes, timed, timed_marks}

-- the mark of what is under way
abbrev pub is_under_way : Mark → Bool
is_under_way mark.UnderWay = true
is_under_way _ = false

-- ---- the row before and the row after

-- one row for the refreshes that ended since they were last reported, if there are some
abbrev pub report_rows : (elapsed : ℕ) → State → List Row
report_rows elapsed state =
    if state.refreshes.unreported == 0 then [] else timed elapsed mark.Done (refreshed_words state.refreshes) ∷ []

abbrev pub rows_before : (reports : Bool) → (elapsed : ℕ) → State → List Row
rows_before reports elapsed state = if reports then report_rows elapsed state else []

-- one row of what is under way
abbrev pub rows_after : (tells : Bool) → State → List Row
rows_after tells state =
    if tells then timed (elapsed state.clock) mark.UnderWay (under_way_words state) ∷ [] else []

abbrev pub under_way_after : Looks → State → (find : Bool) → (line : List ℕ) → (message : Option Data) → Bool
under_way_after looks state find line None = false
under_way_after looks state find line (Some tree) =
    is_some (moment_of tree) && is_due (told_at looks (at_moment (moment_of tree) state) find line tree (moment_of tree)).state

-- After this line, what is under way is told: the line has a time, and a mark of the time has
-- passed.
abbrev pub tells_under_way : Looks → State → (find : Bool) → (line : List ℕ) → Bool
tells_under_way looks state find line = under_way_after looks state find line (message_of find line)

-- ---- a line

-- What is told of a line that asks for this: the refreshes, its rows, and what is under way.
pub record IsToldInRows (looks : Looks) (before : State) (asked : Asked) (tells : Bool) (told : Told) : Type 0 where
  -- the rows that the line asks for
  pub own : List Row
  pub are_asked : AreRows (elapsed told.state.clock) asked.marks own
  pub bytes : told.bytes
      ≡ rows_bytes looks (rows_before asked.reports (elapsed told.state.clock) before ++ own ++ rows_after tells told.state)

-- ---- lines

-- the marks that the lines ask for, in their order
abbrev pub marks_asked : (find : Bool) → (lines : List (List ℕ)) → List Mark
marks_asked find lines = flat_map (λ line. (asked_by find line).marks) lines

-- after how many of the lines what is under way is told
abbrev pub under_way_rows : Looks → (find : Bool) → (lines : List (List ℕ)) → State → ℕ
under_way_rows looks find [] state = 0
under_way_rows looks find (line ∷ lines) state =
    (if tells_under_way looks state find line then 1 else 0)
    + under_way_rows looks find lines (text_told looks state find line).state

-- The marks of the rows with a time of one line: of refreshes, of what it asks for, and of what is
-- under way.
abbrev pub marks_before : (reports : Bool) → State → List Mark
marks_before reports state =
    if reports then (if state.refreshes.unreported == 0 then [] else mark.Done ∷ []) else []

abbrev pub marks_after : (tells : Bool) → List Mark
marks_after tells = if tells then mark.UnderWay ∷ [] else []

abbrev pub line_marks : Looks → State → (find : Bool) → (line : List ℕ) → List Mark
line_marks looks state find line =
    marks_before (asked_by find line).reports state ++ (asked_by find line).marks
    ++ marks_after (tells_under_way looks state find line)

-- the marks of the rows with a time of these lines
abbrev pub lines_marks : Looks → (find : Bool) → (lines : List (List ℕ)) → State → List Mark
lines_marks looks find [] state = []
lines_marks looks find (line ∷ lines) state =
    line_marks looks state find line ++ lines_marks looks find lines (text_told looks state find line).state

-- What is told of lines, in rows.
pub record AreToldInRows (looks : Looks) (find : Bool) (lines : List (List ℕ)) (before : State) (told : Told) : Type 0 where
  pub rows : List Row
  pub bytes : told.bytes ≡ rows_bytes looks rows
  pub marks : timed_marks rows ≡ lines_marks looks find lines before
  -- Without the rows about refreshes and about what is under way, the rows with a time have the
  -- marks that the lines ask for, in their order.
  pub asked : (chosen : Mark → Bool) → chosen mark.Done ≡ false → chosen mark.UnderWay ≡ false
      → filter chosen (timed_marks rows) ≡ filter chosen (marks_asked find lines)
  -- as many rows are about what is under way
  pub under_way : count_by is_under_way (timed_marks rows) ≡ under_way_rows looks find lines before

-- ---- states

-- The states differ in nothing but the time, and when the steps under way were last told.
pub record DifferInTime (before after : State) : Type 0 where
  pub steps : after.steps ≡ before.steps
  pub counts : after.counts ≡ before.counts
  pub refreshes : after.refreshes ≡ before.refreshes
  pub lengths : after.lengths ≡ before.lengths
