-- The output in rows.
use Rattle.std.specs.Prelude.{◌≡◌, ℕ, List, [], ◌∷◌, ◌++◌, ◌&&◌, All, Bool, true, false, Option, Some, None, filter_map, if◌then◌else◌}
use Rattle.std.specs.List.{flat_map}
use Rattle.stream_watch.specs.Marks.{is_in_panel}
use Rattle.stream_watch.specs.Printed.{further_bytes, line_bytes}
use Rattle.stream_watch.specs.declared.looks.Looks.{Looks}
use Rattle.stream_watch.specs.declared.mark.Mark.{Mark}

-- A row has a time, a mark and a text, or it belongs to the row before it.
pub data Row : Type 0 where
  timed : (elapsed : ℕ) → (mark : Mark) → (text : List ℕ) → Row
  further : (mark : Mark) → (text : List ℕ) → Row

-- The bytes of a row. A panel shows begins and what is under way, so such a row has no bytes there.
abbrev pub row_bytes : Looks → Row → List ℕ
row_bytes looks (timed elapsed mark text) =
    if looks.has_panel && is_in_panel mark then [] else line_bytes looks.width looks.has_colour elapsed mark text
row_bytes looks (further mark text) = further_bytes looks.width looks.has_colour mark text

abbrev pub rows_bytes : Looks → List Row → List ℕ
rows_bytes looks rows = flat_map (row_bytes looks) rows

-- the bytes end a line, so that nothing stands in the same line after them
abbrev pub EndsLine : (bytes : List ℕ) → Type 0
EndsLine bytes = (front : List ℕ) × (bytes ≡ front ++ 10 ∷ [])

-- ---- rows with a time

abbrev pub timed_mark : Row → Option Mark
timed_mark (timed elapsed mark text) = Some mark
timed_mark (further mark text) = None

-- the marks of the rows with a time, in their order
abbrev pub timed_marks : List Row → List Mark
timed_marks rows = filter_map timed_mark rows

-- each row has a row with a time before it, or is one
abbrev pub starts_timed : List Row → Bool
starts_timed [] = true
starts_timed (timed elapsed mark text ∷ rows) = true
starts_timed (further mark text ∷ rows) = false

-- the row has no other time
abbrev pub IsAt : (elapsed : ℕ) → Row → Type 0
IsAt elapsed (timed time mark text) = time ≡ elapsed
IsAt elapsed (further mark text) = Unit {0}

-- one row with a time and this mark, with rows that belong to it alone
pub record IsOneRow (elapsed : ℕ) (mark : Mark) (all : List Row) : Type 0 where
  pub text : List ℕ
  pub rest : List Row
  pub rows : all ≡ timed elapsed mark text ∷ rest
  pub rest_is_further : timed_marks rest ≡ []

-- These are rows at this time. Those with a time have these marks, in this order.
pub record AreRows (elapsed : ℕ) (asked : List Mark) (rows : List Row) : Type 0 where
  pub marks : timed_marks rows ≡ asked
  pub start : starts_timed rows ≡ true
  pub times : All (IsAt elapsed) rows
