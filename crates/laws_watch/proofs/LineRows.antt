-- A line has the rows that it asks for.
use Rattle.std.proofs.Common.{◌≡◌, ◌∙◌, ℕ, ℤ, List, [], ◌∷◌, ◌++◌, ◌&&◌, Bool, true, false, Option, None, Some, ap, append-nil, if◌then◌else◌, is_some, refl, subst, sym, unwrap_or}
use Rattle.std.specs.Prelude.{codes}
use Rattle.serde_json.specs.Data.{Data}
use Rattle.apply_json.specs.Tree.{is_empty, text_of}
use Rattle.stream_message.specs.Kinds.{kind_named}
use Rattle.term_text.specs.LineTexts.{line_text, text_lines}
use Rattle.stream_watch.specs.Clock.{elapsed}
use Rattle.stream_watch.specs.DiagnosticRow.{text_or_nothing}
use Rattle.stream_watch.specs.Progress.{is_due, marks_at, slow_told, under_way_words}
use Rattle.stream_watch.specs.Reading.{message_of}
use Rattle.stream_watch.specs.State.{State, Told, line_told, nothing}
use Rattle.stream_watch.specs.Telling.{at_moment, kind_told, lines_or_line_told, message_or_line_told, moment_of, passed_told, row_or_text_told, row_told, text_told, told_at, under_way_told_if}
use Rattle.stream_watch.specs.declared.clock.Clock.{Clock}
use Rattle.stream_watch.specs.declared.looks.Looks.{Looks}
use Rattle.stream_watch.specs.declared.refreshes.Refreshes.{Refreshes}
use Rattle.stream_watch.specs.declared.mark.Mark.TheVariants as mark
use Rattle.laws_watch.specs.Asked.{Asked, asked_by, of_kind, of_message, of_message_or_line, of_passed, of_row, of_text, only}
use Rattle.laws_watch.specs.Diagnostics.{IsToldAs}
use Rattle.laws_watch.specs.Rows.{AreRows, Row, row_bytes, rows_bytes, timed}
use Rattle.laws_watch.specs.Told.{IsToldInRows, rows_after, rows_before, tells_under_way, under_way_after}
use Rattle.laws_watch.proofs.Agreement.{agree_and_then, agree_or}
use Rattle.laws_watch.proofs.KindRows.{kind_rows}
use Rattle.laws_watch.proofs.Own.{KeepsTime, OwnRows, own_line, own_nothing, own_only, same_time}
use Rattle.laws_watch.proofs.RowBytes.{line_and_further, line_row, rows_append}

-- ---- texts

passed_if : (looks : Looks) (state : State) (blank : Bool) (words : List ℕ)
    → OwnRows looks state (only (if blank then [] else mark.Passed ∷ [])) (if blank then nothing state else line_told looks state mark.Passed words)
passed_if looks state true words = own_nothing looks state state (same_time state)
passed_if looks state false words = own_line looks state state mark.Passed words (same_time state)

pub passed_rows : (looks : Looks) (state : State) (line : List ℕ) → OwnRows looks state (of_passed line) (passed_told looks line state)
passed_rows looks state line = passed_if looks state (is_empty (line_text line)) _

text_rows : (looks : Looks) (state : State) (line : List ℕ) (lines : List (List ℕ))
    → OwnRows looks state (of_text line lines) (lines_or_line_told looks line lines state)
text_rows looks state line [] = passed_rows looks state line
text_rows looks state line (first ∷ rest) =
    own_only looks state state (mark.Other ∷ []) _ (same_time state) (line_and_further looks state mark.Other mark.Other first rest)

-- ---- a message

pub message_rows : (looks : Looks) (state : State) (find : Bool) (line : List ℕ) (tree : Data) (moment : ℤ)
    → OwnRows looks state (of_message find line tree) (row_or_text_told looks state find line tree moment)
message_rows looks state find line tree moment =
    agree_or looks state (of_row find line tree) (row_told looks state find line tree moment) _ _
    (agree_and_then looks state (λ name. of_kind find line name tree (kind_named name))
    (λ name. kind_told looks state find line name tree moment (kind_named name))
    (λ name. kind_rows looks state find line name tree moment (kind_named name)) (text_of (codes "type") tree))
    (text_rows looks state line (text_lines (text_or_nothing (codes "@message") tree)))

-- ---- what is under way

pub record IsUnderWay (looks : Looks) (state : State) (tells : Bool) (told : Told) : Type 0 where
  pub bytes : told.bytes ≡ rows_bytes looks (rows_after tells told.state)
  pub clock : told.state.clock ≡ state.clock

due_rows : (due : Bool) (looks : Looks) (state : State) → IsUnderWay looks state due (if due then slow_told looks state else nothing state)
unfolding under_way_words
due_rows true looks state = record {
  bytes = line_row looks (record state { marks = marks_at (elapsed state.clock) }) mark.UnderWay (under_way_words state)
      ∙ sym (append-nil (row_bytes looks (timed (elapsed state.clock) mark.UnderWay (under_way_words state))));
  clock = refl;
}
due_rows false looks state = record { bytes = refl; clock = refl }

pub under_way_rows_are : (has_moment : Bool) (looks : Looks) (state : State)
    → IsUnderWay looks state (has_moment && is_due state) (under_way_told_if has_moment looks state)
under_way_rows_are true looks state = due_rows (is_due state) looks state
under_way_rows_are false looks state = record { bytes = refl; clock = refl }

-- ---- a line

-- rows of a message, and what is under way
pub told_as : (looks : Looks) (before : State) (reports : Bool) (own : ℕ → List Row) (tells : Bool) (state : State) (told more : Told)
    → state.refreshes ≡ before.refreshes → KeepsTime state told.state
    → told.bytes ≡ rows_bytes looks (rows_before reports (elapsed state.clock) state) ++ rows_bytes looks (own (elapsed state.clock))
    → IsUnderWay looks told.state tells more → IsToldAs looks before reports own tells (record { bytes = told.bytes ++ more.bytes; state = more.state })
told_as looks before reports own tells state told more same kept bytes under =
    let clock : more.state.clock ≡ state.clock = under.clock ∙ kept.clock in
    let rows = own (elapsed state.clock) in
    let front = rows_before reports (elapsed state.clock) before in
    ap (λ (v : List ℕ). v ++ more.bytes)
    (bytes ∙ ap (λ (r : Refreshes). rows_bytes looks (rows_before reports (elapsed state.clock) (record before { refreshes = r })) ++ rows_bytes looks rows) same)
    ∙ ap (λ (v : List ℕ). (rows_bytes looks front ++ rows_bytes looks rows) ++ v) under.bytes
    ∙ ap (λ (v : List ℕ). v ++ rows_bytes looks (rows_after tells more.state)) (sym (rows_append looks front rows))
    ∙ sym (rows_append looks (front ++ rows) (rows_after tells more.state))
    ∙ ap (λ (c : Clock). rows_bytes looks (rows_before reports (elapsed c) before ++ own (elapsed c) ++ rows_after tells more.state)) (sym clock)

assembled : (looks : Looks) (before : State) (asked : Asked) (tells : Bool) (state : State) (told : Told) (more : Told)
    → state.refreshes ≡ before.refreshes → OwnRows looks state asked told → IsUnderWay looks told.state tells more
    → IsToldInRows looks before asked tells (record { bytes = told.bytes ++ more.bytes; state = more.state })
assembled looks before asked tells state told more same own under = record {
  own = own.rows.rows;
  are_asked = subst (λ (c : Clock). AreRows (elapsed c) asked.marks own.rows.rows) (sym (under.clock ∙ own.kept.clock)) own.rows.are;
  bytes = told_as looks before asked.reports (λ time. own.rows.rows) tells state told more same own.kept
      (own.bytes ∙ ap (λ (v : List ℕ). rows_bytes looks (rows_before asked.reports (elapsed state.clock) state) ++ v) own.rows.bytes) under;
}

alone : (looks : Looks) (before : State) (asked : Asked) (told : Told) → OwnRows looks before asked told → IsToldInRows looks before asked false told
alone looks before asked told own =
    let both = assembled looks before asked false before told (nothing told.state) refl own (record { bytes = refl; clock = refl }) in
    record { own = both.own; are_asked = both.are_asked; bytes = sym (append-nil told.bytes) ∙ both.bytes }

line_rows_of : (looks : Looks) (state : State) (find : Bool) (line : List ℕ) (message : Option Data)
    → IsToldInRows looks state (of_message_or_line find line message) (under_way_after looks state find line message)
    (message_or_line_told looks state find line message)
line_rows_of looks state find line None = alone looks state (of_passed line) (passed_told looks line state) (passed_rows looks state line)
line_rows_of looks state find line (Some tree) =
    let at = at_moment (moment_of tree) state in
    let own = told_at looks at find line tree (moment_of tree) in
    assembled looks state (of_message find line tree) (is_some (moment_of tree) && is_due own.state) at own
    (under_way_told_if (is_some (moment_of tree)) looks own.state) refl
    (message_rows looks at find line tree (unwrap_or (moment_of tree) at.clock.now))
    (under_way_rows_are (is_some (moment_of tree)) looks own.state)

pub line_rows : (looks : Looks) (state : State) (find : Bool) (line : List ℕ)
    → IsToldInRows looks state (asked_by find line) (tells_under_way looks state find line) (text_told looks state find line)
unfolding text_told
line_rows looks state find line = line_rows_of looks state find line (message_of find line)
