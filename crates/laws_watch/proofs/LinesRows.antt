-- Lines have the rows that they ask for, in their order.
use Rattle.std.proofs.Common.{◌≡◌, ◌∙◌, ℕ, List, [], ◌∷◌, ◌++◌, ◌==◌, Bool, true, false, ◌+◌, ap, append-nil, cond, if◌then◌else◌, length, length-append, refl, sym}
use Rattle.std.specs.List.{filter}
use Rattle.std.proofs.lemmas.List.Elements.{filter-append, filter_map-append}
use Rattle.std.proofs.lemmas.List.Sums.{length-filter}
use Rattle.stream_watch.specs.Clock.{elapsed}
use Rattle.stream_watch.specs.RefreshRow.{refreshed_words}
use Rattle.stream_watch.specs.State.{State, Told}
use Rattle.stream_watch.specs.Stream.{lines_told}
use Rattle.stream_watch.specs.Telling.{text_told}
use Rattle.stream_watch.specs.declared.looks.Looks.{Looks}
use Rattle.stream_watch.specs.declared.mark.Mark.{Mark}
use Rattle.stream_watch.specs.declared.mark.Mark.TheVariants as mark
use Rattle.laws_watch.specs.Asked.{asked_by}
use Rattle.laws_watch.specs.Rows.{Row, rows_bytes, timed, timed_mark, timed_marks}
use Rattle.laws_watch.specs.Told.{AreToldInRows, IsToldInRows, is_under_way, line_marks, lines_marks, marks_after, marks_asked, marks_before, rows_after, rows_before, tells_under_way, under_way_rows}
use Rattle.laws_watch.proofs.LineRows.{line_rows}
use Rattle.laws_watch.proofs.NoUnderWay.{asked_none}
use Rattle.laws_watch.proofs.RowBytes.{rows_append}

-- ---- rows without the chosen marks

chosen_one : (chosen : Mark → Bool) (m : Mark) → chosen m ≡ false → filter chosen (m ∷ []) ≡ []
chosen_one chosen m none = ap (λ (b : Bool). cond b (m ∷ []) []) none

report_if : (none : Bool) (chosen : Mark → Bool) (row : List ℕ) (time : ℕ) → chosen mark.Done ≡ false
    → filter chosen (timed_marks (if none then [] else timed time mark.Done row ∷ [])) ≡ []
report_if true chosen row time other = refl
report_if false chosen row time other = chosen_one chosen mark.Done other

before_other : (reports : Bool) (chosen : Mark → Bool) (time : ℕ) (state : State) → chosen mark.Done ≡ false
    → filter chosen (timed_marks (rows_before reports time state)) ≡ []
before_other true chosen time state other =
    report_if (state.refreshes.unreported == 0) chosen (refreshed_words state.refreshes) time other
before_other false chosen time state other = refl

after_other : (tells : Bool) (chosen : Mark → Bool) (state : State) → chosen mark.UnderWay ≡ false
    → filter chosen (timed_marks (rows_after tells state)) ≡ []
after_other true chosen state other = chosen_one chosen mark.UnderWay other
after_other false chosen state other = refl

chosen_then : (chosen : Mark → Bool) (xs ys : List Row)
    → filter chosen (timed_marks (xs ++ ys)) ≡ filter chosen (timed_marks xs) ++ filter chosen (timed_marks ys)
chosen_then chosen xs ys =
    ap (filter chosen) (filter_map-append timed_mark xs ys) ∙ filter-append chosen (timed_marks xs) (timed_marks ys)

own_chosen : (chosen : Mark → Bool) (before own after : List Row) → filter chosen (timed_marks before) ≡ [] → filter chosen (timed_marks after) ≡ []
    → filter chosen (timed_marks (before ++ own ++ after)) ≡ filter chosen (timed_marks own)
own_chosen chosen before own after front back =
    chosen_then chosen (before ++ own) after
    ∙ ap (λ (x : List Mark). filter chosen (timed_marks (before ++ own)) ++ x) back
    ∙ append-nil (filter chosen (timed_marks (before ++ own)))
    ∙ chosen_then chosen before own
    ∙ ap (λ (x : List Mark). x ++ filter chosen (timed_marks own)) front

-- ---- rows of what is under way

none_before : (reports : Bool) (time : ℕ) (state : State) → filter is_under_way (timed_marks (rows_before reports time state)) ≡ []
none_before reports time state = before_other reports is_under_way time state refl

one_after : (tells : Bool) (state : State) → length (filter is_under_way (timed_marks (rows_after tells state))) ≡ (if tells then 1 else 0)
one_after true state = refl
one_after false state = refl

own_under_way : (tells : Bool) (before own : List Row) (state : State) → filter is_under_way (timed_marks before) ≡ [] → filter is_under_way (timed_marks own) ≡ []
    → length (filter is_under_way (timed_marks (before ++ own ++ rows_after tells state))) ≡ (if tells then 1 else 0)
own_under_way tells before own state front middle =
    ap length (chosen_then is_under_way (before ++ own) (rows_after tells state)
    ∙ ap (λ (x : List Mark). x ++ filter is_under_way (timed_marks (rows_after tells state)))
    (chosen_then is_under_way before own
    ∙ ap (λ (x : List Mark). x ++ filter is_under_way (timed_marks own)) front ∙ middle))
    ∙ one_after tells state

-- ---- all marks

report_marks : (none : Bool) (time : ℕ) (words : List ℕ)
    → timed_marks (if none then [] else timed time mark.Done words ∷ []) ≡ (if none then [] else mark.Done ∷ [])
report_marks true time words = refl
report_marks false time words = refl

before_marks : (reports : Bool) (time : ℕ) (state : State) → timed_marks (rows_before reports time state) ≡ marks_before reports state
before_marks true time state = report_marks (state.refreshes.unreported == 0) time (refreshed_words state.refreshes)
before_marks false time state = refl

after_marks : (tells : Bool) (state : State) → timed_marks (rows_after tells state) ≡ marks_after tells
after_marks true state = refl
after_marks false state = refl

all_marks : (before own after rest : List Row) (m n o p : List Mark) → timed_marks before ≡ m → timed_marks own ≡ n → timed_marks after ≡ o
    → timed_marks rest ≡ p → timed_marks ((before ++ own ++ after) ++ rest) ≡ (m ++ n ++ o) ++ p
all_marks before own after rest m n o p first second third fourth =
    filter_map-append timed_mark (before ++ own ++ after) rest
    ∙ ap (λ (x : List Mark). x ++ timed_marks rest)
    (filter_map-append timed_mark (before ++ own) after
    ∙ ap (λ (x : List Mark). x ++ timed_marks after) (filter_map-append timed_mark before own
    ∙ ap (λ (x : List Mark). x ++ timed_marks own) first ∙ ap (λ (x : List Mark). m ++ x) second)
    ∙ ap (λ (x : List Mark). (m ++ n) ++ x) third)
    ∙ ap (λ (x : List Mark). (m ++ n ++ o) ++ x) fourth

-- ---- the rows of one line, and of those after it

with_line : (looks : Looks) (find : Bool) (line : List ℕ) (lines : List (List ℕ)) (state : State) (told next : Told)
    → IsToldInRows looks state (asked_by find line) (tells_under_way looks state find line) told → told ≡ text_told looks state find line
    → AreToldInRows looks find lines told.state next
    → AreToldInRows looks find (line ∷ lines) state (record { bytes = told.bytes ++ next.bytes; state = next.state })
with_line looks find line lines state told next first is rest =
    let tells = tells_under_way looks state find line in
    let before = rows_before (asked_by find line).reports (elapsed told.state.clock) state in
    let after = rows_after tells told.state in
    let rows : List Row = before ++ first.own ++ after in
    record {
      rows = rows ++ rest.rows;
      bytes = ap (λ (x : List ℕ). x ++ next.bytes) first.bytes ∙ ap (λ (x : List ℕ). rows_bytes looks rows ++ x) rest.bytes
          ∙ sym (rows_append looks rows rest.rows);
      marks = all_marks before first.own after rest.rows
          (marks_before (asked_by find line).reports state) (asked_by find line).marks (marks_after tells) (lines_marks looks find lines told.state)
          (before_marks (asked_by find line).reports (elapsed told.state.clock) state) first.are_asked.marks (after_marks tells told.state) rest.marks
          ∙ ap (λ (t : Told). line_marks looks state find line ++ lines_marks looks find lines t.state) is;
      asked = λ chosen done under_way.
          chosen_then chosen rows rest.rows
          ∙ ap (λ (x : List Mark). x ++ filter chosen (timed_marks rest.rows))
          (own_chosen chosen before first.own after
          (before_other (asked_by find line).reports chosen (elapsed told.state.clock) state done)
          (after_other tells chosen told.state under_way)
          ∙ ap (filter chosen) first.are_asked.marks)
          ∙ ap (λ (x : List Mark). filter chosen (asked_by find line).marks ++ x) (rest.asked chosen done under_way)
          ∙ sym (filter-append chosen (asked_by find line).marks (marks_asked find lines));
      under_way = sym (length-filter is_under_way (timed_marks (rows ++ rest.rows)))
          ∙ ap length (chosen_then is_under_way rows rest.rows)
          ∙ length-append (filter is_under_way (timed_marks rows)) (filter is_under_way (timed_marks rest.rows))
          ∙ ap (λ (n : ℕ). n + length (filter is_under_way (timed_marks rest.rows)))
          (own_under_way tells before first.own told.state (none_before (asked_by find line).reports (elapsed told.state.clock) state)
          (ap (filter is_under_way) first.are_asked.marks ∙ asked_none find line))
          ∙ ap (λ (n : ℕ). (if tells then 1 else 0) + n)
          (length-filter is_under_way (timed_marks rest.rows) ∙ rest.under_way
          ∙ ap (λ (t : Told). under_way_rows looks find lines t.state) is);
    }

pub lines_rows : (looks : Looks) (find : Bool) (lines : List (List ℕ)) (state : State)
    → AreToldInRows looks find lines state (lines_told looks find lines state)
lines_rows looks find [] state = record { rows = []; bytes = refl; marks = refl; asked = λ chosen done under_way. refl; under_way = refl }
lines_rows looks find (line ∷ lines) state =
    let told = text_told looks state find line in
    with_line looks find line lines state told (lines_told looks find lines told.state)
    (line_rows looks state find line) refl (lines_rows looks find lines told.state)
