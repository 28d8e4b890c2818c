-- What is told of a message is its refreshes and the rows that it asks for.
use Rattle.std.proofs.Common.{◌≡◌, ◌∙◌, ℕ, List, [], ◌∷◌, ◌++◌, ◌==◌, Bool, true, false, ap, append-nil, if◌then◌else◌, refl, sym}
use Rattle.stream_watch.specs.Clock.{elapsed}
use Rattle.stream_watch.specs.AfterRefreshes.{told_after_refreshes}
use Rattle.stream_watch.specs.RefreshRow.{refreshed_words, reported_told}
use Rattle.stream_watch.specs.Refreshes.{none_after}
use Rattle.stream_watch.specs.State.{State, Told, line_at, line_told, nothing}
use Rattle.stream_watch.specs.declared.looks.Looks.{Looks}
use Rattle.stream_watch.specs.declared.mark.Mark.{Mark}
use Rattle.stream_watch.specs.declared.mark.Mark.TheVariants as mark
use Rattle.laws_watch.specs.Asked.{Asked, only, reporting}
use Rattle.laws_watch.specs.Rows.{Row, row_bytes, rows_bytes, timed}
use Rattle.laws_watch.specs.Told.{report_rows, rows_before}
use Rattle.laws_watch.proofs.RowBytes.{HasRows, line_row, no_rows, one_line, rows_at}

-- what a message does not change
pub record KeepsTime (before after : State) : Type 0 where
  pub clock : after.clock ≡ before.clock
  pub marks : after.marks ≡ before.marks

pub record OwnRows (looks : Looks) (state : State) (asked : Asked) (told : Told) : Type 0 where
  pub own : List ℕ
  pub rows : HasRows looks (elapsed state.clock) asked.marks own
  pub bytes : told.bytes ≡ rows_bytes looks (rows_before asked.reports (elapsed state.clock) state) ++ own
  pub kept : KeepsTime state told.state

pub own_as : (looks : Looks) (state after : State) (asked : Asked) (v w : List ℕ) → v ≡ w
    → OwnRows looks state asked (record { bytes = v; state = after }) → OwnRows looks state asked (record { bytes = w; state = after })
own_as looks state after asked v w same told =
    record { own = told.own; rows = told.rows; bytes = sym same ∙ told.bytes; kept = told.kept }

-- ---- without refreshes

-- bytes that are rows, and a state that keeps the time
pub own_only : (looks : Looks) (state after : State) (marks : List Mark) (bytes : List ℕ) → KeepsTime state after
    → HasRows looks (elapsed state.clock) marks bytes → OwnRows looks state (only marks) (record { bytes = bytes; state = after })
own_only looks state after marks bytes kept rows = record { own = bytes; rows = rows; bytes = refl; kept = kept }

pub own_nothing : (looks : Looks) (state after : State) → KeepsTime state after → OwnRows looks state (only []) (nothing after)
own_nothing looks state after kept = own_only looks state after [] [] kept (no_rows looks (elapsed state.clock))

pub own_line : (looks : Looks) (state after : State) (m : Mark) (text : List ℕ) → KeepsTime state after
    → OwnRows looks state (only (m ∷ [])) (line_told looks after m text)
own_line looks state after m text kept =
    own_only looks state after (m ∷ []) (line_at looks after m text) kept
    (rows_at looks (elapsed after.clock) (elapsed state.clock) (m ∷ []) (line_at looks after m text) (ap elapsed kept.clock)
    (one_line looks after m text))

-- ---- after refreshes

reported_if : (none : Bool) → Looks → State → Told
reported_if none looks state =
    if none then nothing state
    else line_told looks (record state { refreshes = none_after state.refreshes.ended }) mark.Done (refreshed_words state.refreshes)

report_if : (none : Bool) → (time : ℕ) → State → List Row
report_if none time state = if none then [] else timed time mark.Done (refreshed_words state.refreshes) ∷ []

pub record IsReport (looks : Looks) (state : State) (rows : List Row) (told : Told) : Type 0 where
  pub bytes : told.bytes ≡ rows_bytes looks rows
  pub kept : KeepsTime state told.state

report_is_if : (none : Bool) (looks : Looks) (state : State) → IsReport looks state (report_if none (elapsed state.clock) state) (reported_if none looks state)
unfolding reported_if report_if
report_is_if true looks state = record { bytes = refl; kept = record { clock = refl; marks = refl } }
report_is_if false looks state = record {
  bytes = line_row looks (record state { refreshes = none_after state.refreshes.ended }) mark.Done (refreshed_words state.refreshes)
      ∙ sym (append-nil (row_bytes looks (timed (elapsed state.clock) mark.Done (refreshed_words state.refreshes))));
  kept = record { clock = refl; marks = refl };
}

pub report_is : (looks : Looks) (state : State) → IsReport looks state (report_rows (elapsed state.clock) state) (reported_told looks state)
unfolding reported_if report_if
report_is looks state = report_is_if (state.refreshes.unreported == 0) looks state

-- what stands after the refreshes, in the state that they leave
pub own_reporting : (looks : Looks) (state : State) (marks : List Mark) (bytes : State → List ℕ) (change : State → State)
    → ((s : State) → HasRows looks (elapsed s.clock) marks (bytes s)) → ((s : State) → KeepsTime s (change s))
    → OwnRows looks state (reporting marks) (record {
      bytes = (reported_told looks state).bytes ++ bytes (reported_told looks state).state;
      state = change (reported_told looks state).state;
    })
own_reporting looks state marks bytes change rows keeps =
    let after = (reported_told looks state).state in
    let report = report_is looks state in
    record {
      own = bytes after;
      rows = rows_at looks (elapsed after.clock) (elapsed state.clock) marks (bytes after) (ap elapsed report.kept.clock) (rows after);
      bytes = ap (λ (front : List ℕ). front ++ bytes after) report.bytes;
      kept = record { clock = (keeps after).clock ∙ report.kept.clock; marks = (keeps after).marks ∙ report.kept.marks };
    }

pub same_time : (s : State) → KeepsTime s s
same_time s = record { clock = refl; marks = refl }

-- one line after the refreshes
pub own_after_refreshes : (looks : Looks) (state : State) (m : Mark) (text : List ℕ)
    → OwnRows looks state (reporting (m ∷ [])) (told_after_refreshes looks m text state)
own_after_refreshes looks state m text =
    own_reporting looks state (m ∷ []) (λ s. line_at looks s m text) (λ s. s) (λ s. one_line looks s m text) same_time
