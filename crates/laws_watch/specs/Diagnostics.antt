-- The rows of a diagnostic.
use Rattle.std.specs.Prelude.{◌≡◌, ℕ, List, ◌∷◌, ◌++◌, Bool, Some, codes, map}
use Rattle.serde_json.specs.Data.{Data}
use Rattle.apply_json.specs.Tree.{member_of, text_of}
use Rattle.stream_watch.specs.Clock.{elapsed}
use Rattle.stream_watch.specs.DiagnosticRow.{body_lines, diagnostic_words, severity_mark}
use Rattle.stream_watch.specs.Reading.{message_of}
use Rattle.stream_watch.specs.State.{State, Told}
use Rattle.stream_watch.specs.declared.looks.Looks.{Looks}
use Rattle.laws_watch.specs.Rows.{Row, further, rows_bytes, timed}
use Rattle.laws_watch.specs.Told.{rows_after, rows_before}

-- the message of the line has a diagnostic with this severity
pub record HasDiagnostic (find : Bool) (line word : List ℕ) (diagnostic : Data) : Type 0 where
  pub tree : Data
  pub message : message_of find line ≡ Some tree
  pub kind : text_of (codes "type") tree ≡ Some (codes "diagnostic")
  pub member : member_of (codes "diagnostic") tree ≡ Some diagnostic
  pub severity : text_of (codes "severity") diagnostic ≡ Some word

-- One row has the severity, the summary, and the place where it is known. The code and the detail
-- belong to it.
abbrev pub diagnostic_rows : (elapsed : ℕ) → (severity : List ℕ) → (diagnostic : Data) → List Row
diagnostic_rows elapsed severity diagnostic =
    timed elapsed (severity_mark severity) (diagnostic_words severity diagnostic)
    ∷ map (further (severity_mark severity)) (body_lines diagnostic)

-- what is told are these rows, refreshes before them, and what is under way after them
abbrev pub IsToldAs : Looks → (before : State) → (reports : Bool) → (own : ℕ → List Row) → (tells : Bool) → Told → Type 0
IsToldAs looks before reports own tells told =
    told.bytes ≡ rows_bytes looks (rows_before reports (elapsed told.state.clock) before ++ own (elapsed told.state.clock)
    ++ rows_after tells told.state)
