-- What is told of a line.
use Rattle.std.specs.Prelude.{◌≡◌, ℕ, ℤ, List, [], ◌∷◌, ◌++◌, Bool, Option, Some, None, codes, if◌then◌else◌, is_some, option_and_then, option_map, unwrap_or}
use Rattle.std.specs.Fmt.{decimal}
use Rattle.std.specs.Str.{bytes_eq}
use Rattle.serde_json.specs.Data.{Data}
use Rattle.apply_json.specs.Tree.{is_empty, text_of}
use Rattle.stream_message.specs.Kinds.{kind_named}
use Rattle.stream_message.specs.Timestamp.{instant_of}
use Rattle.stream_message.specs.declared.kind.Kind.{Kind}
use Rattle.stream_message.specs.declared.kind.Kind.TheVariants as kind
use Rattle.term_text.specs.Fronts.{cut_text}
use Rattle.term_text.specs.LineTexts.{line_text, text_lines}
use Rattle.term_text.specs.Shown.{shown_text}
use Rattle.stream_watch.specs.AfterRefreshes.{told_after_refreshes}
use Rattle.stream_watch.specs.Changes.{drift_told, planned_told}
use Rattle.stream_watch.specs.Clock.{after}
use Rattle.stream_watch.specs.DiagnosticRow.{diagnostic_told, text_or_nothing}
use Rattle.stream_watch.specs.FurtherLines.{further_lines}
use Rattle.stream_watch.specs.OutputRows.{outputs_told}
use Rattle.stream_watch.specs.Progress.{under_way_told}
use Rattle.stream_watch.specs.ProvisionerRows.{provision_told}
use Rattle.stream_watch.specs.Reading.{message_of}
use Rattle.stream_watch.specs.RefreshRow.{refresh_told}
use Rattle.stream_watch.specs.State.{State, Told, line_at, line_told, nothing, told_then}
use Rattle.stream_watch.specs.StepRows.{step_told}
use Rattle.stream_watch.specs.SummaryRow.{summary_told}
use Rattle.stream_watch.specs.declared.looks.Looks.{Looks}
use Rattle.stream_watch.specs.declared.mark.Mark.TheVariants as mark

-- ---- lines of other programs

-- the text of a line that is no message, unless it is blank
abbrev pub passed_text_told : Looks → (text : List ℕ) → State → Told
passed_text_told looks text state =
    if is_empty text then nothing state else line_told looks state mark.Passed (cut_text 1024 (shown_text text))

abbrev pub passed_told : Looks → (line : List ℕ) → State → Told
passed_told looks line state = passed_text_told looks (line_text line) state

abbrev pub too_long_words : (number : ℕ) → List ℕ
too_long_words number = codes "line " ++ decimal number ++ codes " is longer than 67108864 bytes"

-- a line that is too long
abbrev pub too_long_told : Looks → (number : ℕ) → State → Told
too_long_told looks number state = line_told looks state mark.Passed (too_long_words number)

-- ---- messages of other types

-- a text of these lines
abbrev pub text_lines_told : Looks → (first : List ℕ) → (rest : List (List ℕ)) → State → Told
text_lines_told looks first rest state =
    record { bytes = line_at looks state mark.Other first ++ further_lines looks mark.Other rest; state = state }

-- the lines of a text, or the line of the message where there are none
abbrev pub lines_or_line_told : Looks → (line : List ℕ) → (lines : List (List ℕ)) → State → Told
lines_or_line_told looks line [] state = passed_told looks line state
lines_or_line_told looks line (first ∷ rest) state = text_lines_told looks first rest state

-- the text of the message, or its line where it has none
abbrev pub other_told : Looks → (line : List ℕ) → Data → State → Told
other_told looks line tree state = lines_or_line_told looks line (text_lines (text_or_nothing (codes "@message") tree)) state

-- ---- messages by the row of their type; none if the message lacks what its row names

abbrev pub version_words : (version : List ℕ) → List ℕ
version_words version = codes "Terraform " ++ shown_text version

abbrev pub version_told : Looks → Data → State → Option Told
version_told looks tree state =
    option_map (λ version. told_after_refreshes looks mark.Sum (version_words version) state) (text_of (codes "terraform") tree)

-- a message of a type that `check` does not know
abbrev pub drift_told_if : (is_drift : Bool) → Looks → Data → State → Option Told
drift_told_if is_drift looks tree state = if is_drift then drift_told looks tree state else None

abbrev pub unknown_told : (name : List ℕ) → Looks → Data → State → Option Told
unknown_told name looks tree state = drift_told_if (bytes_eq name (codes "resource_drift")) looks tree state

abbrev pub kind_told : Looks → State → (find : Bool) → (line name : List ℕ) → Data → (moment : ℤ) → Kind → Option Told
kind_told looks state find line name tree moment kind.Version = version_told looks tree state
kind_told looks state find line name tree moment kind.Planned = planned_told looks tree state
kind_told looks state find line name tree moment (kind.Apply stage) = step_told looks state stage tree moment
kind_told looks state find line name tree moment (kind.Ephemeral stage) = step_told looks state stage tree moment
kind_told looks state find line name tree moment (kind.Refresh stage) = refresh_told state stage tree moment
kind_told looks state find line name tree moment (kind.Provision stage) = provision_told looks state stage tree moment
kind_told looks state find line name tree moment kind.Diagnostic = diagnostic_told looks state tree
kind_told looks state find line name tree moment kind.Summary = summary_told looks tree state
kind_told looks state find line name tree moment kind.Outputs = outputs_told looks state find tree line
kind_told looks state find line name tree moment kind.Other = unknown_told name looks tree state

abbrev pub row_told : Looks → State → (find : Bool) → (line : List ℕ) → Data → (moment : ℤ) → Option Told
row_told looks state find line tree moment =
    option_and_then (λ name. kind_told looks state find line name tree moment (kind_named name)) (text_of (codes "type") tree)

-- the message by its row, or by its text
abbrev pub row_or_text_told : Looks → State → (find : Bool) → (line : List ℕ) → Data → (moment : ℤ) → Told
row_or_text_told looks state find line tree moment =
    unwrap_or (row_told looks state find line tree moment) (other_told looks line tree state)

-- ---- a message

abbrev pub moment_of : Data → Option ℤ
moment_of tree = option_and_then instant_of (text_of (codes "@timestamp") tree)

-- the state at the time of a message with this moment, or with none
abbrev pub at_moment : Option ℤ → State → State
at_moment moment state = record state { clock = after moment state.clock }

-- a message at its time
abbrev pub told_at : Looks → State → (find : Bool) → (line : List ℕ) → Data → Option ℤ → Told
told_at looks state find line tree moment = row_or_text_told looks state find line tree (unwrap_or moment state.clock.now)

-- what is under way stands behind a message that has a moment
abbrev pub under_way_told_if : (has_moment : Bool) → Looks → State → Told
under_way_told_if has_moment looks state = if has_moment then under_way_told looks state else nothing state

abbrev pub message_told : Looks → State → (find : Bool) → (line : List ℕ) → Data → Told
message_told looks state find line tree =
    told_then (told_at looks (at_moment (moment_of tree) state) find line tree (moment_of tree))
    (under_way_told_if (is_some (moment_of tree)) looks)

-- ---- a line

-- the message of the line, or the line where it has none
abbrev pub message_or_line_told : Looks → State → (find : Bool) → (line : List ℕ) → (message : Option Data) → Told
message_or_line_told looks state find line None = passed_told looks line state
message_or_line_told looks state find line (Some tree) = message_told looks state find line tree

unfoldable pub text_told : Looks → State → (find : Bool) → (line : List ℕ) → Told
text_told looks state find line = message_or_line_told looks state find line (message_of find line)

-- ---- a line of progress

-- nothing is told of progress by itself: only the time goes on
abbrev pub progress_told : Looks → Option ℤ → State → Told
progress_told looks moment state = under_way_told_if (is_some moment) looks (at_moment moment state)

-- of this line nothing else is told
abbrev pub TellsProgress : (find : Bool) → (line : List ℕ) → (moment : Option ℤ) → Type 0
TellsProgress find line moment =
    (looks : Looks) (state : State) → text_told looks state find line ≡ progress_told looks moment state
