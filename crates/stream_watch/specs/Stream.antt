-- What is told of a whole stream.
use Rattle.std.specs.Prelude.{ℕ, List, [], ◌∷◌, Bool, is_ok}
use Rattle.stream_check.specs.declared.verdict.judge.Verdict.{Verdict}
use Rattle.stream_watch.specs.Ending.{end_told}
use Rattle.stream_watch.specs.State.{State, Told, beginning, nothing, told_then}
use Rattle.stream_watch.specs.Telling.{text_told}
use Rattle.stream_watch.specs.VerdictRow.{verdict_told}
use Rattle.stream_watch.specs.declared.looks.Looks.{Looks}

-- what is told of lines, one after another
abbrev pub lines_told : Looks → (find : Bool) → (lines : List (List ℕ)) → State → Told
lines_told looks find [] state = nothing state
lines_told looks find (line ∷ lines) state = told_then (text_told looks state find line) (lines_told looks find lines)

-- what is told at the end: of what is open and what is left, and the verdict
abbrev pub last_told : Looks → Verdict → State → Told
last_told looks verdict state = told_then (end_told looks (is_ok verdict.answer) state) (λ state. verdict_told looks state verdict)

-- what is told of a stream of these lines with this verdict
abbrev pub stream_told : Looks → (find : Bool) → (lines : List (List ℕ)) → Verdict → Told
stream_told looks find lines verdict = told_then (lines_told looks find lines beginning) (last_told looks verdict)
