-- The row of the verdict.
use Rattle.std.specs.Prelude.{◌≡◌, ℕ, Bool, List, Ok, false, is_ok, string_bytes, Result}
use Rattle.stream_check.specs.declared.verdict.finding.Finding.{Finding}
use Rattle.stream_check.specs.declared.verdict.judge.Verdict.{Verdict}
use Rattle.stream_check.specs.declared.verdict.whole.Whole.{Whole}
use Rattle.stream_watch.specs.Clock.{elapsed}
use Rattle.stream_watch.specs.Ending.{end_told}
use Rattle.stream_watch.specs.State.{Told, beginning, told_then}
use Rattle.stream_watch.specs.Stream.{lines_told}
use Rattle.stream_watch.specs.VerdictRow.{verdict_mark, verdict_words}
use Rattle.stream_watch.specs.declared.looks.Looks.{Looks}
use Rattle.laws_watch.specs.Rows.{Row, timed}

-- what is told of the lines, and of what is open and left at their end
abbrev pub told_before_verdict : Looks → (find : Bool) → (lines : List (List ℕ)) → Verdict → Told
told_before_verdict looks find lines verdict =
    told_then (lines_told looks find lines beginning) (end_told looks (is_ok verdict.answer))

-- the verdict, at the time of the last line
abbrev pub verdict_row : Looks → (find : Bool) → (lines : List (List ℕ)) → Verdict → Row
verdict_row looks find lines verdict =
    timed (elapsed (lines_told looks find lines beginning).state.clock) (verdict_mark verdict.answer)
    (verdict_words verdict.answer (string_bytes verdict.text))

-- the stream is whole, and no line of it reports an error
abbrev pub IsGood : Result Whole Finding → Type 0
IsGood answer = (whole : Whole) × (answer ≡ Ok whole) × (whole.has_errors ≡ false)
