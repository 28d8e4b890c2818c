-- What is told of the verdict.
use Rattle.std.specs.Prelude.{ℕ, List, [], ◌++◌, Bool, Err, Ok, Result, codes, if◌then◌else◌, string_bytes}
use Rattle.stream_check.specs.declared.verdict.finding.Finding.{Finding}
use Rattle.stream_check.specs.declared.verdict.judge.Verdict.{Verdict}
use Rattle.stream_check.specs.declared.verdict.whole.Whole.{Whole}
use Rattle.term_text.specs.Shown.{shown_text}
use Rattle.stream_watch.specs.State.{State, Told, line_told}
use Rattle.stream_watch.specs.declared.looks.Looks.{Looks}
use Rattle.stream_watch.specs.declared.mark.Mark.{Mark}
use Rattle.stream_watch.specs.declared.mark.Mark.TheVariants as mark

abbrev pub whole_mark : (has_errors : Bool) → Mark
whole_mark has_errors = if has_errors then mark.Failed else mark.Whole

abbrev pub verdict_mark : Result Whole Finding → Mark
verdict_mark (Ok whole) = whole_mark whole.has_errors
verdict_mark (Err finding) = mark.Failed

-- what is said before the report where the stream is not whole
abbrev pub verdict_front : Result Whole Finding → List ℕ
verdict_front (Ok whole) = []
verdict_front (Err finding) = codes "the stream is not whole: "

-- what `check` reports
abbrev pub verdict_words : Result Whole Finding → (report : List ℕ) → List ℕ
verdict_words answer report = verdict_front answer ++ shown_text report

abbrev pub verdict_told : Looks → State → Verdict → Told
verdict_told looks state verdict =
    line_told looks state (verdict_mark verdict.answer) (verdict_words verdict.answer (string_bytes verdict.text))
