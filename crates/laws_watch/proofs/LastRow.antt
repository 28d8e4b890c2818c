-- The verdict is the last row.
use Rattle.std.proofs.Common.{◌≡◌, ◌∙◌, ℕ, List, [], ◌++◌, ◌&&◌, Bool, true, false, Result, Ok, Err, ◌-◌, ap, append_assoc, cond, if◌then◌else◌, is_ok, length, refl, sym}
use Rattle.std.specs.Prelude.{nat_lt, string_bytes}
use Rattle.stream_check.specs.declared.verdict.finding.Finding.{Finding}
use Rattle.stream_check.specs.declared.verdict.judge.Verdict.{Verdict}
use Rattle.stream_check.specs.declared.verdict.whole.Whole.{Whole}
use Rattle.stream_watch.specs.Clock.{elapsed}
use Rattle.stream_watch.specs.Ending.{are_left, end_told, open_told_unless}
use Rattle.stream_watch.specs.Marks.{is_in_panel}
use Rattle.stream_watch.specs.Printed.{line_bytes}
use Rattle.stream_watch.specs.RefreshRow.{reported_told}
use Rattle.stream_watch.specs.State.{State, beginning, line_at, line_told, nothing}
use Rattle.stream_watch.specs.Stream.{last_told, lines_told, stream_told}
use Rattle.stream_watch.specs.VerdictRow.{verdict_mark, verdict_words, whole_mark}
use Rattle.stream_watch.specs.declared.clock.Clock.{Clock}
use Rattle.stream_watch.specs.declared.looks.Looks.{Looks}
use Rattle.stream_watch.specs.declared.mark.Mark.{Mark}
use Rattle.stream_watch.specs.declared.mark.Mark.TheVariants as mark
use Rattle.laws_watch.specs.Rows.{row_bytes, timed}
use Rattle.laws_watch.specs.Verdict.{IsGood, told_before_verdict, verdict_row}
use Rattle.laws_watch.proofs.Fronts.{front_bytes}
use Rattle.laws_watch.proofs.Own.{KeepsTime, report_is, same_time}
use Rattle.laws_watch.proofs.RowBytes.{line_row}

-- ---- the end keeps the time

told_if_keeps : (tells : Bool) (looks : Looks) (state : State) (m : Mark) (words : List ℕ)
    → KeepsTime state (if tells then line_told looks state m words else nothing state).state
told_if_keeps true looks state m words = same_time state
told_if_keeps false looks state m words = same_time state

open_keeps : (is_whole : Bool) (looks : Looks) (state : State) → KeepsTime state (open_told_unless is_whole looks state).state
open_keeps true looks state = same_time state
open_keeps false looks state = told_if_keeps (nat_lt 0 (length state.steps - 20)) looks state mark.NoEnd _

end_keeps : (is_whole : Bool) (looks : Looks) (state : State) → (end_told looks is_whole state).state.clock ≡ state.clock
end_keeps is_whole looks state =
    let reported = (reported_told looks state).state in
    let opened = (open_told_unless is_whole looks reported).state in
    (told_if_keeps (are_left opened.counts) looks opened mark.Sum _).clock
    ∙ (open_keeps is_whole looks reported).clock ∙ (report_is looks state).kept.clock

-- ---- the last row

pub verdict_last : (looks : Looks) (find : Bool) (lines : List (List ℕ)) (verdict : Verdict)
    → (stream_told looks find lines verdict).bytes
    ≡ (told_before_verdict looks find lines verdict).bytes ++ row_bytes looks (verdict_row looks find lines verdict)
verdict_last looks find lines verdict =
    let told = lines_told looks find lines beginning in
    let ended = end_told looks (is_ok verdict.answer) told.state in
    let m = verdict_mark verdict.answer in
    let words = verdict_words verdict.answer (string_bytes verdict.text) in
    sym (append_assoc told.bytes ended.bytes (line_at looks ended.state m words))
    ∙ ap (λ (row : List ℕ). (told.bytes ++ ended.bytes) ++ row) (line_row looks ended.state m words)
    ∙ ap (λ (clock : Clock). (told.bytes ++ ended.bytes) ++ row_bytes looks (timed (elapsed clock) m words))
    (end_keeps (is_ok verdict.answer) looks told.state)

shown_with : (has_panel : Bool) (bytes : List ℕ) (m : Mark) → is_in_panel m ≡ false → (if has_panel && is_in_panel m then [] else bytes) ≡ bytes
shown_with true bytes m hidden = ap (λ (b : Bool). cond b [] bytes) hidden
shown_with false bytes m hidden = refl

whole_mark_shown : (has_errors : Bool) → is_in_panel (whole_mark has_errors) ≡ false
whole_mark_shown true = refl
whole_mark_shown false = refl

verdict_mark_shown : (answer : Result Whole Finding) → is_in_panel (verdict_mark answer) ≡ false
verdict_mark_shown (Ok whole) = whole_mark_shown whole.has_errors
verdict_mark_shown (Err finding) = refl

pub verdict_shown : (looks : Looks) (time : ℕ) (answer : Result Whole Finding) (text : List ℕ)
    → row_bytes looks (timed time (verdict_mark answer) text) ≡ line_bytes looks.width looks.has_colour time (verdict_mark answer) text
verdict_shown looks time answer text =
    shown_with looks.has_panel (line_bytes looks.width looks.has_colour time (verdict_mark answer) text) (verdict_mark answer) (verdict_mark_shown answer)

-- ---- a good verdict

no_errors : (has_errors : Bool) → whole_mark has_errors ≡ mark.Whole → has_errors ≡ false
no_errors true is = absurd cc
no_errors false is = refl

pub verdict_good : (answer : Result Whole Finding) → verdict_mark answer ≡ mark.Whole → IsGood answer
verdict_good (Ok whole) is = (whole, refl, no_errors whole.has_errors is)
verdict_good (Err finding) is = absurd cc

-- ---- what was told of the front of a stream

pub front_of_stream : (looks : Looks) (find : Bool) (front rest : List (List ℕ)) (verdict : Verdict)
    → (more : List ℕ) × ((stream_told looks find (front ++ rest) verdict).bytes ≡ (lines_told looks find front beginning).bytes ++ more)
front_of_stream looks find front rest verdict =
    let first = lines_told looks find front beginning in
    let second = lines_told looks find rest first.state in
    let last = (last_told looks verdict (lines_told looks find (front ++ rest) beginning).state).bytes in (
      second.bytes ++ last,
      ap (λ (v : List ℕ). v ++ last) (front_bytes looks find front rest beginning) ∙ append_assoc first.bytes second.bytes last,
    )
