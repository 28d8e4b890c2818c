-- What is told of steps under way, at marks of the time: 10 s, 20 s and each multiple of 30 s.
use Rattle.std.specs.Prelude.{ℕ, ℤ, List, [], ◌∷◌, ◌+◌, ◌-◌, ◌/◌, ◌++◌, ◌==◌, ◌&&◌, Bool, false, codes, if◌then◌else◌, length, nat_le, nat_lt, take}
use Rattle.std.specs.Int.{int_gap}
use Rattle.std.specs.List.{flat_map}
use Rattle.term_text.specs.Shown.{shown_text}
use Rattle.term_words.specs.MessageTexts.{fitted_text}
use Rattle.term_words.specs.Words.{grouped}
use Rattle.stream_watch.specs.Clock.{elapsed}
use Rattle.stream_watch.specs.Printed.{time_text}
use Rattle.stream_watch.specs.State.{State, Told, line_told, nothing}
use Rattle.stream_watch.specs.Steps.{Step}
use Rattle.stream_watch.specs.Words.{provisioner_words, with_part}
use Rattle.stream_watch.specs.declared.looks.Looks.{Looks}
use Rattle.stream_watch.specs.declared.mark.Mark.TheVariants as mark

-- ---- marks

abbrev pub early_marks : (seconds : ℕ) → ℕ
early_marks seconds = if nat_lt seconds 10 then 0 else if nat_lt seconds 20 then 1 else 2

-- how many marks have passed after so many microseconds
abbrev pub marks_at : (elapsed : ℕ) → ℕ
marks_at elapsed = early_marks (elapsed / 1000000) + elapsed / 1000000 / 30

-- the step that began first is open for ten seconds
abbrev pub is_slow : (now : ℤ) → List Step → Bool
is_slow now [] = false
is_slow now (step ∷ steps) = nat_le 10000000 (int_gap step.begin now)

-- ---- words

-- how many changes are done, or, before the first, how many objects are refreshed
abbrev pub done_words : State → List ℕ
done_words state =
    if nat_lt 0 state.counts.planned then grouped state.counts.done ++ codes " of " ++ grouped state.counts.planned ++ codes " done"
    else if nat_lt 0 state.counts.begun then grouped state.counts.done ++ codes " done"
    else if nat_lt 0 state.refreshes.ended then grouped state.refreshes.ended ++ codes " refreshed"
    else []

abbrev pub with_failed_part : (failed : ℕ) → List ℕ → List ℕ
with_failed_part failed text = if nat_lt 0 failed then with_part (grouped failed ++ codes " failed") text else text

-- how many changes are done, failed and under way
abbrev pub state_words : State → List ℕ
state_words state =
    with_part (grouped (length state.steps) ++ codes " under way") (with_failed_part state.counts.failed (done_words state))

-- an action and its address, which is fitted to 40 columns
unfoldable pub short_step : Step → List ℕ
short_step step = shown_text step.action ++ codes " " ++ fitted_text 40 step.address

-- a step that runs, and for how long
unfoldable pub running_words : (now : ℤ) → Step → List ℕ
running_words now step =
    short_step step ++ provisioner_words step.provisioner ++ codes " " ++ time_text (int_gap step.begin now)

-- a further step, behind a comma
abbrev pub other_step_words : (now : ℤ) → Step → List ℕ
other_step_words now step = codes ", " ++ running_words now step

abbrev pub other_steps_words : (now : ℤ) → List Step → List ℕ
other_steps_words now steps = flat_map (other_step_words now) steps

abbrev pub named_words : (now : ℤ) → List Step → List ℕ
named_words now [] = []
named_words now (step ∷ steps) = running_words now step ++ other_steps_words now steps

abbrev pub more_steps_words : ℕ → List ℕ
more_steps_words count = if nat_lt 0 count then codes " and " ++ grouped count ++ codes " more" else []

-- how far the apply is, and the first three steps that are open
unfoldable pub under_way_words : State → List ℕ
under_way_words state =
    state_words state ++ codes ": " ++ named_words state.clock.now (take 3 state.steps) ++ more_steps_words (length state.steps - 3)

-- ---- what is told

-- a mark has passed since the steps were told, and the first of them is slow
abbrev pub is_due : State → Bool
is_due state = nat_lt state.marks (marks_at (elapsed state.clock)) && is_slow state.clock.now state.steps

abbrev pub slow_told : Looks → State → Told
slow_told looks state =
    line_told looks (record state { marks = marks_at (elapsed state.clock) }) mark.UnderWay (under_way_words state)

abbrev pub under_way_told : Looks → State → Told
under_way_told looks state = if is_due state then slow_told looks state else nothing state
