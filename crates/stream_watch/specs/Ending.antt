-- What is told at the end of a stream.
use Rattle.std.specs.Prelude.{ℕ, ℤ, List, [], ◌-◌, ◌++◌, ◌&&◌, Bool, Option, codes, if◌then◌else◌, length, nat_lt, take}
use Rattle.std.specs.Int.{int_gap}
use Rattle.std.specs.List.{flat_map}
use Rattle.term_words.specs.Words.{grouped}
use Rattle.stream_watch.specs.Clock.{elapsed}
use Rattle.stream_watch.specs.Printed.{line_bytes, time_text}
use Rattle.stream_watch.specs.RefreshRow.{reported_told}
use Rattle.stream_watch.specs.State.{State, Told, line_told, nothing, told_then}
use Rattle.stream_watch.specs.Steps.{Step, changes_in}
use Rattle.stream_watch.specs.Words.{provisioner_words, step_words}
use Rattle.stream_watch.specs.declared.counts.Counts.{Counts}
use Rattle.stream_watch.specs.declared.looks.Looks.{Looks}
use Rattle.stream_watch.specs.declared.mark.Mark.TheVariants as mark

-- ---- steps that have no end

unfoldable pub without_end_words : (now : ℤ) → Step → List ℕ
without_end_words now step =
    step_words step.action step.address ++ provisioner_words step.provisioner ++ codes " has no end, "
    ++ time_text (int_gap step.begin now) ++ codes " so far"

abbrev pub without_end_line : (width : Option ℕ) → (has_colour : Bool) → (elapsed : ℕ) → (now : ℤ) → Step → List ℕ
without_end_line width has_colour elapsed now step = line_bytes width has_colour elapsed mark.NoEnd (without_end_words now step)

-- the first twenty of them
abbrev pub first_open_told : Looks → State → Told
first_open_told looks state = record {
  bytes = flat_map (without_end_line looks.width looks.has_colour (elapsed state.clock) state.clock.now) (take 20 state.steps);
  state = state;
}

abbrev pub more_without_end_words : ℕ → List ℕ
more_without_end_words count = codes "and " ++ grouped count ++ codes " more have no end"

-- so many more of them
abbrev pub more_told : ℕ → Looks → State → Told
more_told count looks state =
    if nat_lt 0 count then line_told looks state mark.NoEnd (more_without_end_words count) else nothing state

abbrev pub more_open_told : Looks → State → Told
more_open_told looks state = more_told (length state.steps - 20) looks state

-- the first twenty of them, and how many more there are
abbrev pub open_told : Looks → State → Told
open_told looks state = told_then (first_open_told looks state) (more_open_told looks)

abbrev pub open_told_unless : (is_whole : Bool) → Looks → State → Told
open_told_unless is_whole looks state = if is_whole then nothing state else open_told looks state

-- ---- planned steps

unfoldable pub left_part : ℕ → (words : List ℕ) → List ℕ
left_part count words = if nat_lt 0 count then codes ", " ++ grouped count ++ words else []

unfoldable pub done_of_planned : Counts → List ℕ
done_of_planned counts = grouped counts.done ++ codes " of " ++ grouped counts.planned ++ codes " planned steps done"

-- what became of the planned steps, of which so many are open
unfoldable pub planned_steps_words : Counts → (open_steps : ℕ) → List ℕ
planned_steps_words counts open_steps =
    done_of_planned counts ++ left_part counts.failed (codes " failed") ++ left_part open_steps (codes " without an end")
    ++ left_part (counts.planned - counts.done - counts.failed - open_steps) (codes " never began")

-- changes were planned, some began, and not all are done
abbrev pub are_left : Counts → Bool
are_left counts = nat_lt 0 counts.planned && nat_lt 0 counts.begun && nat_lt counts.done counts.planned

abbrev pub left_told : Looks → State → Told
left_told looks state = line_told looks state mark.Sum (planned_steps_words state.counts (changes_in state.steps))

abbrev pub planned_steps_told : Looks → State → Told
planned_steps_told looks state = if are_left state.counts then left_told looks state else nothing state

-- ---- all of it

-- refreshes, steps without an end unless the stream is whole, and planned steps
abbrev pub end_told : Looks → (is_whole : Bool) → State → Told
end_told looks is_whole state =
    told_then (told_then (reported_told looks state) (open_told_unless is_whole looks)) (planned_steps_told looks)
