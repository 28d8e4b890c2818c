-- The state of an apply that is watched, and what is told of it.
use Rattle.std.specs.Prelude.{◌≡◌, ◌++◌, ◌&&◌, [], ℕ, List, if◌then◌else◌}
use Rattle.term_words.specs.MessageTexts.{AppendsText}
use Rattle.stream_watch.specs.Clock.{elapsed, no_time}
use Rattle.stream_watch.specs.Counts.{no_counts}
use Rattle.stream_watch.specs.Lengths.{KindLength, lengths_of}
use Rattle.stream_watch.specs.Marks.{is_in_panel}
use Rattle.stream_watch.specs.Printed.{further_bytes, line_bytes}
use Rattle.stream_watch.specs.Refreshes.{none_after}
use Rattle.stream_watch.specs.Steps.{Step, steps_of}
use Rattle.stream_watch.specs.declared.clock.Clock.{Clock}
use Rattle.stream_watch.specs.declared.counts.Counts.{Counts}
use Rattle.stream_watch.specs.declared.looks.Looks.{Looks}
use Rattle.stream_watch.specs.declared.mark.Mark.{Mark}
use Rattle.stream_watch.specs.declared.refreshes.Refreshes.{Refreshes}
use Rattle.stream_watch.specs.declared.watcher.Watcher.{Watcher}

pub record State : Type 0 where
  pub clock : Clock
  pub steps : List Step
  pub counts : Counts
  pub refreshes : Refreshes
  pub lengths : List KindLength
  -- how many marks had passed when the steps under way were last told
  pub marks : ℕ

-- the state before the first line
abbrev pub beginning : State
beginning = record { clock = no_time; steps = []; counts = no_counts; refreshes = none_after 0; lengths = []; marks = 0 }

abbrev pub state_of : Watcher → State
state_of watcher = record {
  clock = watcher.clock;
  steps = steps_of watcher.steps;
  counts = watcher.counts;
  refreshes = watcher.refreshes;
  lengths = lengths_of watcher.lengths;
  marks = watcher.marks;
}

abbrev pub looks_of : Watcher → Looks
looks_of watcher = record { width = watcher.printer.width; has_colour = watcher.printer.has_colour; has_panel = watcher.has_panel }

-- ---- what is told

-- what is told, and the state behind it
pub record Told : Type 0 where
  pub bytes : List ℕ
  pub state : State

abbrev pub nothing : State → Told
nothing state = record { bytes = []; state = state }

-- this, and then what is told in the state that it leaves
abbrev pub told_then : Told → (State → Told) → Told
told_then told next = record { bytes = told.bytes ++ (next told.state).bytes; state = (next told.state).state }

-- A text with a mark and the time of the stream. Where there is a panel, what it shows is not told.
unfoldable pub line_at : Looks → State → Mark → (text : List ℕ) → List ℕ
line_at looks state mark text =
    if looks.has_panel && is_in_panel mark then [] else line_bytes looks.width looks.has_colour (elapsed state.clock) mark text

abbrev pub line_told : Looks → State → Mark → (text : List ℕ) → Told
line_told looks state mark text = record { bytes = line_at looks state mark text; state = state }

-- a text that belongs to a line with this mark
abbrev pub further_line : Looks → Mark → (text : List ℕ) → List ℕ
further_line looks mark text = further_bytes looks.width looks.has_colour mark text

abbrev pub further_told : Looks → State → Mark → (text : List ℕ) → Told
further_told looks state mark text = record { bytes = further_line looks mark text; state = state }

-- Unless memory was refused, this was told.
pub record Tells (before after : Watcher) (told : Told) : Type 0 where
  pub looks : looks_of after ≡ looks_of before
  pub find : after.find ≡ before.find
  pub state : state_of after ≡ told.state
  pub bytes : AppendsText before.printer.printed after.printer.printed told.bytes
