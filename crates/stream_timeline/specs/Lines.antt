-- The result of reading a whole stream.
use Rattle.std.specs.Prelude.{◌≡◌, ◌<◌, ◌≤◌, ℕ, All, Bool, List, codes, count_by, if◌then◌else◌, length, map, take, unwrap_or, ⊤, None, Result, Ok, Err}
use Rattle.stream_lines.specs.Cut.{cut_lines, line_at}
use Rattle.stream_lines.specs.Limits.{max_bytes}
use Rattle.stream_message.specs.Located.{message_text}
use Rattle.stream_message.specs.Runs.{begins_run}
use Rattle.stream_timeline.specs.declared.reading.timeline_fault.TimelineFault.{TimelineFault}
use Rattle.stream_timeline.specs.declared.reading.timeline_fault.TimelineFault.TheVariants as fault
use Rattle.stream_timeline.specs.TimelineRead.{TimelineRead, is_blank_line, max_lines, max_steps, timeline_of}

-- The line as it is read. With `find` it is the message in the line of a log. A line without one
-- becomes `{}`, which is no message, unless it is blank.
abbrev pub log_line : (find : Bool) → List ℕ → List ℕ
log_line find line =
    if find then (if is_blank_line line then line else unwrap_or (message_text line) (codes "{}")) else line

-- the time line of lines as they are read
abbrev pub timeline_in : (find : Bool) → List (List ℕ) → TimelineRead
timeline_in find lines = timeline_of (map (log_line find) lines)

-- The time line is that of these lines, and its runs are those that begin in them. No line is longer
-- than the limit, and the lines, steps and provisioners are not more than theirs.
pub record AreRead (find : Bool) (lines : List (List ℕ)) (timeline : TimelineRead) : Type 0 where
  pub is : timeline ≡ timeline_in find lines
  pub runs : timeline.runs ≡ count_by (begins_run find) lines
  pub begun : timeline.begun ≤ max_steps
  pub number : length lines ≤ max_lines
  pub lengths : All (λ line. length line ≤ max_bytes) lines

-- The result of reading these bytes: the time line of all lines, or why there is none. A failed
-- read and refused memory are left open.
abbrev pub IsReadOf : (find : Bool) → List ℕ → Result TimelineRead TimelineFault → Type 0
IsReadOf find bytes (Ok timeline) = AreRead find (cut_lines bytes) timeline
IsReadOf find bytes (Err (fault.TooLong number)) = max_bytes < length (line_at number bytes)
IsReadOf find bytes (Err fault.TooManyLines) = max_lines < length (cut_lines bytes)
IsReadOf find bytes (Err fault.TooManySteps) = (count : ℕ) × (max_steps < (timeline_in find (take count (cut_lines bytes))).begun)
IsReadOf find bytes (Err fault.NoMessage) = (timeline_in find (cut_lines bytes)).time_range ≡ None
IsReadOf find bytes (Err (fault.Unread failed)) = ⊤
IsReadOf find bytes (Err fault.Memory) = ⊤
