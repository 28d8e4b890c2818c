-- What a builder stores next to the time line, for private clauses.
use Rattle.std.specs.Prelude.{◌≡◌, ◌<◌, ◌≤◌, ◌+◌, ◌++◌, ◌∷◌, ℕ, List, [], length, min, nat_lt, Bool, if◌then◌else◌, ⊤, Result, Ok, Err}
use Rattle.stream_timeline.specs.declared.reading.timeline_fault.TimelineFault.{TimelineFault}
use Rattle.stream_timeline.specs.declared.reading.timeline_fault.TimelineFault.TheVariants as fault
use Rattle.stream_timeline.specs.declared.reading.builder.TimelineBuilder.{TimelineBuilder}
use Rattle.stream_timeline.specs.Details.{DiagnosticRead}
use Rattle.stream_timeline.specs.OpenPlaces.{HoldsPlaces}
use Rattle.stream_timeline.specs.Steps.{StepRead, at_place, marked}
use Rattle.stream_timeline.specs.TimelineRead.{DiagnosticsRead, TimelineRead, max_stored, max_lines, max_steps}

-- One more diagnostic. The count stops at its greatest value.
abbrev pub added : DiagnosticRead → DiagnosticsRead → DiagnosticsRead
added d ds = record {
  stored = if nat_lt (length ds.stored) max_stored then ds.stored ++ d ∷ [] else ds.stored;
  count = min (ds.count + 1) 18446744073709551615;
}

-- A line is counted, and the run that begins with it. The count of runs stops at its greatest value.
abbrev pub counted_up : (begins_run : Bool) → TimelineRead → TimelineRead
counted_up begins_run t = record t {
  lines = t.lines + 1;
  runs = if begins_run then min (t.runs + 1) 18446744073709551615 else t.runs;
}

-- the steps at these places are marked, one after another
abbrev pub marked_at : List ℕ → List StepRead → List StepRead
marked_at [] steps = steps
marked_at (place ∷ places) steps = marked_at places (at_place place marked steps)

-- The builder has read lines with this time line: it stores the time line and the places of the
-- open steps. The steps and provisioners are within the limit, and no count is greater than that of
-- the lines.
pub record HasRead (builder : TimelineBuilder) (timeline : TimelineRead) : Type 0 where
  pub is : builder.timeline ≡ timeline
  pub opened : HoldsPlaces builder.opened timeline.steps
  pub begun : timeline.begun ≤ max_steps
  pub lines : timeline.lines ≤ max_lines
  pub runs : timeline.runs ≤ timeline.lines
  pub passed_over : timeline.passed_over ≤ timeline.lines
  pub errors : timeline.errors.count ≤ timeline.lines
  pub warnings : timeline.warnings.count ≤ timeline.lines

-- As `HasRead`, but a line was counted, with its run, that has still to be applied. So each other
-- count may grow by one.
pub record IsReadingLine (builder : TimelineBuilder) (timeline : TimelineRead) : Type 0 where
  pub is : builder.timeline ≡ timeline
  pub opened : HoldsPlaces builder.opened timeline.steps
  pub begun : timeline.begun ≤ max_steps
  pub lines : timeline.lines ≤ max_lines
  pub runs : timeline.runs ≤ timeline.lines
  pub passed_over : timeline.passed_over < timeline.lines
  pub errors : timeline.errors.count < timeline.lines
  pub warnings : timeline.warnings.count < timeline.lines

-- one step or provisioner more than the limit has begun
abbrev pub IsTooMuch : TimelineRead → Type 0
IsTooMuch timeline = max_steps < timeline.begun

-- the result of reading one more line, or of applying what it states
abbrev pub ReadsMore : (Before : TimelineRead → Type 0) → (new : TimelineBuilder) → (TimelineRead → TimelineRead) → Result (Unit {0}) TimelineFault
    → Type 0
ReadsMore Before new more (Ok done) = (timeline : TimelineRead) → Before timeline → HasRead new (more timeline)
ReadsMore Before new more (Err fault.TooManySteps) = (timeline : TimelineRead) → Before timeline → IsTooMuch (more timeline)
ReadsMore Before new more (Err fault.Memory) = ⊤
ReadsMore Before new more (Err fault.TooManyLines) = ⊥
ReadsMore Before new more (Err (fault.TooLong number)) = ⊥
ReadsMore Before new more (Err fault.NoMessage) = ⊥
ReadsMore Before new more (Err (fault.Unread failed)) = ⊥
