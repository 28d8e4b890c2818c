-- From what holds before a line, or before its content, to the result.
use Rattle.std.proofs.Common.{◌≡◌, ◌<◌, ◌≤◌, ℕ, ℤ, ◌+◌, Option, Some, List, Bool, true, false, cond, Result, Ok, Err, refl, sym, ap, ◌∙◌, subst, arith}
use Rattle.std.specs.Prelude.{min}
use Rattle.stream_timeline.specs.declared.reading.timeline_fault.TimelineFault.{TimelineFault}
use Rattle.stream_timeline.specs.declared.reading.timeline_fault.TimelineFault.TheVariants as fault
use Rattle.stream_timeline.specs.declared.reading.builder.TimelineBuilder.{TimelineBuilder}
use Rattle.stream_timeline.specs.Messages.{Message, message_of}
use Rattle.stream_timeline.specs.SlotContents.{time_only}
use Rattle.stream_timeline.specs.TimeRange.{with_time}
use Rattle.stream_timeline.specs.declared.reading.open_places.OpenPlaces.{OpenPlaces}
use Rattle.stream_timeline.specs.OpenPlaces.{HoldsPlaces}
use Rattle.stream_timeline.specs.TimelineRead.{TimelineRead, counted, max_lines, is_blank_line, with_line_content, with_message_or_passed_over, with_passed_over}
use Rattle.stream_timeline.specs.Building.{ReadsMore, HasRead, IsTooMuch, IsReadingLine, counted_up}

-- ---- answers

pub held_by : (new last : TimelineBuilder) (t : TimelineRead) → last.timeline ≡ new.timeline → last.opened ≡ new.opened → HasRead new t → HasRead last t
held_by new last t timeline opened h = record {
  is = timeline ∙ h.is;
  opened = subst (λ (o : OpenPlaces). HoldsPlaces o t.steps) (sym opened) h.opened;
  begun = h.begun;
  lines = h.lines;
  runs = h.runs;
  passed_over = h.passed_over;
  errors = h.errors;
  warnings = h.warnings;
}

-- the same result, if what holds before implies what the result needs; the scratch does not matter
module _ (Before Then : TimelineRead → Type 0) (new last : TimelineBuilder) (f g : TimelineRead → TimelineRead) (timeline : last.timeline ≡ new.timeline) (opened : last.opened ≡ new.opened) where
  pub goes_from : (r : Result (Unit {0}) TimelineFault) → ((t : TimelineRead) → Before t → (u : TimelineRead) × Then u × (f u ≡ g t)) → ReadsMore Then new f r → ReadsMore Before last g r
  goes_from (Ok done) leads h = λ t b. let k = leads t b in held_by new last (g t) timeline opened (subst (λ (u : TimelineRead). HasRead new u) k.2 (h k.0 k.1))
  goes_from (Err fault.TooManySteps) leads h = λ t b. let k = leads t b in subst (λ (u : TimelineRead). IsTooMuch u) k.2 (h k.0 k.1)
  goes_from (Err fault.Memory) leads h = tt
  goes_from (Err fault.TooManyLines) leads h = h
  goes_from (Err (fault.TooLong number)) leads h = h
  goes_from (Err fault.NoMessage) leads h = h
  goes_from (Err (fault.Unread failed)) leads h = h

-- ---- a line is counted

one_more : (begins_run : Bool) (n m : ℕ) → n ≤ m → cond begins_run (n + 1) n ≤ m + 1
one_more true n m few = omega (arith, few)
one_more false n m few = omega (arith, few)

-- the count of runs never stops
counted_all : (begins_run : Bool) (t : TimelineRead) → t.runs ≤ t.lines → t.lines ≤ max_lines → counted_up begins_run t ≡ counted begins_run t
counted_all true t few most =
    let all : min (t.runs + 1) 18446744073709551615 ≡ t.runs + 1 = omega (arith, few, most) in
    ap (λ (n : ℕ). record t { lines = t.lines + 1; runs = n }) all
counted_all false t few most = refl

pub counted_takes : (old new : TimelineBuilder) (begins_run : Bool) (t : TimelineRead) → HasRead old t → new.timeline ≡ counted_up begins_run old.timeline → old.timeline.lines < max_lines
    → new.opened ≡ old.opened → IsReadingLine new (counted begins_run t)
counted_takes old new begins_run t h is room at =
    let lines : old.timeline.lines ≡ t.lines = ap (λ (x : TimelineRead). x.lines) h.is in
    record {
      is = is ∙ (ap (counted_up begins_run) h.is ∙ counted_all begins_run t h.runs h.lines);
      opened = subst (λ (o : OpenPlaces). HoldsPlaces o t.steps) (sym at) h.opened;
      begun = h.begun;
      lines = omega (arith, lines, room);
      runs = one_more begins_run t.runs t.lines h.runs;
      passed_over = omega (arith, h.passed_over);
      errors = omega (arith, h.errors);
      warnings = omega (arith, h.warnings);
    }

-- a line that states nothing is read when it is counted
pub line_alone : (builder : TimelineBuilder) (t : TimelineRead) → IsReadingLine builder t → HasRead builder t
line_alone builder t h = record {
  is = h.is;
  opened = h.opened;
  begun = h.begun;
  lines = h.lines;
  runs = h.runs;
  passed_over = omega (arith, h.passed_over);
  errors = omega (arith, h.errors);
  warnings = omega (arith, h.warnings);
}

-- a line that is no message is passed over
pub passed_read : (old new : TimelineBuilder) (t : TimelineRead) → IsReadingLine old t
    → new.timeline ≡ record old.timeline { passed_over = min (old.timeline.passed_over + 1) 18446744073709551615 } → new.opened ≡ old.opened
    → HasRead new (with_passed_over t)
passed_read old new t h is at =
    let all : min (t.passed_over + 1) 18446744073709551615 ≡ t.passed_over + 1 = omega (arith, h.passed_over, h.lines) in
    record {
      is = is
          ∙ (ap (λ (x : TimelineRead). record x { passed_over = min (x.passed_over + 1) 18446744073709551615 }) h.is
          ∙ ap (λ (n : ℕ). record t { passed_over = n }) all);
      opened = subst (λ (o : OpenPlaces). HoldsPlaces o t.steps) (sym at) h.opened;
      begun = h.begun;
      lines = h.lines;
      runs = h.runs;
      passed_over = omega (arith, h.passed_over);
      errors = omega (arith, h.errors);
      warnings = omega (arith, h.warnings);
    }

-- a line that is not blank adds what its message states
pub not_blank : (line : List ℕ) (t : TimelineRead) → is_blank_line line ≡ false → with_message_or_passed_over (message_of line) t ≡ with_line_content line t
not_blank line t other = rw other refl

-- a line that only contributes its timestamp
pub time_only_read : (old new : TimelineBuilder) (t : TimelineRead) (line : List ℕ) (time : ℤ) → IsReadingLine old t
    → new.timeline ≡ record old.timeline { time_range = Some (with_time time old.timeline.time_range) } → new.opened ≡ old.opened
    → message_of line ≡ Some (time_only time) → HasRead new (with_message_or_passed_over (message_of line) t)
time_only_read old new t line time reading is at value =
    let held : HasRead new (record t { time_range = Some (with_time time t.time_range) }) = record {
      is = is ∙ ap (λ (x : TimelineRead). record x { time_range = Some (with_time time x.time_range) }) reading.is;
      opened = subst (λ (o : OpenPlaces). HoldsPlaces o t.steps) (sym at) reading.opened;
      begun = reading.begun;
      lines = reading.lines;
      runs = reading.runs;
      passed_over = omega (arith, reading.passed_over);
      errors = omega (arith, reading.errors);
      warnings = omega (arith, reading.warnings);
    } in
    subst (λ (u : TimelineRead). HasRead new u) (ap (λ (m : Option Message). with_message_or_passed_over m t) (sym value)) held
