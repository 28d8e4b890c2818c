-- The steps of a stream lie between its first time and its last.
use Rattle.std.proofs.Common.{◌≡◌, ℕ, ◌+◌, ◌≤◌, ℤ, ◌≤ℤ◌, List, [], ◌∷◌, ◌++◌, Bool, true, false, map, Option, Some, None, fold, suc, zero, refl, sym, subst, ⊎_elim, arith}
use Rattle.std.specs.Prelude.{IfSome, int_lt, unwrap_or}
use Rattle.std.specs.Int.{int_gap, int_max}
use Rattle.std.specs.List.{AllByRecursion}
use Rattle.std.specs.Option.{option_map_or}
use Rattle.std.proofs.lemmas.Bool.{cases_Bool}
use Rattle.std.proofs.lemmas.Int.{clamps, ints}
use Rattle.stream_timeline.specs.declared.reading.time_range.TimeRange.{TimeRange}
use Rattle.stream_timeline.specs.Intervals.{intervals_from, intervals_of, is_counted, span_of, until_of}
use Rattle.stream_timeline.specs.Messages.{Message, Content, begins, ends, begins_provisioner, ends_provisioner, error, warning, version, plan_summary, summary, other, unusable, message_of}
use Rattle.stream_timeline.specs.TimeRange.{with_time}
use Rattle.stream_timeline.specs.Numbers.{busy_in}
use Rattle.stream_timeline.specs.Steps.{StepRead, at_place, begun_step, ended, first_of, is_open_at, is_open_with, last_of, marked_by_error, passes_at, places, has_open_provisioner, with_provisioner, with_provisioner_ended}
use Rattle.stream_timeline.specs.Stretches.{stretches_of}
use Rattle.stream_timeline.specs.TimelineRead.{TimelineRead, counted_line, is_blank_line, empty_timeline, timeline_of, with_line, with_message_or_passed_over, with_passed_over, with_provisioner_end_at, with_content}
use Rattle.stream_timeline.proofs.Bounds.{EndsBy, busy_le_lengths, gap_rises, intervals_ordered, lengths_within}

-- it begins and ends between these
record Lies (m : TimeRange) (s : StepRead) : Type 0 where
  first : m.first ≤ℤ s.begin
  last : s.begin ≤ℤ m.last
  end : IfSome s.end (λ timeline. timeline ≤ℤ m.last)

abbrev AllLie : TimeRange → List StepRead → Type 0
AllLie m steps = AllByRecursion (Lies m) steps

-- ---- with one moment more

wider_end : (m : TimeRange) (time : ℤ) (o : Option ℤ) → IfSome o (λ timeline. timeline ≤ℤ m.last) → IfSome o (λ timeline. timeline ≤ℤ int_max m.last time)
wider_end m time None h = tt
wider_end m time (Some timeline) h = omega (arith, ints, clamps)

wider : (m : TimeRange) (time : ℤ) (s : StepRead) → Lies m s → Lies (with_time time (Some m)) s
wider m time s h = record { first = let l = h.first in omega (arith, ints, clamps); last = let l = h.last in omega (arith, ints, clamps); end = wider_end m time s.end h.end }

all_wider : (m : TimeRange) (time : ℤ) (steps : List StepRead) → AllLie m steps → AllLie (with_time time (Some m)) steps
all_wider m time [] h = tt
all_wider m time (s ∷ ss) h = (wider m time s h.0, all_wider m time ss h.1)

-- ---- what becomes of steps

abbrev IsAt : TimeRange → ℤ → Type 0
IsAt m time = (m.first ≤ℤ time) × (time ≤ℤ m.last)

placed : (m : TimeRange) (k : ℕ) (f : StepRead → StepRead) (steps : List StepRead) → ((s : StepRead) → Lies m s → Lies m (f s)) → AllLie m steps → AllLie m (at_place k f steps)
placed m k f [] more h = tt
placed m zero f (s ∷ ss) more h = (more s h.0, h.1)
placed m (suc k) f (s ∷ ss) more h = (h.0, placed m k f ss more h.1)

pushed : (m : TimeRange) (steps : List StepRead) (s : StepRead) → AllLie m steps → Lies m s → AllLie m (steps ++ s ∷ [])
pushed m [] s h l = (l, tt)
pushed m (x ∷ xs) s h l = (h.0, pushed m xs s h.1 l)

ended_lies : (m : TimeRange) (time : ℤ) (failed : Bool) (s : StepRead) → IsAt m time → Lies m s → Lies m (ended time failed s)
ended_lies m time failed s at h = record { first = h.first; last = h.last; end = let a = at.1 in let l = h.last in omega (arith, ints, clamps) }

marked_lies : (m : TimeRange) (address : Option (List ℕ)) (s : StepRead) → Lies m s → Lies m (marked_by_error address s)
marked_lies m None s h = h
marked_lies m (Some a) s h =
    ⊎_elim
    (λ (yes : is_open_at a s ≡ true). rw yes (record { first = h.first; last = h.last; end = h.end }))
    (λ (no : is_open_at a s ≡ false). rw no h)
    (cases_Bool (is_open_at a s))

all_marked : (m : TimeRange) (address : Option (List ℕ)) (steps : List StepRead) → AllLie m steps → AllLie m (map (marked_by_error address) steps)
all_marked m address [] h = tt
all_marked m address (s ∷ ss) h = (marked_lies m address s h.0, all_marked m address ss h.1)

-- ---- what a message says

-- the time range stays, and so do the steps in it
record Stays (m : TimeRange) (t u : TimelineRead) : Type 0 where
  time_range : u.time_range ≡ t.time_range
  steps : AllLie m u.steps

stay_where : (m : TimeRange) (more : ℕ → TimelineRead) (o : Option ℕ) (none t : TimelineRead) → ((place : ℕ) → Stays m t (more place)) → Stays m t none → Stays m t (option_map_or more o none)
stay_where m more None none t h k = k
stay_where m more (Some place) none t h k = h place

provisioner_end_stays : (m : TimeRange) (place : ℕ) (failed : Bool) (time : ℤ) (t : TimelineRead) → AllLie m t.steps → Stays m t (with_provisioner_end_at place failed time t)
provisioner_end_stays m place failed time t h =
    ⊎_elim
    (λ (yes : passes_at place has_open_provisioner t.steps ≡ true).
    rw yes (record { time_range = refl; steps = placed m place (with_provisioner_ended time failed) t.steps (λ s k. record { first = k.first; last = k.last; end = k.end }) h }))
    (λ (no : passes_at place has_open_provisioner t.steps ≡ false). rw no (record { time_range = refl; steps = h }))
    (cases_Bool (passes_at place has_open_provisioner t.steps))

content_stays : (m : TimeRange) (time : ℤ) (content : Content) (t : TimelineRead) → IsAt m time → AllLie m t.steps → Stays m t (with_content time content t)
content_stays m time (begins address action) t at h = record { time_range = refl; steps = pushed m t.steps (begun_step t.lines address action time) h (record { first = at.0; last = at.1; end = tt }) }
content_stays m time (ends address action failed) t at h =
    stay_where m _ (first_of (places (is_open_with address action) t.steps)) (with_passed_over t) t
    (λ place. record { time_range = refl; steps = placed m place (ended time failed) t.steps (λ s k. ended_lies m time failed s at k) h }) (record { time_range = refl; steps = h })
content_stays m time (begins_provisioner address name) t at h =
    stay_where m _ (last_of (places (is_open_at address) t.steps)) (with_passed_over t) t
    (λ place. record { time_range = refl; steps = placed m place (with_provisioner name time) t.steps (λ s k. record { first = k.first; last = k.last; end = k.end }) h }) (record { time_range = refl; steps = h })
content_stays m time (ends_provisioner address failed) t at h =
    stay_where m _ (last_of (places (is_open_at address) t.steps)) (with_passed_over t) t (λ place. provisioner_end_stays m place failed time t h) (record { time_range = refl; steps = h })
content_stays m time (error address d) t at h = record { time_range = refl; steps = all_marked m address t.steps h }
content_stays m time (warning d) t at h = record { time_range = refl; steps = h }
content_stays m time (version text) t at h = record { time_range = refl; steps = h }
content_stays m time (plan_summary totals) t at h = record { time_range = refl; steps = h }
content_stays m time (summary totals) t at h = record { time_range = refl; steps = h }
content_stays m time other t at h = record { time_range = refl; steps = h }
content_stays m time unusable t at h = record { time_range = refl; steps = h }

-- ---- a line

-- without a timestamp there is no step
abbrev Spans : Option TimeRange → List StepRead → Type 0
Spans None steps = steps ≡ []
Spans (Some m) steps = AllLie m steps

seen_at : (o : Option TimeRange) (time : ℤ) → IsAt (with_time time o) time
seen_at None time = (omega (arith, ints), omega (arith, ints))
seen_at (Some m) time = (omega (arith, ints, clamps), omega (arith, ints, clamps))

seen_spans : (o : Option TimeRange) (time : ℤ) (steps : List StepRead) → Spans o steps → AllLie (with_time time o) steps
seen_spans None time steps h = subst (λ ss. AllLie (with_time time None) ss) (sym h) tt
seen_spans (Some m) time steps h = all_wider m time steps h

message_spans : (message : Option Message) (t : TimelineRead) → Spans t.time_range t.steps → (let u : TimelineRead = with_message_or_passed_over message t in Spans u.time_range u.steps)
message_spans None t h = h
message_spans (Some message) t h =
    let m = with_time message.time t.time_range in
    let stays = content_stays m message.time message.content (record t { time_range = Some m }) (seen_at t.time_range message.time) (seen_spans t.time_range message.time t.steps h) in
    subst (λ (o : Option TimeRange). Spans o (with_content message.time message.content (record t { time_range = Some m })).steps) (sym stays.time_range) stays.steps

line_spans : (line : List ℕ) (t : TimelineRead) → Spans t.time_range t.steps → Spans (with_line line t).time_range (with_line line t).steps
line_spans line t h =
    ⊎_elim
    (λ (yes : is_blank_line line ≡ true). rw yes h)
    (λ (no : is_blank_line line ≡ false). rw no (message_spans (message_of line) (counted_line line t) h))
    (cases_Bool (is_blank_line line))

all_spans : (lines : List (List ℕ)) (t : TimelineRead) → Spans t.time_range t.steps → (let u : TimelineRead = fold (λ t line. with_line line t) t lines in Spans u.time_range u.steps)
all_spans [] t h = h
all_spans (line ∷ lines) t h = all_spans lines (with_line line t) (line_spans line t h)

steps_lie : (lines : List (List ℕ)) (m : TimeRange) → (timeline_of lines).time_range ≡ Some m → AllLie m (timeline_of lines).steps
steps_lie lines m is = subst (λ (o : Option TimeRange). Spans o (timeline_of lines).steps) is (all_spans lines empty_timeline refl)

-- ---- the intervals end within the span

not_after : (a b : ℤ) → a ≤ℤ b → int_lt b a ≡ false
not_after a b l = grind (arith, ints)

until_by : (m : TimeRange) (s : StepRead) (o : Option ℤ) → s.begin ≤ℤ m.last → IfSome o (λ timeline. timeline ≤ℤ m.last) → int_max s.begin (unwrap_or o m.last) ≤ℤ m.last
until_by m s None l h = omega (arith, ints, clamps)
until_by m s (Some timeline) l h = omega (arith, ints, clamps)

ends_within : (m : TimeRange) (s : StepRead) → Lies m s → int_gap m.first (until_of m s) ≤ span_of m
ends_within m s h = gap_rises m.first (until_of m s) m.last (not_after (until_of m s) m.last (until_by m s s.end h.last h.end))

within_from : (m : TimeRange) (n : ℕ) (steps : List StepRead) → AllLie m steps → AllByRecursion (EndsBy (span_of m)) (intervals_from m n steps)
within_from m n [] h = tt
within_from m n (s ∷ ss) h =
    ⊎_elim
    (λ (yes : is_counted s ≡ true). rw yes (ends_within m s h.0, within_from m (n + 1) ss h.1))
    (λ (no : is_counted s ≡ false). rw no (within_from m (n + 1) ss h.1))
    (cases_Bool (is_counted s))

pub busy_le_span : (lines : List (List ℕ)) (m : TimeRange) → (timeline_of lines).time_range ≡ Some m → busy_in (stretches_of (intervals_of m (timeline_of lines).steps)) ≤ span_of m
busy_le_span lines m is =
    let all = busy_le_lengths (stretches_of (intervals_of m (timeline_of lines).steps)) in
    let fits = lengths_within (span_of m) (intervals_of m (timeline_of lines).steps) (intervals_ordered m (timeline_of lines).steps) (within_from m 0 (timeline_of lines).steps (steps_lie lines m is)) in
    omega (arith, all, fits)
