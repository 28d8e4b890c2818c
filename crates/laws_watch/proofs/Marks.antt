-- Marks of the time pass one after another, and what is under way is told once at most for each.
use Rattle.std.proofs.Common.{◌≡◌, ℕ, ℤ, pos, negsuc, ◌+◌, ◌/◌, ◌<◌, ◌≤◌, List, [], ◌∷◌, ◌&&◌, Bool, true, false, Option, None, Some, arith, if◌then◌else◌, is_some, refl, subst, sym, unwrap_or, ⊎_elim}
use Rattle.std.specs.Prelude.{int_lt, nat_lt}
use Rattle.std.specs.List.{count_by}
use Rattle.std.specs.Int.{int_gap, int_max}
use Rattle.std.proofs.lemmas.Bool.{cases_Bool, ltb-false, ltb-true}
use Rattle.std.proofs.lemmas.Bool.Decides.{nat_tests}
use Rattle.serde_json.specs.Data.{Data}
use Rattle.stream_watch.specs.Clock.{after, elapsed}
use Rattle.stream_watch.specs.Counts.{plus}
use Rattle.stream_watch.specs.Progress.{early_marks, is_due, marks_at, slow_told}
use Rattle.stream_watch.specs.Reading.{message_of}
use Rattle.stream_watch.specs.State.{State, beginning, nothing}
use Rattle.stream_watch.specs.Stream.{lines_told}
use Rattle.stream_watch.specs.Telling.{at_moment, message_or_line_told, moment_of, passed_told, text_told, told_at, under_way_told_if}
use Rattle.stream_watch.specs.declared.clock.Clock.{Clock}
use Rattle.stream_watch.specs.declared.looks.Looks.{Looks}
use Rattle.laws_watch.specs.Rows.{timed_marks}
use Rattle.laws_watch.specs.Told.{AreToldInRows, is_under_way, tells_under_way, under_way_after, under_way_rows}
use Rattle.laws_watch.proofs.LineRows.{message_rows, passed_rows}
use Rattle.laws_watch.proofs.Own.{KeepsTime}

-- ---- the time

gap_rises : (f a x : ℤ) → int_lt x a ≡ false → int_gap f a ≤ int_gap f x
gap_rises (pos k) (pos m) (pos n) e = let le : m ≤ n = ltb-false n m e in omega arith
gap_rises (negsuc k) (pos m) (pos n) e = let le : m ≤ n = ltb-false n m e in omega arith
gap_rises f (pos m) (negsuc n) e = absurd cc
gap_rises (pos k) (negsuc m) (pos n) e = omega arith
gap_rises (negsuc k) (negsuc m) (pos n) e = omega arith
gap_rises (pos k) (negsuc m) (negsuc n) e = omega arith
gap_rises (negsuc k) (negsuc m) (negsuc n) e = let le : n ≤ m = ltb-false m n e in omega arith

gap_max : (f a x : ℤ) → int_gap f a ≤ int_gap f (int_max a x)
gap_max f a x =
    ⊎_elim
    (λ (yes : int_lt x a ≡ true). rw yes (omega arith))
    (λ (less : int_lt x a ≡ false). rw less (gap_rises f a x less))
    (cases_Bool (int_lt x a))

-- before the first moment, no time has passed
abbrev Starts : Clock → Type 0
Starts clock = clock.count ≡ 0 → elapsed clock ≡ 0

record GoesOn (before after : Clock) : Type 0 where
  elapsed : elapsed before ≤ elapsed after
  starts : Starts after

moment_goes_on : (counts : Bool) (moment : ℤ) (clock : Clock) → nat_lt 0 clock.count ≡ counts → Starts clock
    → GoesOn clock (if counts then record { first = clock.first; now = int_max clock.now moment; count = plus clock.count 1 }
    else record { first = moment; now = moment; count = 1 })
moment_goes_on true moment clock some starts =
    let more : 0 < clock.count = ltb-true 0 clock.count some in
    record { elapsed = gap_max clock.first clock.now moment; starts = λ none. absurd (omega (arith, none)) }
moment_goes_on false moment clock none starts =
    let first : clock.count ≤ 0 = ltb-false 0 clock.count none in
    let zero : clock.count ≡ 0 = omega arith in
    let nothing : elapsed clock ≡ 0 = starts zero in
    record { elapsed = omega arith; starts = λ none. absurd (omega (arith, none)) }

goes_on : (moment : Option ℤ) (clock : Clock) → Starts clock → GoesOn clock (after moment clock)
goes_on None clock starts = record { elapsed = omega arith; starts = starts }
goes_on (Some moment) clock starts = moment_goes_on (nat_lt 0 clock.count) moment clock refl starts

-- ---- marks of the time

early_rise : (n m : ℕ) → n ≤ m → early_marks n ≤ early_marks m
early_rise n m le = grind (arith, nat_tests)

pub marks_rise : (sooner later : ℕ) → sooner ≤ later → marks_at sooner ≤ marks_at later
marks_rise sooner later le =
    let seconds : sooner / 1000000 ≤ later / 1000000 = omega arith in
    let early = early_rise (sooner / 1000000) (later / 1000000) seconds in
    omega (arith, early)

early_few : (n : ℕ) → early_marks n ≤ 2
early_few n = grind (arith, nat_tests)

pub marks_few : (time : ℕ) → marks_at time ≤ time / 1000000 / 30 + 2
marks_few time = let early = early_few (time / 1000000) in omega (arith, early)

-- ---- the marks that a state has

-- no more marks are told than have passed
record IsWithin (state : State) : Type 0 where
  marks : state.marks ≤ marks_at (elapsed state.clock)
  starts : Starts state.clock

one_if : Bool → ℕ
one_if b = if b then 1 else 0

record Counts (before : State) (tells : Bool) (after : State) : Type 0 where
  more : one_if tells + before.marks ≤ after.marks
  within : IsWithin after

within_at : (moment : Option ℤ) (state : State) → IsWithin state → IsWithin (at_moment moment state)
within_at moment state within =
    let on = goes_on moment state.clock within.starts in
    let rise = marks_rise (elapsed state.clock) (elapsed (after moment state.clock)) on.elapsed in
    let marks = within.marks in
    record { marks = omega (arith, rise, marks); starts = on.starts }

within_kept : (before after : State) → KeepsTime before after → IsWithin before → IsWithin after
within_kept before after kept within = record {
  marks = rw (kept.clock, kept.marks) within.marks;
  starts = subst Starts (sym kept.clock) within.starts;
}

due_counts : (due : Bool) (looks : Looks) (state : State) → is_due state ≡ due → IsWithin state
    → Counts state due (if due then slow_told looks state else nothing state).state
unfolding one_if
due_counts true looks state is within =
    let passed : nat_lt state.marks (marks_at (elapsed state.clock)) ≡ true = first_true (nat_lt state.marks (marks_at (elapsed state.clock))) _ is in
    let less : state.marks < marks_at (elapsed state.clock) = ltb-true state.marks (marks_at (elapsed state.clock)) passed in
    record { more = omega (arith, less); within = record { marks = omega arith; starts = within.starts } }
  where
    first_true : (a b : Bool) → (a && b) ≡ true → a ≡ true
    first_true true b both = refl
    first_true false b both = both
due_counts false looks state is within = record { more = omega arith; within = within }

under_way_counts : (has_moment : Bool) (looks : Looks) (state : State) → IsWithin state
    → Counts state (has_moment && is_due state) (under_way_told_if has_moment looks state).state
unfolding one_if
under_way_counts true looks state within = due_counts (is_due state) looks state refl within
under_way_counts false looks state within = record { more = omega arith; within = within }

-- ---- a line

counts_from : (before state after : State) (tells : Bool) → state.marks ≡ before.marks → Counts state tells after → Counts before tells after
counts_from before state after tells marks counts =
    let more = counts.more in
    record { more = omega (arith, marks, more); within = counts.within }

line_counts_of : (looks : Looks) (state : State) (find : Bool) (line : List ℕ) (message : Option Data) → IsWithin state
    → Counts state (under_way_after looks state find line message) (message_or_line_told looks state find line message).state
unfolding one_if
line_counts_of looks state find line None within =
    let kept = (passed_rows looks state line).kept in
    let marks = kept.marks in
    record { more = omega (arith, marks); within = within_kept state (passed_told looks line state).state kept within }
line_counts_of looks state find line (Some tree) within =
    let at = at_moment (moment_of tree) state in
    let own = told_at looks at find line tree (moment_of tree) in
    let kept = (message_rows looks at find line tree (unwrap_or (moment_of tree) at.clock.now)).kept in
    let after = within_kept at own.state kept (within_at (moment_of tree) state within) in
    let counts = under_way_counts (is_some (moment_of tree)) looks own.state after in
    counts_from state own.state (under_way_told_if (is_some (moment_of tree)) looks own.state).state
    (is_some (moment_of tree) && is_due own.state) kept.marks counts

line_counts : (looks : Looks) (state : State) (find : Bool) (line : List ℕ) → IsWithin state
    → Counts state (tells_under_way looks state find line) (text_told looks state find line).state
unfolding text_told
line_counts looks state find line within = line_counts_of looks state find line (message_of find line) within

-- ---- lines

lines_count : (looks : Looks) (find : Bool) (lines : List (List ℕ)) (state : State) → IsWithin state
    → under_way_rows looks find lines state + state.marks ≤ marks_at (elapsed (lines_told looks find lines state).state.clock)
unfolding one_if
lines_count looks find [] state within = let marks = within.marks in omega (arith, marks)
lines_count looks find (line ∷ lines) state within =
    let next = (text_told looks state find line).state in
    let counts = line_counts looks state find line within in
    let more = counts.more in
    let rest = lines_count looks find lines next counts.within in
    omega (arith, more, rest)

pub rows_few : (looks : Looks) (find : Bool) (lines : List (List ℕ))
    → under_way_rows looks find lines beginning ≤ marks_at (elapsed (lines_told looks find lines beginning).state.clock)
rows_few looks find lines =
    let all = lines_count looks find lines beginning (record { marks = omega arith; starts = λ none. refl }) in
    omega (arith, all)

-- the rows that are told
pub rows_seldom : (looks : Looks) (find : Bool) (lines : List (List ℕ))
    → (told : AreToldInRows looks find lines beginning (lines_told looks find lines beginning))
    → count_by is_under_way (timed_marks told.rows) ≤ elapsed (lines_told looks find lines beginning).state.clock / 1000000 / 30 + 2
rows_seldom looks find lines told =
    let rows = told.under_way in
    let few = rows_few looks find lines in
    let seldom = marks_few (elapsed (lines_told looks find lines beginning).state.clock) in
    omega (arith, rows, few, seldom)
