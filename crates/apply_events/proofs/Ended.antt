-- When a change has ended so far, by the events that are still to come.
use Rattle.std.proofs.Common.{◌≡◌, ℕ, zero, suc, ◌+◌, ◌-◌, ◌<◌, ◌≤◌, nat_eq, Bool, true, false, not, ◌&&◌, ◌||◌, List, [], ◌∷◌, ◌++◌, cond, drop, filter, length, map, take, Option, Some, None, refl, ap, ◌∙◌, arith, ⊎_elim}
use Rattle.std.specs.Prelude.{is_none, is_some, option_map, option_to_list, sum_by}
use Rattle.std.specs.List.{list_all}
use Rattle.std.proofs.lemmas.Bool.Decides.{eqb_tells}
use Rattle.std.proofs.lemmas.List.Folds.{list_any-append}
use Rattle.std.proofs.lemmas.List.Sums.{sum_by-append}
use Rattle.apply_hooks.specs.declared.phase.Phase.TheVariants.{Pre, PostDone}
use Rattle.apply_events.specs.declared.event.Event.{Event}
use Rattle.apply_events.specs.declared.mid_step.MidStep.{MidStep}
use Rattle.apply_events.specs.declared.stage.Stage.{Stage}
use Rattle.apply_events.specs.declared.stage.Stage.TheVariants.{Before, Running, Noting, Halting, Over}
use Rattle.apply_events.specs.declared.what.What.{What}
use Rattle.apply_events.specs.declared.what.What.TheVariants.{Halted, WarnNote}
use Rattle.apply_events.specs.ChangeEvents.{begun, in_turn, span_of}
use Rattle.apply_events.specs.Course.{Course, ended_of, has_event_in, time_in}
use Rattle.apply_events.specs.MidStep.{left_of}
use Rattle.apply_events.specs.Notes.{note_of}
use Rattle.apply_events.specs.Stages.{later_events, events_from, from_stage, halt_after, is_on_course, is_reached, running, time_before}
use Rattle.apply_events.specs.Step.{Step, steps_of}
use Rattle.apply_events.specs.StepEvents.{end_of, endings, event, goes_on, halts, notes, phase_after, seconds_of, start_events, step_events, step_time, emits_end}
use Rattle.apply_events.proofs.Begun.{and_first, and_second, begun_from}
use Rattle.apply_events.proofs.Rising.{Rises}
use Rattle.apply_events.proofs.StepNumbers.{AreNumbered, AreNumbered-drop, number_of, steps_of-numbered, to_come_rise}

itself : (n : ℕ) → nat_eq n n ≡ true
itself n = ⊎_elim (λ e. e.0) (λ e. absurd (e.1 refl)) (eqb_tells n n)

other : (m n : ℕ) → n < m → nat_eq m n ≡ false
other m n h = ⊎_elim (λ e. let same : m ≡ n = e.1 in absurd (omega arith)) (λ e. e.0) (eqb_tells m n)

or_first : (a b : Bool) → a ≡ true → (a || b) ≡ true
or_first a b h = rw h refl

or_second : (a b : Bool) → b ≡ true → (a || b) ≡ true
or_second true b h = refl
or_second false b h = h

has-append_first : (xs ys : List Event) (s : Step) → has_event_in xs s ≡ true → has_event_in (xs ++ ys) s ≡ true
has-append_first xs ys s h = list_any-append (λ e. nat_eq e.step s.number) xs ys ∙ or_first (has_event_in xs s) (has_event_in ys s) h

has-append_second : (xs ys : List Event) (s : Step) → has_event_in ys s ≡ true → has_event_in (xs ++ ys) s ≡ true
has-append_second xs ys s h = list_any-append (λ e. nat_eq e.step s.number) xs ys ∙ or_second (has_event_in xs s) (has_event_in ys s) h

-- each of the steps has an event in the list
abbrev AllHave : List Step → List Event → Type 0
AllHave [] events = Unit {0}
AllHave (s ∷ steps) events = (has_event_in events s ≡ true) × AllHave steps events

AllHave-append : (steps : List Step) (xs ys : List Event) → AllHave steps ys → AllHave steps (xs ++ ys)
AllHave-append [] xs ys h = tt
AllHave-append (s ∷ steps) xs ys h = (has-append_second xs ys s h.0, AllHave-append steps xs ys h.1)

step_has : (w : ℕ) (s : Step) (at : ℕ) → has_event_in (step_events w s at) s ≡ true
step_has w s at = step_has-at w s at (s.halts Pre)
  where
    step_has-at : (w : ℕ) (s : Step) (at : ℕ) (answer : Option ℕ) → has_event_in (cond (is_some answer) (option_to_list (option_map (λ hook. event w s at (Halted Pre hook)) answer)) (start_events w s at)) s ≡ true
    step_has-at w s at None = rw (itself s.number) refl
    step_has-at w s at (Some hook) = rw (itself s.number) refl

in_turn_has : (w : ℕ) (steps : List Step) (at : ℕ) → AllHave steps (in_turn (step_events w) step_time steps at)
in_turn_has w [] at = tt
in_turn_has w (s ∷ steps) at = (
  has-append_first (step_events w s at) (in_turn (step_events w) step_time steps (at + step_time s)) s (step_has w s at),
  AllHave-append steps (step_events w s at) (in_turn (step_events w) step_time steps (at + step_time s)) (in_turn_has w steps (at + step_time s)),
)

ending_has : (w : ℕ) (s : Step) (at seconds : ℕ) (b : Bool) (end : What) (others : List What)
    → has_event_in (map (λ what. event w s at what) (cond b (end ∷ others) (WarnNote ∷ []))) s ≡ true
ending_has w s at seconds true end others = rw (itself s.number) refl
ending_has w s at seconds false end others = rw (itself s.number) refl

running_has : (w : ℕ) (s : Step) (at : ℕ) (mid : MidStep) → has_event_in (running w s at mid) s ≡ true
running_has w s at mid =
    has-append_first (map (λ (p : ℕ × What). event w s (at + p.0) p.1) (left_of (seconds_of s) s.seconds_before s.ran mid) ++ map (λ what. event w s (at + (seconds_of s)) what) (endings s)) (halts w s (phase_after s.fails) (at + (seconds_of s))) s
    (has-append_second (map (λ (p : ℕ × What). event w s (at + p.0) p.1) (left_of (seconds_of s) s.seconds_before s.ran mid)) (map (λ what. event w s (at + (seconds_of s)) what) (endings s)) s
    (ending_has w s (at + seconds_of s) (seconds_of s) (emits_end s.fails s.only_warns) (end_of s.fails (seconds_of s)) (notes s.fails s.warns)))

none_of : {X : Type 0} (answer : Option X) → is_none answer ≡ true → answer ≡ None
none_of None h = refl
none_of (Some x) h = cc

-- the current step and the steps after it have events once the step has started
after_have : (w : ℕ) (s : Step) (steps : List Step) (at : ℕ) (events : List Event) → s.halts Pre ≡ None → has_event_in events s ≡ true
    → AllHave (begun (s ∷ steps)) (events ++ later_events w s steps at)
after_have w s steps at events starts own =
    rw starts (
      has-append_first events (later_events w s steps at) s own,
      elim (not s.fails && is_none (s.halts PostDone)) as (λ b. AllHave (cond b (begun steps) []) (events ++ cond b (events_from w steps (at + (seconds_of s))) []))
          [ true ↦ AllHave-append (begun steps) events (events_from w steps (at + (seconds_of s))) (in_turn_has w (begun steps) (at + (seconds_of s))) | false ↦ tt ],
    )

to_come_have : (w : ℕ) (left : List Step) (at : ℕ) (stage : Stage) → is_reached left stage ≡ true → (stage ≡ Over → ⊥) → AllHave (begun left) (from_stage w left at stage)
to_come_have w left at Before h going = in_turn_has w (begun left) at
to_come_have w left at Over h going = absurd (going refl)
to_come_have w [] at (Running mid) h going = tt
to_come_have w [] at Noting h going = tt
to_come_have w [] at (Halting hook) h going = tt
to_come_have w (s ∷ steps) at (Running mid) h going = after_have w s steps at (running w s at mid) (none_of (s.halts Pre) h) (running_has w s at mid)
to_come_have w (s ∷ steps) at Noting h going =
    after_have w s steps at (event w s (at + (seconds_of s)) (note_of s.fails) ∷ halt_after w s at) (none_of (s.halts Pre) h) (rw (itself s.number) refl)
to_come_have w (s ∷ steps) at (Halting hook) h going =
    let stops : goes_on s ≡ false = not_true (goes_on s) (and_second (is_none (s.halts Pre)) (not (goes_on s)) h) in
    rw stops (rw (itself s.number) refl, tt)
  where
    not_true : (b : Bool) → not b ≡ true → b ≡ false
    not_true true h = cc
    not_true false h = refl

-- ---- which steps have an event to come

no_event : (n high : ℕ) (events : List Event) (s : Step) → Rises number_of n high events → s.number < n → has_event_in events s ≡ false
no_event n high [] s h less = refl
no_event n high (e ∷ events) s h less =
    let first : n ≤ e.step = h.0 in
    rw (other e.step s.number (omega arith)) (no_event e.step high events s h.1 (omega arith))

keeps_all : (ys : List Step) (events : List Event) → AllHave ys events → filter (has_event_in events) ys ≡ ys
keeps_all [] events have = refl
keeps_all (y ∷ ys) events have = rw have.0 (ap (λ zs. y ∷ zs) (keeps_all ys events have.1))

keeps_last : (n k high : ℕ) (steps ys : List Step) (events : List Event) → AreNumbered n steps → Rises number_of (n + k) high events → AllHave ys events
    → filter (has_event_in events) (take k steps ++ ys) ≡ ys
keeps_last n zero high steps ys events numbered rise have = keeps_all ys events have
keeps_last n (suc k) high [] ys events numbered rise have = keeps_all ys events have
keeps_last n (suc k) high (s ∷ steps) ys events numbered rise have =
    let here : s.number ≡ n = numbered.0 in
    let place : n + suc k ≡ n + 1 + k = omega arith in
    rw (no_event (n + suc k) high events s rise (omega arith))
    (keeps_last (n + 1) k high steps ys events numbered.1 (rw place at rise) have)

none_have : (steps : List Step) → filter (has_event_in []) steps ≡ []
none_have [] = refl
none_have (s ∷ steps) = none_have steps

-- where the runner stands, while its change goes on
going : (course : Course) (steps : List Step) (k at : ℕ) (stage : Stage)
    → AreNumbered 0 steps → list_all goes_on (take k steps) ≡ true → is_reached (drop k steps) stage ≡ true → (stage ≡ Over → ⊥)
    → at ≡ course.begin + sum_by step_time (take k steps)
    → at ≡ course.begin + sum_by step_time (begun steps) - sum_by step_time (filter (has_event_in (from_stage course.worker (drop k steps) at stage)) (begun steps))
going course steps k at stage numbered all reached more time =
    let whole : begun steps ≡ take k steps ++ begun (drop k steps) = begun_from steps k all in
    let numbers : AreNumbered k (drop k steps) = (let e : 0 + k ≡ k = omega arith in rw e at (AreNumbered-drop 0 k steps numbered)) in
    let rise : Rises number_of (0 + k) (k + length (drop k steps)) (from_stage course.worker (drop k steps) at stage) = (let e : 0 + k ≡ k = omega arith in rw e (to_come_rise course.worker k (drop k steps) at stage numbers)) in
    let left : filter (has_event_in (from_stage course.worker (drop k steps) at stage)) (begun steps) ≡ begun (drop k steps) =
    ap (λ ss. filter (has_event_in (from_stage course.worker (drop k steps) at stage)) ss) whole
    ∙ keeps_last 0 k (k + length (drop k steps)) steps (begun (drop k steps)) (from_stage course.worker (drop k steps) at stage) numbered rise (to_come_have course.worker (drop k steps) at stage reached more) in
    let sums : sum_by step_time (begun steps) ≡ sum_by step_time (take k steps) + sum_by step_time (begun (drop k steps)) =
    ap (λ ss. sum_by step_time ss) whole ∙ sum_by-append step_time (take k steps) (begun (drop k steps)) in
    let less : sum_by step_time (filter (has_event_in (from_stage course.worker (drop k steps) at stage)) (begun steps)) ≡ sum_by step_time (begun (drop k steps)) = ap (λ ss. sum_by step_time ss) left in
    omega arith

-- where the runner stands
pub stands : (course : Course) (k at : ℕ) (stage : Stage)
    → is_on_course (steps_of course.work course.change) k stage ≡ true
    → at ≡ course.begin + time_before (steps_of course.work course.change) k stage
    → at ≡ ended_of course (from_stage course.worker (drop k (steps_of course.work course.change)) at stage)
stands course k at Over on time =
    let none : time_in course [] ≡ 0 = ap (λ ss. sum_by step_time ss) (none_have (begun (steps_of course.work course.change))) in
    omega arith
stands course k at Before on time =
    going course (steps_of course.work course.change) k at Before (steps_of-numbered course.work course.change) on refl (λ e. cc) time
stands course k at (Running mid) on time =
    going course (steps_of course.work course.change) k at (Running mid) (steps_of-numbered course.work course.change)
    (and_first (list_all goes_on (take k (steps_of course.work course.change))) (is_reached (drop k (steps_of course.work course.change)) (Running mid)) on)
    (and_second (list_all goes_on (take k (steps_of course.work course.change))) (is_reached (drop k (steps_of course.work course.change)) (Running mid)) on) (λ e. cc) time
stands course k at Noting on time =
    going course (steps_of course.work course.change) k at Noting (steps_of-numbered course.work course.change)
    (and_first (list_all goes_on (take k (steps_of course.work course.change))) (is_reached (drop k (steps_of course.work course.change)) Noting) on)
    (and_second (list_all goes_on (take k (steps_of course.work course.change))) (is_reached (drop k (steps_of course.work course.change)) Noting) on) (λ e. cc) time
stands course k at (Halting hook) on time =
    going course (steps_of course.work course.change) k at (Halting hook) (steps_of-numbered course.work course.change)
    (and_first (list_all goes_on (take k (steps_of course.work course.change))) (is_reached (drop k (steps_of course.work course.change)) (Halting hook)) on)
    (and_second (list_all goes_on (take k (steps_of course.work course.change))) (is_reached (drop k (steps_of course.work course.change)) (Halting hook)) on) (λ e. cc) time

-- where nothing is to come, it stands at the end of the whole span
pub stands_whole : (course : Course) (at : ℕ) (events : List Event) → at ≡ ended_of course events → events ≡ [] → at ≡ course.begin + span_of course.work course.change
stands_whole course at events stands over =
    let none : sum_by step_time (filter (has_event_in events) (begun (steps_of course.work course.change))) ≡ 0 = rw over (ap (λ ss. sum_by step_time ss) (none_have (begun (steps_of course.work course.change)))) in
    omega arith
