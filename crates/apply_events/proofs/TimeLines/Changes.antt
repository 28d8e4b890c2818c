-- The events of changes one after another. Each names the lane, and the seconds never fall.
use Rattle.std.proofs.Common.{◌≡◌, ℕ, ◌+◌, ◌≤◌, All, List, [], ◌∷◌, ◌++◌, cond, map, Option, Some, None, refl, arith}
use Rattle.std.specs.Prelude.{is_some, option_map, option_to_list}
use Rattle.std.proofs.lemmas.List.Elements.{All-append, All-cons, All-head, All-nil, All-tail}
use Rattle.apply_hooks.specs.declared.phase.Phase.{Phase}
use Rattle.apply_hooks.specs.declared.phase.Phase.TheVariants.{Pre}
use Rattle.apply_events.specs.declared.event.Event.{Event}
use Rattle.apply_events.specs.declared.what.What.{What}
use Rattle.apply_events.specs.declared.what.What.TheVariants.{Halted, Start}
use Rattle.apply_events.specs.ChangeEvents.{begun, change_events, in_turn, span_of}
use Rattle.apply_events.specs.Step.{Step, Work, steps_of}
use Rattle.apply_events.specs.StepEvents.{between, endings, event, halts, phase_after, seconds_of, start_events, step_events, step_time}
use Rattle.apply_events.proofs.Rising as rising
use Rattle.apply_events.proofs.Moments.{change_rises, lane_time_of}
use Rattle.apply_events.specs.Lanes.Runs.{Runs}
use Rattle.apply_events.proofs.TimeLines.Merge.{Rises, rises_lower}

abbrev Names : ℕ → Event → Type 0
Names w e = e.worker ≡ w

names_map : {X : Type 0} (w : ℕ) (g : X → Event) (xs : List X) → ((x : X) → Names w (g x)) → All (Names w) (map g xs)
names_map w g [] h = All-nil (Names w)
names_map w g (x ∷ xs) h = All-cons (Names w) (g x) (map g xs) (h x) (names_map w g xs h)

names_halts : (w : ℕ) (s : Step) (phase : Phase) (at : ℕ) (answer : Option ℕ) → All (Names w) (option_to_list (option_map (λ hook. event w s at (Halted phase hook)) answer))
names_halts w s phase at None = All-nil (Names w)
names_halts w s phase at (Some hook) = All-cons (Names w) (event w s at (Halted phase hook)) [] refl (All-nil (Names w))

names_started : (w : ℕ) (s : Step) (at : ℕ) → All (Names w) (start_events w s at)
names_started w s at =
    let progress = map (λ (p : ℕ × What). event w s (at + p.0) p.1) (between s) in
    let ends = map (λ what. event w s (at + (seconds_of s)) what) (endings s) in
    let halt = halts w s (phase_after s.fails) (at + (seconds_of s)) in
    All-cons (Names w) (event w s at Start) (progress ++ ends ++ halt) refl
    (All-append (Names w) (progress ++ ends) halt
    (All-append (Names w) progress ends
    (names_map w (λ (p : ℕ × What). event w s (at + p.0) p.1) (between s) (λ p. refl))
    (names_map w (λ what. event w s (at + (seconds_of s)) what) (endings s) (λ what. refl)))
    (names_halts w s (phase_after s.fails) (at + (seconds_of s)) (s.halts (phase_after s.fails))))

names_step : (w : ℕ) (s : Step) (at : ℕ) → All (Names w) (step_events w s at)
names_step w s at = names_step_at w s at (s.halts Pre)
  where
    names_step_at : (w : ℕ) (s : Step) (at : ℕ) (answer : Option ℕ) → All (Names w) (cond (is_some answer) (option_to_list (option_map (λ hook. event w s at (Halted Pre hook)) answer)) (start_events w s at))
    names_step_at w s at None = names_started w s at
    names_step_at w s at (Some hook) = names_halts w s Pre at (Some hook)

names_turn : {X : Type 0} (w : ℕ) (events : X → ℕ → List Event) (time : X → ℕ) (xs : List X) (at : ℕ) → ((x : X) (at : ℕ) → All (Names w) (events x at)) → All (Names w) (in_turn events time xs at)
names_turn w events time [] at h = All-nil (Names w)
names_turn w events time (x ∷ xs) at h = All-append (Names w) (events x at) (in_turn events time xs (at + time x)) (h x at) (names_turn w events time xs (at + time x) h)

names_change : (work : Work) (w c at : ℕ) → All (Names w) (change_events work w c at)
names_change work w c at = names_turn w (step_events w) step_time (begun (steps_of work c)) at (names_step w)

runs_from : (w low high : ℕ) (es : List Event) → rising.Rises lane_time_of low high es → All (Names w) es → Runs w low high es
runs_from w low high [] h named = h
runs_from w low high (e ∷ es) h named = (All-head (Names w) e es named, h.0, runs_from w e.at high es h.1 (All-tail (Names w) e es named))

pub change_runs : (work : Work) (w c at : ℕ) → Runs w at (at + span_of work c) (change_events work w c at)
change_runs work w c at = runs_from w at (at + span_of work c) (change_events work w c at) (change_rises work w c at) (names_change work w c at)

pub runs_lower : (w low mid high : ℕ) (es : List Event) → low ≤ mid → Runs w mid high es → Runs w low high es
runs_lower w low mid high [] le h = omega arith
runs_lower w low mid high (e ∷ es) le h = (h.0, (let first = h.1 in omega arith), h.2)

pub runs_rise : (w low high : ℕ) (es fs : List Event) → Runs w low high es → Rises w high fs → Rises w low (es ++ fs)
runs_rise w low high [] fs h rest = rises_lower w low high fs h rest
runs_rise w low high (e ∷ es) fs h rest = (h.0, h.1, runs_rise w e.at high es fs h.2 rest)

-- changes one after another
pub turn_rises : (work : Work) (w : ℕ) (changes : List ℕ) (at : ℕ) → Rises w at (in_turn (change_events work w) (span_of work) changes at)
turn_rises work w [] at = tt
turn_rises work w (c ∷ changes) at =
    runs_rise w at (at + span_of work c) (change_events work w c at) (in_turn (change_events work w) (span_of work) changes (at + span_of work c)) (change_runs work w c at) (turn_rises work w changes (at + span_of work c))
