-- The numbers of steps, and of the events that are still to come.
use Rattle.std.proofs.Common.{◌≡◌, ℕ, zero, suc, ◌+◌, ◌≤◌, true, false, not, ◌&&◌, List, [], ◌∷◌, ◌++◌, cond, drop, length, map, Option, Some, None, refl, arith}
use Rattle.std.specs.Prelude.{is_none, is_some, option_map, option_to_list}
use Rattle.std.specs.List.{enumerate_from}
use Rattle.apply_model.specs.declared.plan.step_kind.StepKind.{StepKind}
use Rattle.apply_hooks.specs.declared.phase.Phase.{Phase}
use Rattle.apply_hooks.specs.declared.phase.Phase.TheVariants.{Pre, PostDone}
use Rattle.apply_events.specs.declared.event.Event.{Event}
use Rattle.apply_events.specs.declared.mid_step.MidStep.{MidStep}
use Rattle.apply_events.specs.declared.stage.Stage.{Stage}
use Rattle.apply_events.specs.declared.stage.Stage.TheVariants.{Before, Running, Noting, Halting, Over}
use Rattle.apply_events.specs.declared.what.What.{What}
use Rattle.apply_events.specs.declared.what.What.TheVariants.{Halted}
use Rattle.apply_events.specs.ChangeEvents.{begun, in_turn}
use Rattle.apply_events.specs.MidStep.{left_of}
use Rattle.apply_events.specs.Notes.{note_of}
use Rattle.apply_events.specs.Stages.{later_events, events_from, from_stage, halt_after, running}
use Rattle.apply_events.specs.Step.{Step, Work, kinds_applied, step_of, steps_of}
use Rattle.apply_events.specs.StepEvents.{between, endings, event, goes_on, halts, phase_after, seconds_of, start_events, step_events, step_time}
use Rattle.apply_events.proofs.Rising.{Rises, Rises-append, Rises-higher, Rises-lower, Rises-map_same}

-- the steps are numbered from n on
abbrev pub AreNumbered : ℕ → List Step → Type 0
AreNumbered n [] = Unit {0}
AreNumbered n (s ∷ steps) = (s.number ≡ n) × AreNumbered (n + 1) steps

enumerated : (work : Work) (c n : ℕ) (kinds : List StepKind) → AreNumbered n (map (λ p. step_of work c p.0 p.1) (enumerate_from n kinds))
enumerated work c n [] = tt
enumerated work c n (kind ∷ kinds) = (refl, enumerated work c (n + 1) kinds)

pub steps_of-numbered : (work : Work) (c : ℕ) → AreNumbered 0 (steps_of work c)
steps_of-numbered work c = enumerated work c 0 (kinds_applied work.plan work.script c)

pub AreNumbered-drop : (n k : ℕ) (steps : List Step) → AreNumbered n steps → AreNumbered (n + k) (drop k steps)
AreNumbered-drop n zero steps h = let e : n + 0 ≡ n = omega arith in rw e h
AreNumbered-drop n (suc k) [] h = tt
AreNumbered-drop n (suc k) (s ∷ steps) h =
    let e : n + 1 + k ≡ n + suc k = omega arith in rw (← e) (AreNumbered-drop (n + 1) k steps h.1)

pub AreNumbered-begun : (n : ℕ) (steps : List Step) → AreNumbered n steps → AreNumbered n (begun steps)
AreNumbered-begun n [] h = tt
AreNumbered-begun n (s ∷ steps) h =
    (h.0, elim (goes_on s) as (λ b. AreNumbered (n + 1) (cond b (begun steps) [])) [ true ↦ AreNumbered-begun (n + 1) steps h.1 | false ↦ tt ])

-- ---- the numbers along a list of events never fall

abbrev pub number_of : Event → ℕ
number_of e = e.step

halts_rise : (w : ℕ) (s : Step) (phase : Phase) (at : ℕ) (answer : Option ℕ) → Rises number_of s.number s.number (option_to_list (option_map (λ hook. event w s at (Halted phase hook)) answer))
halts_rise w s phase at None = omega arith
halts_rise w s phase at (Some hook) = (omega arith, omega arith)

-- what happens before the end, and then the end
emitted_rise : (w : ℕ) (s : Step) (at : ℕ) (xs : List (ℕ × What)) → Rises number_of s.number s.number
    (map (λ (p : ℕ × What). event w s (at + p.0) p.1) xs ++ map (λ what. event w s (at + seconds_of s) what) (endings s) ++ halts w s (phase_after s.fails) (at + seconds_of s))
emitted_rise w s at xs =
    Rises-append number_of s.number s.number s.number (map (λ (p : ℕ × What). event w s (at + p.0) p.1) xs ++ map (λ what. event w s (at + seconds_of s) what) (endings s)) (halts w s (phase_after s.fails) (at + seconds_of s))
    (Rises-append number_of s.number s.number s.number (map (λ (p : ℕ × What). event w s (at + p.0) p.1) xs) (map (λ what. event w s (at + seconds_of s) what) (endings s))
    (Rises-map_same number_of (λ (p : ℕ × What). event w s (at + p.0) p.1) s.number xs (λ p. refl))
    (Rises-map_same number_of (λ what. event w s (at + seconds_of s) what) s.number (endings s) (λ what. refl)))
    (halts_rise w s (phase_after s.fails) (at + seconds_of s) (s.halts (phase_after s.fails)))

pub running_rise : (w : ℕ) (s : Step) (at : ℕ) (mid : MidStep) → Rises number_of s.number s.number (running w s at mid)
running_rise w s at mid = emitted_rise w s at (left_of (seconds_of s) s.seconds_before s.ran mid)

pub step_events_rise : (w : ℕ) (s : Step) (at : ℕ) → Rises number_of s.number s.number (step_events w s at)
step_events_rise w s at = step_events_rise-at w s at (s.halts Pre)
  where
    step_events_rise-at : (w : ℕ) (s : Step) (at : ℕ) (answer : Option ℕ) → Rises number_of s.number s.number (cond (is_some answer) (option_to_list (option_map (λ hook. event w s at (Halted Pre hook)) answer)) (start_events w s at))
    step_events_rise-at w s at None = (omega arith, emitted_rise w s at (between s))
    step_events_rise-at w s at (Some hook) = (omega arith, omega arith)

pub in_turn_rise : (w n : ℕ) (steps : List Step) (at : ℕ) → AreNumbered n steps → Rises number_of n (n + length steps) (in_turn (step_events w) step_time steps at)
in_turn_rise w n [] at h = omega arith
in_turn_rise w n (s ∷ steps) at h =
    let here : s.number ≡ n = h.0 in
    Rises-append number_of n s.number (n + suc (length steps)) (step_events w s at) (in_turn (step_events w) step_time steps (at + step_time s))
    (Rises-lower number_of n s.number s.number (step_events w s at) (omega arith) (step_events_rise w s at))
    (Rises-lower number_of s.number (n + 1) (n + suc (length steps)) (in_turn (step_events w) step_time steps (at + step_time s)) (omega arith)
    (let high : n + 1 + length steps ≡ n + suc (length steps) = omega arith in rw (← high) (in_turn_rise w (n + 1) steps (at + step_time s) h.1)))

length-begun : (steps : List Step) → length (begun steps) ≤ length steps
length-begun [] = omega arith
length-begun (s ∷ steps) =
    let rest : length (begun steps) ≤ length steps = length-begun steps in
    elim (goes_on s) as (λ b. suc (length (cond b (begun steps) [])) ≤ suc (length steps)) [ true ↦ omega arith | false ↦ omega arith ]

pub events_from_rise : (w n : ℕ) (steps : List Step) (at : ℕ) → AreNumbered n steps → Rises number_of n (n + length steps) (events_from w steps at)
events_from_rise w n steps at h =
    Rises-higher number_of n (n + length (begun steps)) (n + length steps) (events_from w steps at) (let few : length (begun steps) ≤ length steps = length-begun steps in omega arith)
    (in_turn_rise w n (begun steps) at (AreNumbered-begun n steps h))

later_rise : (w n : ℕ) (s : Step) (steps : List Step) (at : ℕ) → AreNumbered (n + 1) steps → Rises number_of n (n + suc (length steps)) (later_events w s steps at)
later_rise w n s steps at h =
    elim (not s.fails && is_none (s.halts PostDone)) as (λ b. Rises number_of n (n + suc (length steps)) (cond b (events_from w steps (at + (seconds_of s))) [])) [
      | true ↦ Rises-lower number_of n (n + 1) (n + suc (length steps)) (events_from w steps (at + (seconds_of s))) (omega arith)
          (let high : n + 1 + length steps ≡ n + suc (length steps) = omega arith in rw (← high) (events_from_rise w (n + 1) steps (at + (seconds_of s)) h))
      | false ↦ omega arith
    ]

after_rise : (w n : ℕ) (s : Step) (steps : List Step) (at : ℕ) (events : List Event) → AreNumbered n (s ∷ steps) → Rises number_of s.number s.number events
    → Rises number_of n (n + suc (length steps)) (events ++ later_events w s steps at)
after_rise w n s steps at events h own =
    let here : s.number ≡ n = h.0 in
    Rises-append number_of n n (n + suc (length steps)) events (later_events w s steps at) (rw here at own) (later_rise w n s steps at h.1)

-- the events to come are of the steps that are left
pub to_come_rise : (w n : ℕ) (left : List Step) (at : ℕ) (stage : Stage) → AreNumbered n left → Rises number_of n (n + length left) (from_stage w left at stage)
to_come_rise w n left at Before h = events_from_rise w n left at h
to_come_rise w n left at Over h = omega arith
to_come_rise w n [] at (Running mid) h = omega arith
to_come_rise w n [] at Noting h = omega arith
to_come_rise w n [] at (Halting hook) h = omega arith
to_come_rise w n (s ∷ steps) at (Running mid) h = after_rise w n s steps at (running w s at mid) h (running_rise w s at mid)
to_come_rise w n (s ∷ steps) at Noting h =
    after_rise w n s steps at (event w s (at + (seconds_of s)) (note_of s.fails) ∷ halt_after w s at) h (omega arith, halts_rise w s (phase_after s.fails) (at + (seconds_of s)) (s.halts (phase_after s.fails)))
to_come_rise w n (s ∷ steps) at (Halting hook) h = let here : s.number ≡ n = h.0 in (omega arith, omega arith)
