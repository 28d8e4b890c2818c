-- The events of a worker. Each is of a step of the plan, and the events of a further change come last.
use Rattle.std.proofs.Common.{◌≡◌, ℕ, ◌+◌, All, true, false, List, [], ◌∷◌, ◌++◌, cond, length, map, Option, Some, None, ap, sym, ◌∙◌, append_assoc, arith}
use Rattle.std.specs.Prelude.{is_some, option_map, option_to_list, sum_by}
use Rattle.std.specs.List.{enumerate_from}
use Rattle.std.proofs.lemmas.List.{append-nil}
use Rattle.std.proofs.lemmas.List.Elements.{All-append, All-cons, All-nil, All-weaker}
use Rattle.std.proofs.lemmas.List.Sums.{sum_by-cons}
use Rattle.apply_model.specs.declared.plan.step_kind.StepKind.{StepKind}
use Rattle.apply_hooks.specs.declared.phase.Phase.{Phase}
use Rattle.apply_hooks.specs.declared.phase.Phase.TheVariants.{Pre}
use Rattle.apply_events.specs.declared.event.Event.{Event}
use Rattle.apply_events.specs.declared.what.What.{What}
use Rattle.apply_events.specs.declared.what.What.TheVariants.{Halted, Start}
use Rattle.apply_events.specs.ChangeEvents.{begun, change_events, in_turn, span_of}
use Rattle.apply_events.specs.Fits.{HasStep, IsApplied}
use Rattle.apply_events.specs.Step.{Step, Work, kinds_applied, step_of, steps_of}
use Rattle.apply_events.specs.StepEvents.{between, endings, event, goes_on, halts, phase_after, seconds_of, start_events, step_events, step_time}
use Rattle.apply_events.specs.WorkerEvents.{worker_events}
use Rattle.apply_events.proofs.AppliedSteps.{applied_planned}

-- ---- what holds of whatever happens to a step holds of its events

-- it holds of whatever a worker does to the step
abbrev Suits : (Event → Type 0) → (worker : ℕ) → Step → Type 0
Suits P w s = (at : ℕ) (what : What) → P (event w s at what)

all-map : {X : Type 0} (P : Event → Type 0) (g : X → Event) (xs : List X) → ((x : X) → P (g x)) → All P (map g xs)
all-map P g [] h = All-nil P
all-map P g (x ∷ xs) h = All-cons P (g x) (map g xs) (h x) (all-map P g xs h)

all-halts : (P : Event → Type 0) (w : ℕ) (s : Step) (phase : Phase) (at : ℕ) (answer : Option ℕ) → Suits P w s → All P (option_to_list (option_map (λ hook. event w s at (Halted phase hook)) answer))
all-halts P w s phase at None h = All-nil P
all-halts P w s phase at (Some hook) h = All-cons P (event w s at (Halted phase hook)) [] (h at (Halted phase hook)) (All-nil P)

all-start_events : (P : Event → Type 0) (w : ℕ) (s : Step) (at : ℕ) → Suits P w s → All P (start_events w s at)
all-start_events P w s at h =
    let progress = map (λ (p : ℕ × What). event w s (at + p.0) p.1) (between s) in
    let ends = map (λ what. event w s (at + (seconds_of s)) what) (endings s) in
    let halt = halts w s (phase_after s.fails) (at + (seconds_of s)) in
    All-cons P (event w s at Start) (progress ++ ends ++ halt) (h at Start)
    (All-append P (progress ++ ends) halt
    (All-append P progress ends
    (all-map P (λ (p : ℕ × What). event w s (at + p.0) p.1) (between s) (λ p. h (at + p.0) p.1))
    (all-map P (λ what. event w s (at + (seconds_of s)) what) (endings s) (λ what. h (at + (seconds_of s)) what)))
    (all-halts P w s (phase_after s.fails) (at + (seconds_of s)) (s.halts (phase_after s.fails)) h))

all-step : (P : Event → Type 0) (w : ℕ) (s : Step) (at : ℕ) → Suits P w s → All P (step_events w s at)
all-step P w s at h = all-step-at P w s at (s.halts Pre) h
  where
    all-step-at : (P : Event → Type 0) (w : ℕ) (s : Step) (at : ℕ) (answer : Option ℕ) → Suits P w s → All P (cond (is_some answer) (option_to_list (option_map (λ hook. event w s at (Halted Pre hook)) answer)) (start_events w s at))
    all-step-at P w s at None h = all-start_events P w s at h
    all-step-at P w s at (Some hook) h = all-halts P w s Pre at (Some hook) h

-- ---- the steps of a change are those that are applied

abbrev AllSuit : (Event → Type 0) → (worker : ℕ) → List Step → Type 0
AllSuit P w [] = Unit {0}
AllSuit P w (s ∷ steps) = Suits P w s × AllSuit P w steps

AllSuit-begun : (P : Event → Type 0) (w : ℕ) (steps : List Step) → AllSuit P w steps → AllSuit P w (begun steps)
AllSuit-begun P w [] h = tt
AllSuit-begun P w (s ∷ steps) h =
    (h.0, elim (goes_on s) as (λ b. AllSuit P w (cond b (begun steps) [])) [ true ↦ AllSuit-begun P w steps h.1 | false ↦ tt ])

all-steps : (P : Event → Type 0) (w : ℕ) (steps : List Step) (at : ℕ) → AllSuit P w steps → All P (in_turn (step_events w) step_time steps at)
all-steps P w [] at h = All-nil P
all-steps P w (s ∷ steps) at h =
    All-append P (step_events w s at) (in_turn (step_events w) step_time steps (at + step_time s)) (all-step P w s at h.0) (all-steps P w steps (at + step_time s) h.1)

abbrev pub IsOfApplied : Work → Event → Type 0
IsOfApplied work e = IsApplied work.plan work.script e.change e.step

applied : (work : Work) (w c n : ℕ) (kinds : List StepKind) → n + length kinds ≡ length (kinds_applied work.plan work.script c)
    → AllSuit (IsOfApplied work) w (map (λ p. step_of work c p.0 p.1) (enumerate_from n kinds))
applied work w c n [] whole = tt
applied work w c n (kind ∷ kinds) whole = (λ at what. omega arith, applied work w c (n + 1) kinds (omega arith))

pub change_applied : (work : Work) (w c at : ℕ) → All (IsOfApplied work) (change_events work w c at)
change_applied work w c at =
    all-steps (IsOfApplied work) w (begun (steps_of work c)) at
    (AllSuit-begun (IsOfApplied work) w (steps_of work c) (applied work w c 0 (kinds_applied work.plan work.script c) (omega arith)))

all-changes : (work : Work) (w : ℕ) (changes : List ℕ) (at : ℕ) → All (IsOfApplied work) (in_turn (change_events work w) (span_of work) changes at)
all-changes work w [] at = All-nil (IsOfApplied work)
all-changes work w (c ∷ changes) at =
    All-append (IsOfApplied work) (change_events work w c at) (in_turn (change_events work w) (span_of work) changes (at + span_of work c)) (change_applied work w c at) (all-changes work w changes (at + span_of work c))

pub worker_applied : (work : Work) (w : ℕ) (changes : List ℕ) → All (IsOfApplied work) (worker_events work w changes)
worker_applied work w changes = all-changes work w changes 0

-- and so the plan has them
abbrev pub IsPlanned : Work → Event → Type 0
IsPlanned work e = HasStep work.plan e.change e.step

all-planned : (work : Work) (events : List Event) → All (IsOfApplied work) events → All (IsPlanned work) events
all-planned work events all = All-weaker (IsOfApplied work) (IsPlanned work) (λ e. applied_planned work.plan work.script e.change e.step) events all

pub change_planned : (work : Work) (w c at : ℕ) → All (IsPlanned work) (change_events work w c at)
change_planned work w c at = all-planned work (change_events work w c at) (change_applied work w c at)

pub worker_planned : (work : Work) (w : ℕ) (changes : List ℕ) → All (IsPlanned work) (worker_events work w changes)
worker_planned work w changes = all-planned work (worker_events work w changes) (worker_applied work w changes)

-- ---- one change more

in_turn-push : (work : Work) (w c : ℕ) (changes : List ℕ) (at : ℕ)
    → in_turn (change_events work w) (span_of work) (changes ++ c ∷ []) at ≡ in_turn (change_events work w) (span_of work) changes at ++ change_events work w c (at + sum_by (span_of work) changes)
in_turn-push work w c [] at =
    let none : at + 0 ≡ at = omega arith in append-nil (change_events work w c at) ∙ ap (change_events work w c) (sym none)
in_turn-push work w c (x ∷ changes) at =
    let sums : at + span_of work x + sum_by (span_of work) changes ≡ at + sum_by (span_of work) (x ∷ changes) = (let e : sum_by (span_of work) (x ∷ changes) ≡ span_of work x + sum_by (span_of work) changes = sum_by-cons (span_of work) x changes in omega arith) in
    let first = change_events work w x at in
    let others = in_turn (change_events work w) (span_of work) changes (at + span_of work x) in
    ap (λ es. first ++ es) (in_turn-push work w c changes (at + span_of work x))
    ∙ sym (append_assoc first others (change_events work w c (at + span_of work x + sum_by (span_of work) changes)))
    ∙ ap (λ time. first ++ others ++ change_events work w c time) sums

pub worker-push : (work : Work) (w c : ℕ) (changes : List ℕ) → worker_events work w (changes ++ c ∷ []) ≡ worker_events work w changes ++ change_events work w c (sum_by (span_of work) changes)
worker-push work w c changes =
    let none : 0 + sum_by (span_of work) changes ≡ sum_by (span_of work) changes = omega arith in
    in_turn-push work w c changes 0 ∙ ap (λ time. worker_events work w changes ++ change_events work w c time) none
