-- The seconds along lists of events.
use Rattle.std.proofs.Common.{◌≡◌, ℕ, suc, ◌+◌, ◌*◌, ◌<◌, ◌≤◌, nat_eq, true, false, List, [], ◌∷◌, ◌++◌, cond, length, map, Option, Some, None, IfSome, refl, ap, arith, ⊎_elim}
use Rattle.std.specs.Prelude.{All, is_some, option_map, option_to_list, slice_get, sum_by}
use Rattle.std.specs.List.{enumerate_from, list_any}
use Rattle.std.proofs.lemmas.Bool.Decides.{eqb_tells}
use Rattle.std.proofs.lemmas.List.Sums.{sum_by-cons}
use Rattle.std.proofs.lemmas.Map.Steps.{length-le_from_distinct_below}
use Rattle.apply_model.specs.declared.plan.step_kind.StepKind.{StepKind}
use Rattle.apply_model.specs.Script.OutcomeMap.{IsInRange, stated_outcome}
use Rattle.apply_model.specs.declared.script.outcome.Outcome.{Outcome}
use Rattle.apply_model.specs.Script.Outcome.{IsBounded, default_outcome, took}
use Rattle.std.specs.Prelude.{unwrap_or}
use Rattle.apply_hooks.specs.declared.phase.Phase.{Phase}
use Rattle.apply_hooks.specs.declared.phase.Phase.TheVariants.{Pre}
use Rattle.apply_events.specs.declared.event.Event.{Event}
use Rattle.apply_events.specs.declared.what.What.{What}
use Rattle.apply_events.specs.declared.what.What.TheVariants.{Halted}
use Rattle.apply_events.specs.ChangeEvents.{begun, change_events, in_turn, span_of}
use Rattle.apply_events.specs.Fits.{latest_second, max_span}
use Rattle.apply_events.specs.Laws.{IsWithinLimits, NamesEachOnce}
use Rattle.apply_events.specs.Step.{Step, Work, kinds_applied, kinds_of, step_of, steps_of}
use Rattle.apply_events.specs.StepEvents.{between, endings, event, goes_on, halts, phase_after, seconds_of, start_events, step_events, step_time}
use Rattle.apply_events.specs.WorkerEvents.{worker_events}
use Rattle.apply_events.proofs.AppliedSteps.{few_applied}
use Rattle.apply_events.proofs.MidSteps.{took_short}
use Rattle.apply_events.proofs.Provisions.{along_rises, time_of}
use Rattle.apply_events.proofs.Rising.{Rises, Rises-append, Rises-at_most, Rises-higher, Rises-map_same}

abbrev pub lane_time_of : Event → ℕ
lane_time_of e = e.at

halts_rise : (w : ℕ) (s : Step) (phase : Phase) (at : ℕ) (answer : Option ℕ) → Rises lane_time_of at at (option_to_list (option_map (λ hook. event w s at (Halted phase hook)) answer))
halts_rise w s phase at None = omega arith
halts_rise w s phase at (Some hook) = (omega arith, omega arith)

-- as much later as its number of seconds after the start
moments_rise : (w : ℕ) (s : Step) (at low high : ℕ) (xs : List (ℕ × What)) → Rises time_of low high xs → Rises lane_time_of (at + low) (at + high) (map (λ (p : ℕ × What). event w s (at + p.0) p.1) xs)
moments_rise w s at low high [] h = omega arith
moments_rise w s at low high (x ∷ xs) h = (let first : low ≤ x.0 = h.0 in omega arith, moments_rise w s at x.0 high xs h.1)

started_rise : (w : ℕ) (s : Step) (at : ℕ) → Rises lane_time_of at (at + (seconds_of s)) (start_events w s at)
started_rise w s at =
    let progress = map (λ (p : ℕ × What). event w s (at + p.0) p.1) (between s) in
    let ends = map (λ what. event w s (at + (seconds_of s)) what) (endings s) in (
      omega arith,
      Rises-append lane_time_of at (at + (seconds_of s)) (at + (seconds_of s)) (progress ++ ends) (halts w s (phase_after s.fails) (at + (seconds_of s)))
          (Rises-append lane_time_of at (at + (seconds_of s)) (at + (seconds_of s)) progress ends
          (let none : at + 0 ≡ at = omega arith in rw none at (moments_rise w s at 0 (seconds_of s) (between s) (along_rises (seconds_of s) 0 0 s.seconds_before s.ran (omega arith) (omega arith))))
          (Rises-map_same lane_time_of (λ what. event w s (at + (seconds_of s)) what) (at + (seconds_of s)) (endings s) (λ what. refl)))
          (halts_rise w s (phase_after s.fails) (at + (seconds_of s)) (s.halts (phase_after s.fails))),
    )

pub step_rises : (w : ℕ) (s : Step) (at : ℕ) → Rises lane_time_of at (at + step_time s) (step_events w s at)
step_rises w s at = step_rises-at w s at (s.halts Pre)
  where
    step_rises-at : (w : ℕ) (s : Step) (at : ℕ) (answer : Option ℕ) → Rises lane_time_of at (at + cond (is_some answer) 0 (seconds_of s)) (cond (is_some answer) (option_to_list (option_map (λ hook. event w s at (Halted Pre hook)) answer)) (start_events w s at))
    step_rises-at w s at None = started_rise w s at
    step_rises-at w s at (Some hook) = (omega arith, omega arith)

pub in_turn_rises : {X : Type 0} (events : X → ℕ → List Event) (time : X → ℕ) (xs : List X) (at : ℕ) → ((x : X) (at : ℕ) → Rises lane_time_of at (at + time x) (events x at))
    → Rises lane_time_of at (at + sum_by time xs) (in_turn events time xs at)
in_turn_rises events time [] at each = omega arith
in_turn_rises events time (x ∷ xs) at each =
    let sums : at + sum_by time (x ∷ xs) ≡ at + time x + sum_by time xs = (let e : sum_by time (x ∷ xs) ≡ time x + sum_by time xs = sum_by-cons time x xs in omega arith) in
    rw sums (Rises-append lane_time_of at (at + time x) (at + time x + sum_by time xs) (events x at) (in_turn events time xs (at + time x)) (each x at) (in_turn_rises events time xs (at + time x) each))

pub change_rises : (work : Work) (w c at : ℕ) → Rises lane_time_of at (at + span_of work c) (change_events work w c at)
change_rises work w c at = in_turn_rises (step_events w) step_time (begun (steps_of work c)) at (step_rises w)

worker_rises : (work : Work) (w : ℕ) (changes : List ℕ) → Rises lane_time_of 0 (0 + sum_by (span_of work) changes) (worker_events work w changes)
worker_rises work w changes = in_turn_rises (change_events work w) (span_of work) changes 0 (change_rises work w)

-- ---- the first event

IfSome-first : (at : ℕ) (xs ys : List Event) → IfSome (slice_get xs 0) (λ e. e.at ≡ at) → IfSome (slice_get ys 0) (λ e. e.at ≡ at) → IfSome (slice_get (xs ++ ys) 0) (λ e. e.at ≡ at)
IfSome-first at [] ys first second = second
IfSome-first at (x ∷ xs) ys first second = first

step_first : (w : ℕ) (s : Step) (rest : List Step) (at : ℕ) (answer : Option ℕ) (more : List Event)
    → IfSome (slice_get (cond (is_some answer) (option_to_list (option_map (λ hook. event w s at (Halted Pre hook)) answer)) (start_events w s at) ++ more) 0) (λ e. e.at ≡ at)
step_first w s rest at None more = refl
step_first w s rest at (Some hook) more = refl

steps_first : (w : ℕ) (steps : List Step) (at : ℕ) → IfSome (slice_get (in_turn (step_events w) step_time steps at) 0) (λ e. e.at ≡ at)
steps_first w [] at = tt
steps_first w (s ∷ steps) at = step_first w s steps at (s.halts Pre) (in_turn (step_events w) step_time steps (at + step_time s))

pub change_first : (work : Work) (w c at : ℕ) → IfSome (slice_get (change_events work w c at) 0) (λ e. e.at ≡ at)
change_first work w c at = steps_first w (begun (steps_of work c)) at

-- ---- how late it can be

short : (kind : StepKind) (answer : Option Outcome) → IfSome answer IsBounded → took kind (unwrap_or answer default_outcome) ≤ 86400
short kind None h = let less = took_short kind default_outcome in omega arith
short kind (Some outcome) h = let less = took_short kind outcome in let all = h.short in omega arith

time_short : (s : Step) → (seconds_of s) ≤ 86400 → step_time s ≤ 86400
time_short s h = elim (is_some (s.halts Pre)) as (λ b. cond b 0 (seconds_of s) ≤ 86400) [ true ↦ omega arith | false ↦ h ]

abbrev AreShort : List Step → Type 0
AreShort [] = Unit {0}
AreShort (s ∷ steps) = ((seconds_of s) ≤ 86400) × AreShort steps

planned_short : (work : Work) (c n : ℕ) (kinds : List StepKind) → IsInRange work.script → AreShort (map (λ p. step_of work c p.0 p.1) (enumerate_from n kinds))
planned_short work c n [] range = tt
planned_short work c n (kind ∷ kinds) range = (short kind (stated_outcome work.script c n) (range c n), planned_short work c (n + 1) kinds range)

begun_time : (steps : List Step) → AreShort steps → sum_by step_time (begun steps) ≤ 86400 * length steps
begun_time [] h = omega arith
begun_time (s ∷ steps) h =
    let first : step_time s ≤ 86400 = time_short s h.0 in
    let rest : sum_by step_time (begun steps) ≤ 86400 * length steps = begun_time steps h.1 in
    elim (goes_on s) as (λ b. sum_by step_time (s ∷ cond b (begun steps) []) ≤ 86400 * suc (length steps)) [
      | true ↦ (let e : sum_by step_time (s ∷ begun steps) ≡ step_time s + sum_by step_time (begun steps) = sum_by-cons step_time s (begun steps) in omega arith)
      | false ↦ (let e : sum_by step_time (s ∷ []) ≡ step_time s + 0 = sum_by-cons step_time s [] in omega arith)
    ]

length-planned : (work : Work) (c n : ℕ) (kinds : List StepKind) → length (map (λ p. step_of work c p.0 p.1) (enumerate_from n kinds)) ≡ length kinds
length-planned work c n [] = refl
length-planned work c n (kind ∷ kinds) = ap suc (length-planned work c (n + 1) kinds)

pub span_short : (work : Work) (c : ℕ) → IsWithinLimits work → span_of work c ≤ max_span
span_short work c read =
    let few : length (kinds_of work.plan c) ≤ 2 = read.few_steps c in
    let applied = few_applied work.plan work.script c in
    let same : length (steps_of work c) ≡ length (kinds_applied work.plan work.script c) = length-planned work c 0 (kinds_applied work.plan work.script c) in
    let time : span_of work c ≤ 86400 * length (steps_of work c) = begun_time (steps_of work c) (planned_short work c 0 (kinds_applied work.plan work.script c) read.short_steps) in
    omega arith

spans_short : (work : Work) (changes : List ℕ) → IsWithinLimits work → sum_by (span_of work) changes ≤ max_span * length changes
spans_short work [] read = omega arith
spans_short work (c ∷ changes) read =
    let first : span_of work c ≤ max_span = span_short work c read in
    let rest : sum_by (span_of work) changes ≤ max_span * length changes = spans_short work changes read in
    let e : sum_by (span_of work) (c ∷ changes) ≡ span_of work c + sum_by (span_of work) changes = sum_by-cons (span_of work) c changes in
    omega arith

below : (xs : List ℕ) (n q : ℕ) → All (λ x. x < n) xs → list_any (λ x. nat_eq q x) xs ≡ true → q < n
below [] n q all h = cc
below (x ∷ xs) n q all h =
    ⊎_elim
    (λ e. let first : x < n = all 0 0 (omega arith) in let same : q ≡ x = e.1 in omega arith)
    (λ e. below xs n q (λ k d less. all (suc k) d (omega arith)) (rw e.0 at h))
    (eqb_tells q x)

pub worker_in_time : (work : Work) (w : ℕ) (changes : List ℕ) → IsWithinLimits work → NamesEachOnce work changes → All (λ e. e.at ≤ latest_second) (worker_events work w changes)
worker_in_time work w changes read named =
    let spans : sum_by (span_of work) changes ≤ max_span * length changes = spans_short work changes read in
    let many : length changes ≤ length work.plan.changes = length-le_from_distinct_below changes (length work.plan.changes) named.once (λ q h. below changes (length work.plan.changes) q named.known h) in
    let few : length work.plan.changes ≤ 10000 = read.few_changes in
    Rises-at_most lane_time_of 0 latest_second (worker_events work w changes)
    (Rises-higher lane_time_of 0 (0 + sum_by (span_of work) changes) latest_second (worker_events work w changes) (omega arith) (worker_rises work w changes))
