-- Totals and parts of lists that are joined.
use Rattle.std.proofs.Common.{◌≡◌, ℕ, ◌+◌, nat_eq, Bool, true, List, [], ◌∷◌, ◌++◌, cond, map, Option, Some, None, refl, ap, ◌∙◌, ⊎_elim}
use Rattle.std.specs.Prelude.{count_by, is_some, option_map, option_to_list}
use Rattle.std.proofs.lemmas.Bool.Decides.{eqb_tells}
use Rattle.std.proofs.lemmas.List.Elements.{filter-append}
use Rattle.std.proofs.lemmas.List.Sums.{sum_by-append}
use Rattle.apply_model.specs.Plan.SavedPlan.{SavedPlan}
use Rattle.apply_model.specs.declared.plan.step_kind.StepKind.TheVariants.{Create, Update, Delete}
use Rattle.apply_hooks.specs.declared.phase.Phase.{Phase}
use Rattle.apply_hooks.specs.declared.phase.Phase.TheVariants.{Pre}
use Rattle.apply_events.specs.declared.event.Event.{Event}
use Rattle.apply_events.specs.declared.what.What.{What}
use Rattle.apply_events.specs.declared.what.What.TheVariants.{Halted, Start}
use Rattle.apply_events.specs.ChangeEvents.{begun, change_events, in_turn, span_of}
use Rattle.apply_events.specs.OfWorker.{of_worker}
use Rattle.apply_events.specs.Step.{Step, Work, steps_of}
use Rattle.apply_events.specs.StepEvents.{between, endings, event, halts, phase_after, seconds_of, start_events, step_events, step_time}
use Rattle.apply_events.specs.Totals.{completes, is_errored, is_halted, plus, totals_of}
use Rattle.apply_events.specs.WorkerEvents.{worker_events}

count-append : (p : Event → Bool) (xs ys : List Event) → count_by p (xs ++ ys) ≡ count_by p xs + count_by p ys
count-append p xs ys = sum_by-append (λ x. cond (p x) 1 0) xs ys

pub totals-append : (plan : SavedPlan) (first second : List Event) → totals_of plan (first ++ second) ≡ plus (totals_of plan first) (totals_of plan second)
totals-append plan first second =
    let added = count-append (completes plan Create) first second in
    let changed = count-append (completes plan Update) first second in
    let removed = count-append (completes plan Delete) first second in
    let failed = count-append (λ e. is_errored e.what) first second in
    let halted = count-append (λ e. is_halted e.what) first second in
    rw (added, changed, removed, failed, halted) refl

pub of_worker-append : (worker : ℕ) (first second : List Event) → of_worker worker (first ++ second) ≡ of_worker worker first ++ of_worker worker second
of_worker-append worker first second = filter-append (λ e. nat_eq e.worker worker) first second

-- ---- all events of a worker name it

itself : (n : ℕ) → nat_eq n n ≡ true
itself n = ⊎_elim (λ e. e.0) (λ e. absurd (e.1 refl)) (eqb_tells n n)

own-append : (w : ℕ) (xs ys : List Event) → of_worker w xs ≡ xs → of_worker w ys ≡ ys → of_worker w (xs ++ ys) ≡ xs ++ ys
own-append w xs ys first second = of_worker-append w xs ys ∙ rw (first, second) refl

own-map : {X : Type 0} (w : ℕ) (g : X → Event) (xs : List X) → ((x : X) → (g x).worker ≡ w) → of_worker w (map g xs) ≡ map g xs
own-map w g [] own = refl
own-map w g (x ∷ xs) own =
    let here : nat_eq (g x).worker w ≡ true = rw (own x) (itself w) in
    rw here (ap (λ es. g x ∷ es) (own-map w g xs own))

own-halts : (w : ℕ) (s : Step) (phase : Phase) (at : ℕ) (answer : Option ℕ) → of_worker w (option_to_list (option_map (λ hook. event w s at (Halted phase hook)) answer)) ≡ option_to_list (option_map (λ hook. event w s at (Halted phase hook)) answer)
own-halts w s phase at None = refl
own-halts w s phase at (Some hook) = rw (itself w) refl

own-start_events : (w : ℕ) (s : Step) (at : ℕ) → of_worker w (start_events w s at) ≡ start_events w s at
own-start_events w s at =
    own-append w (event w s at Start ∷ [] ++ map (λ (p : ℕ × What). event w s (at + p.0) p.1) (between s) ++ map (λ what. event w s (at + (seconds_of s)) what) (endings s)) (halts w s (phase_after s.fails) (at + (seconds_of s)))
    (own-append w (event w s at Start ∷ [] ++ map (λ (p : ℕ × What). event w s (at + p.0) p.1) (between s)) (map (λ what. event w s (at + (seconds_of s)) what) (endings s))
    (own-append w (event w s at Start ∷ []) (map (λ (p : ℕ × What). event w s (at + p.0) p.1) (between s)) (rw (itself w) refl)
    (own-map w (λ (p : ℕ × What). event w s (at + p.0) p.1) (between s) (λ p. refl)))
    (own-map w (λ what. event w s (at + (seconds_of s)) what) (endings s) (λ what. refl)))
    (own-halts w s (phase_after s.fails) (at + (seconds_of s)) (s.halts (phase_after s.fails)))

own-step : (w : ℕ) (s : Step) (at : ℕ) → of_worker w (step_events w s at) ≡ step_events w s at
own-step w s at = own-step-at w s at (s.halts Pre)
  where
    own-step-at : (w : ℕ) (s : Step) (at : ℕ) (answer : Option ℕ) → of_worker w (cond (is_some answer) (option_to_list (option_map (λ hook. event w s at (Halted Pre hook)) answer)) (start_events w s at)) ≡ cond (is_some answer) (option_to_list (option_map (λ hook. event w s at (Halted Pre hook)) answer)) (start_events w s at)
    own-step-at w s at None = own-start_events w s at
    own-step-at w s at (Some hook) = own-halts w s Pre at (Some hook)

own-turn : {X : Type 0} (w : ℕ) (events : X → ℕ → List Event) (time : X → ℕ) (xs : List X) (at : ℕ) → ((x : X) (at : ℕ) → of_worker w (events x at) ≡ events x at) → of_worker w (in_turn events time xs at) ≡ in_turn events time xs at
own-turn w events time [] at own = refl
own-turn w events time (x ∷ xs) at own = own-append w (events x at) (in_turn events time xs (at + time x)) (own x at) (own-turn w events time xs (at + time x) own)

own-change : (work : Work) (w c at : ℕ) → of_worker w (change_events work w c at) ≡ change_events work w c at
own-change work w c at = own-turn w (step_events w) step_time (begun (steps_of work c)) at (own-step w)

pub own-worker : (work : Work) (w : ℕ) (changes : List ℕ) → of_worker w (worker_events work w changes) ≡ worker_events work w changes
own-worker work w changes = own-turn w (change_events work w) (span_of work) changes 0 (own-change work w)
