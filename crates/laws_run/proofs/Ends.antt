-- A step ends at most once.
use Rattle.std.proofs.Common.{◌≡◌, ℕ, zero, suc, ◌+◌, ◌<◌, ◌≤◌, nat_eq, All, Bool, true, false, ◌&&◌, ◌||◌, List, [], ◌∷◌, ◌++◌, cond, length, map, Option, Some, None, refl, ap, arith, ◌⊎◌, inl, inr, ⊎_elim}
use Rattle.std.specs.Prelude.{count_by, is_some, option_map, option_to_list}
use Rattle.std.proofs.lemmas.Bool.Decides.{eqb_tells}
use Rattle.std.proofs.lemmas.List.Elements.{All-head, All-tail}
use Rattle.std.proofs.lemmas.List.Sums.{sum_by-append, sum_by-cons}
use Rattle.apply_model.specs.declared.script.provisioner.Provisioner.{Provisioner}
use Rattle.apply_model.specs.Script.Outcome.{has_failed}
use Rattle.apply_hooks.specs.declared.phase.Phase.{Phase}
use Rattle.apply_hooks.specs.declared.phase.Phase.TheVariants.{Pre}
use Rattle.apply_events.specs.declared.event.Event.{Event}
use Rattle.apply_events.specs.declared.what.What.{What}
use Rattle.apply_events.specs.declared.what.What.TheVariants.{Halted, ProvisionComplete, ProvisionErrored, Start, WarnNote}
use Rattle.apply_events.specs.ChangeEvents.{begun, change_events, in_turn}
use Rattle.apply_events.specs.Laws.{ends_step}
use Rattle.apply_events.specs.Provisions.{provision_end}
use Rattle.apply_events.specs.Step.{Step, Work, steps_of}
use Rattle.apply_events.specs.StepEvents.{between, end_of, endings, event, halts, notes, phase_after, seconds_of, start_events, step_events, step_time, emits_end}
use Rattle.apply_events.specs.Totals.{is_complete, is_errored}
use Rattle.apply_events.proofs.Provisions.{all_along}
use Rattle.apply_events.proofs.Rising.{Rises, Rises-le}
use Rattle.apply_events.proofs.StepNumbers.{AreNumbered, AreNumbered-begun, in_turn_rise, number_of, step_events_rise, steps_of-numbered}

count-append : (p : Event → Bool) (xs ys : List Event) → count_by p (xs ++ ys) ≡ count_by p xs + count_by p ys
count-append p xs ys = sum_by-append (λ x. cond (p x) 1 0) xs ys

count-cons : (p : Event → Bool) (x : Event) (xs : List Event) → count_by p (x ∷ xs) ≡ cond (p x) 1 0 + count_by p xs
count-cons p x xs = sum_by-cons (λ x. cond (p x) 1 0) x xs

count-map_none : {X : Type 0} (p : Event → Bool) (g : X → Event) (xs : List X) → ((x : X) → p (g x) ≡ false) → count_by p (map g xs) ≡ 0
count-map_none p g [] none = refl
count-map_none p g (x ∷ xs) none =
    let here : cond {A = ℕ} (p (g x)) 1 0 ≡ 0 = rw (none x) refl in
    let rest : count_by p (map g xs) ≡ 0 = count-map_none p g xs none in
    let e : count_by p (g x ∷ map g xs) ≡ cond (p (g x)) 1 0 + count_by p (map g xs) = count-cons p (g x) (map g xs) in
    omega arith

and-false : (b : Bool) → (b && false) ≡ false
and-false true = refl
and-false false = refl

count-halts : (k w : ℕ) (s : Step) (phase : Phase) (at : ℕ) (located : Option ℕ) → count_by (ends_step k) (option_to_list (option_map (λ hook. event w s at (Halted phase hook)) located)) ≡ 0
count-halts k w s phase at None = refl
count-halts k w s phase at (Some hook) = rw (and-false (nat_eq s.number k)) refl

at_most_one : (b : Bool) → cond b 1 0 ≤ 1
at_most_one true = omega arith
at_most_one false = omega arith

notes_end_nothing : (fails warns : Bool) (k w : ℕ) (s : Step) (at : ℕ) → count_by (ends_step k) (map (λ what. event w s at what) (notes fails warns)) ≡ 0
notes_end_nothing true warns k w s at = rw (and-false (nat_eq s.number k)) refl
notes_end_nothing false true k w s at = rw (and-false (nat_eq s.number k)) refl
notes_end_nothing false false k w s at = refl

count-endings : (k w : ℕ) (s : Step) (at : ℕ) → count_by (ends_step k) (map (λ what. event w s at what) (endings s)) ≤ 1
count-endings k w s at = either (emits_end s.fails s.only_warns)
  where
    emitted_once : count_by (ends_step k) (map (λ what. event w s at what) (end_of s.fails (seconds_of s) ∷ notes s.fails s.warns)) ≤ 1
    emitted_once =
        let first : cond (ends_step k (event w s at (end_of s.fails (seconds_of s)))) 1 0 ≤ 1 = at_most_one (ends_step k (event w s at (end_of s.fails (seconds_of s)))) in
        let rest : count_by (ends_step k) (map (λ what. event w s at what) (notes s.fails s.warns)) ≡ 0 = notes_end_nothing s.fails s.warns k w s at in
        let e : count_by (ends_step k) (map (λ what. event w s at what) (end_of s.fails (seconds_of s) ∷ notes s.fails s.warns)) ≡ cond (ends_step k (event w s at (end_of s.fails (seconds_of s)))) 1 0 + count_by (ends_step k) (map (λ what. event w s at what) (notes s.fails s.warns)) =
        count-cons (ends_step k) (event w s at (end_of s.fails (seconds_of s))) (map (λ what. event w s at what) (notes s.fails s.warns)) in
        omega arith

    either : (b : Bool) → count_by (ends_step k) (map (λ what. event w s at what) (cond b (end_of s.fails (seconds_of s) ∷ notes s.fails s.warns) (WarnNote ∷ []))) ≤ 1
    either true = emitted_once
    either false = let none : count_by (ends_step k) (map (λ what. event w s at what) (WarnNote ∷ [])) ≡ 0 = rw (and-false (nat_eq s.number k)) refl in omega arith

-- what happens before the end is no end
abbrev EndsNothing : List (ℕ × What) → Type 0
EndsNothing xs = All (λ x. (is_complete x.1 || is_errored x.1) ≡ false) xs

count-between : (k w : ℕ) (s : Step) (at : ℕ) (xs : List (ℕ × What)) → EndsNothing xs → count_by (ends_step k) (map (λ (p : ℕ × What). event w s (at + p.0) p.1) xs) ≡ 0
count-between k w s at [] none = refl
count-between k w s at (x ∷ xs) none =
    let e = event w s (at + x.0) x.1 in
    let here : cond {A = ℕ} (ends_step k e) 1 0 ≡ 0 = rw (All-head (λ (y : ℕ × What). (is_complete y.1 || is_errored y.1) ≡ false) x xs none, and-false (nat_eq s.number k)) refl in
    let rest : count_by (ends_step k) (map (λ (p : ℕ × What). event w s (at + p.0) p.1) xs) ≡ 0 = count-between k w s at xs (All-tail (λ (y : ℕ × What). (is_complete y.1 || is_errored y.1) ≡ false) x xs none) in
    let sum : count_by (ends_step k) (e ∷ map (λ (p : ℕ × What). event w s (at + p.0) p.1) xs) ≡ cond (ends_step k e) 1 0 + count_by (ends_step k) (map (λ (p : ℕ × What). event w s (at + p.0) p.1) xs) =
    count-cons (ends_step k) e (map (λ (p : ℕ × What). event w s (at + p.0) p.1) xs) in
    omega arith

between_ends_nothing : (s : Step) → EndsNothing (between s)
between_ends_nothing s = all_along (λ x. (is_complete x.1 || is_errored x.1) ≡ false) (seconds_of s) 0 0 s.seconds_before s.ran
    (λ t. refl) (λ i p since. refl) (λ i p j since. refl) (λ i p since. end_is_none i p)
  where
    end_is_none : (i : ℕ) (p : Provisioner) → (is_complete (provision_end i p) || is_errored (provision_end i p)) ≡ false
    end_is_none i p = elim (has_failed p) as (λ b. (is_complete (cond b (ProvisionErrored i) (ProvisionComplete i)) || is_errored (cond b (ProvisionErrored i) (ProvisionComplete i))) ≡ false) [ true ↦ refl | false ↦ refl ]

count-start_events : (k w : ℕ) (s : Step) (at : ℕ) → count_by (ends_step k) (start_events w s at) ≤ 1
count-start_events k w s at =
    let start = event w s at Start ∷ [] in
    let progress = map (λ (p : ℕ × What). event w s (at + p.0) p.1) (between s) in
    let ends = map (λ what. event w s (at + (seconds_of s)) what) (endings s) in
    let halt = halts w s (phase_after s.fails) (at + (seconds_of s)) in
    let first : count_by (ends_step k) start ≡ 0 = rw (and-false (nat_eq s.number k)) refl in
    let second : count_by (ends_step k) progress ≡ 0 = count-between k w s at (between s) (between_ends_nothing s) in
    let third : count_by (ends_step k) ends ≤ 1 = count-endings k w s (at + (seconds_of s)) in
    let fourth : count_by (ends_step k) halt ≡ 0 = count-halts k w s (phase_after s.fails) (at + (seconds_of s)) (s.halts (phase_after s.fails)) in
    let a : count_by (ends_step k) (start ++ progress) ≡ count_by (ends_step k) start + count_by (ends_step k) progress = count-append (ends_step k) start progress in
    let b : count_by (ends_step k) (start ++ progress ++ ends) ≡ count_by (ends_step k) (start ++ progress) + count_by (ends_step k) ends = count-append (ends_step k) (start ++ progress) ends in
    let c : count_by (ends_step k) (start ++ progress ++ ends ++ halt) ≡ count_by (ends_step k) (start ++ progress ++ ends) + count_by (ends_step k) halt = count-append (ends_step k) (start ++ progress ++ ends) halt in
    omega arith

count-step : (k w : ℕ) (s : Step) (at : ℕ) → count_by (ends_step k) (step_events w s at) ≤ 1
count-step k w s at = count-step-at k w s at (s.halts Pre)
  where
    count-step-at : (k w : ℕ) (s : Step) (at : ℕ) (located : Option ℕ) → count_by (ends_step k) (cond (is_some located) (option_to_list (option_map (λ hook. event w s at (Halted Pre hook)) located)) (start_events w s at)) ≤ 1
    count-step-at k w s at None = count-start_events k w s at
    count-step-at k w s at (Some hook) = let none : count_by (ends_step k) (option_to_list (option_map (λ hook. event w s at (Halted Pre hook)) (Some hook))) ≡ 0 = count-halts k w s Pre at (Some hook) in omega arith

-- events of later steps end no earlier one
count-later : (k n high : ℕ) (events : List Event) → Rises number_of n high events → k < n → count_by (ends_step k) events ≡ 0
count-later k n high [] rise less = refl
count-later k n high (e ∷ events) rise less =
    let first : n ≤ e.step = rise.0 in
    let rest : count_by (ends_step k) events ≡ 0 = count-later k e.step high events rise.1 (omega arith) in
    let here : cond {A = ℕ} (ends_step k e) 1 0 ≡ 0 = rw (⊎_elim (λ (same : (nat_eq e.step k ≡ true) × (e.step ≡ k)). let equal : e.step ≡ k = same.1 in absurd (omega arith)) (λ other. other.0) (eqb_tells e.step k)) refl in
    let sum : count_by (ends_step k) (e ∷ events) ≡ cond (ends_step k e) 1 0 + count_by (ends_step k) events = count-cons (ends_step k) e events in
    omega arith

-- events of earlier steps end no later one
count-earlier : (k n high : ℕ) (events : List Event) → Rises number_of n high events → high < k → count_by (ends_step k) events ≡ 0
count-earlier k n high [] rise less = refl
count-earlier k n high (e ∷ events) rise less =
    let last : e.step ≤ high = Rises-le number_of e.step high events rise.1 in
    let rest : count_by (ends_step k) events ≡ 0 = count-earlier k e.step high events rise.1 less in
    let here : cond {A = ℕ} (ends_step k e) 1 0 ≡ 0 = rw (⊎_elim (λ (same : (nat_eq e.step k ≡ true) × (e.step ≡ k)). let equal : e.step ≡ k = same.1 in absurd (omega arith)) (λ other. other.0) (eqb_tells e.step k)) refl in
    let sum : count_by (ends_step k) (e ∷ events) ≡ cond (ends_step k e) 1 0 + count_by (ends_step k) events = count-cons (ends_step k) e events in
    omega arith

three_ways : (m n : ℕ) → (m < n) ⊎ ((m ≡ n) ⊎ (n < m))
three_ways zero zero = inr (inl refl)
three_ways zero (suc n) = inl (omega arith)
three_ways (suc m) zero = inr (inr (omega arith))
three_ways (suc m) (suc n) = ⊎_elim (λ less. inl (omega arith)) (λ e. ⊎_elim (λ same. inr (inl (ap suc same))) (λ more. inr (inr (omega arith))) e) (three_ways m n)

count-turn : (k w n : ℕ) (steps : List Step) (at : ℕ) → AreNumbered n steps → count_by (ends_step k) (in_turn (step_events w) step_time steps at) ≤ 1
count-turn k w n [] at h = omega arith
count-turn k w n (s ∷ steps) at h =
    let here : s.number ≡ n = h.0 in
    let one : count_by (ends_step k) (step_events w s at) ≤ 1 = count-step k w s at in
    let others : count_by (ends_step k) (in_turn (step_events w) step_time steps (at + step_time s)) ≤ 1 = count-turn k w (n + 1) steps (at + step_time s) h.1 in
    let sum : count_by (ends_step k) (in_turn (step_events w) step_time (s ∷ steps) at) ≡ count_by (ends_step k) (step_events w s at) + count_by (ends_step k) (in_turn (step_events w) step_time steps (at + step_time s)) =
    count-append (ends_step k) (step_events w s at) (in_turn (step_events w) step_time steps (at + step_time s)) in
    ⊎_elim
    (λ less. let none : count_by (ends_step k) (step_events w s at) ≡ 0 = count-earlier k s.number s.number (step_events w s at) (step_events_rise w s at) (omega arith) in omega arith)
    (λ e. let none : count_by (ends_step k) (in_turn (step_events w) step_time steps (at + step_time s)) ≡ 0 =
    count-later k (n + 1) (n + 1 + length steps) (in_turn (step_events w) step_time steps (at + step_time s)) (in_turn_rise w (n + 1) steps (at + step_time s) h.1)
    (⊎_elim (λ same. omega arith) (λ more. omega arith) e) in omega arith)
    (three_ways n k)

pub ends_once : (work : Work) (w c at k : ℕ) → count_by (ends_step k) (change_events work w c at) ≤ 1
ends_once work w c at k = count-turn k w 0 (begun (steps_of work c)) at (AreNumbered-begun 0 (steps_of work c) (steps_of-numbered work c))
