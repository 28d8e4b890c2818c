-- Each step starts once, and each of its events comes so many seconds later as the event names.
use Rattle.std.proofs.Common.{◌≡◌, ◌≢◌, ℕ, zero, suc, ◌+◌, ◌<◌, ◌≤◌, ◌==◌, Bool, true, false, List, [], ◌∷◌, ◌++◌, All, cond, get_or, length, map, sym, refl, ap, ◌∙◌, subst, ⊎_elim, arith, eq-eqb, ne_eqb, lt-ltb, le-ltb, Option, Some, None, if◌then◌else◌}
use Rattle.std.specs.Prelude.{is_some, option_map, option_to_list}
use Rattle.std.specs.List.{enumerate_from}
use Rattle.std.proofs.lemmas.Bool.{cases_lt}
use Rattle.std.proofs.lemmas.List.Elements.{All-append, All-cons, All-map, All-nil, All-weaker}
use Rattle.std.proofs.lemmas.List.Sums.{get_or-le-sum_by, sum_by-cons}
use Rattle.apply_model.specs.declared.plan.step_kind.StepKind.{StepKind}
use Rattle.apply_model.specs.declared.script.provisioner.Provisioner.{Provisioner}
use Rattle.apply_model.specs.Script.Outcome.{has_failed}
use Rattle.apply_hooks.specs.declared.phase.Phase.{Phase}
use Rattle.apply_hooks.specs.declared.phase.Phase.TheVariants.{Pre}
use Rattle.apply_events.specs.declared.event.Event.{Event}
use Rattle.apply_events.specs.declared.what.What.{What}
use Rattle.apply_events.specs.declared.what.What.TheVariants.{Complete, ErrorNote, Errored, Halted, ProvisionComplete, ProvisionErrored, Start, WarnNote}
use Rattle.apply_events.specs.ChangeEvents.{begun, change_events, in_turn, span_of}
use Rattle.apply_events.specs.Interleaving.{IsInterleaving}
use Rattle.apply_events.specs.Partition.{IsPartition, count_of, places}
use Rattle.apply_events.specs.Provisions.{provision_end}
use Rattle.apply_events.specs.Step.{Step, Work, kinds_applied, step_of, steps_of}
use Rattle.apply_events.specs.StepEvents.{between, end_of, endings, event, goes_on, halts, notes, phase_after, seconds_of, start_events, step_events, step_time, emits_end}
use Rattle.apply_events.specs.WorkerEvents.{worker_events}
use Rattle.laws_run.specs.StepTimes.{ComesAfterItsSeconds, HasOneBegin}
use Rattle.apply_events.proofs.Dealing.{count_first, count_later}
use Rattle.apply_events.proofs.Provisions.{all_along}
use Rattle.apply_events.proofs.Parts.{RisesFrom, none_below, rises_from_zero}
use Rattle.apply_events.proofs.TimeLines.Merge.{all_parts}
use Rattle.apply_events.proofs.TimeLines.Order.{nobody_else}

-- ---- within a step

-- an event of a step that starts at that time
abbrev pub IsOnTime : (begin : ℕ) → Step → Event → Type 0
IsOnTime begin s e = (e.change ≡ s.change) × (e.step ≡ s.number) × ComesAfterItsSeconds begin e

halt_on_time : (w begin at : ℕ) (s : Step) (phase : Phase) (located : Option ℕ) → All (IsOnTime begin s) (option_to_list (option_map (λ hook. event w s at (Halted phase hook)) located))
halt_on_time w begin at s phase None = All-nil (IsOnTime begin s)
halt_on_time w begin at s phase (Some hook) = All-cons (IsOnTime begin s) (event w s at (Halted phase hook)) [] (refl, refl, tt) (All-nil (IsOnTime begin s))

note_on_time : (w at : ℕ) (s : Step) (warns : Bool) → All (IsOnTime at s) (map (λ what. event w s (at + seconds_of s) what) (notes false warns))
note_on_time w at s true = All-cons (IsOnTime at s) (event w s (at + seconds_of s) WarnNote) [] (refl, refl, tt) (All-nil (IsOnTime at s))
note_on_time w at s false = All-nil (IsOnTime at s)

end_on_time : (w at : ℕ) (s : Step) (fails warns : Bool) → All (IsOnTime at s) (map (λ what. event w s (at + seconds_of s) what) (end_of fails (seconds_of s) ∷ notes fails warns))
end_on_time w at s true warns =
    All-cons (IsOnTime at s) (event w s (at + seconds_of s) (Errored (seconds_of s))) (event w s (at + seconds_of s) ErrorNote ∷ []) (refl, refl, refl)
    (All-cons (IsOnTime at s) (event w s (at + seconds_of s) ErrorNote) [] (refl, refl, tt) (All-nil (IsOnTime at s)))
end_on_time w at s false warns =
    All-cons (IsOnTime at s) (event w s (at + seconds_of s) (Complete (seconds_of s))) (map (λ what. event w s (at + seconds_of s) what) (notes false warns)) (refl, refl, refl)
    (note_on_time w at s warns)

endings_on_time : (w at : ℕ) (s : Step) (emitted : Bool) → All (IsOnTime at s) (map (λ what. event w s (at + seconds_of s) what) (cond emitted (end_of s.fails (seconds_of s) ∷ notes s.fails s.warns) (WarnNote ∷ [])))
endings_on_time w at s true = end_on_time w at s s.fails s.warns
endings_on_time w at s false = note_on_time w at s true

-- what happens between the start and the end
between_on_time : (w at : ℕ) (s : Step) → All (IsOnTime at s) (map (λ (p : ℕ × What). event w s (at + p.0) p.1) (between s))
between_on_time w at s =
    All-map (IsOnTime at s) (λ (p : ℕ × What). event w s (at + p.0) p.1) (between s)
    (all_along (λ p. IsOnTime at s (event w s (at + p.0) p.1)) (seconds_of s) 0 0 s.seconds_before s.ran
    (λ t. (refl, refl, refl)) (λ i p since. (refl, refl, tt)) (λ i p j since. (refl, refl, tt)) (λ i p since. end_says_no_time i p since))
  where
    end_says_no_time : (i : ℕ) (p : Provisioner) (since : ℕ) → IsOnTime at s (event w s (at + since) (provision_end i p))
    end_says_no_time i p since =
        elim (has_failed p) as (λ b. IsOnTime at s (event w s (at + since) (cond b (ProvisionErrored i) (ProvisionComplete i)))) [ true ↦ (refl, refl, tt) | false ↦ (refl, refl, tt) ]

started_on_time : (w at : ℕ) (s : Step) → All (IsOnTime at s) (start_events w s at)
started_on_time w at s =
    let emitted = map (λ (p : ℕ × What). event w s (at + p.0) p.1) (between s) in
    let ends = map (λ what. event w s (at + seconds_of s) what) (endings s) in
    let halt = halts w s (phase_after s.fails) (at + seconds_of s) in
    let here : at ≡ at + 0 = omega arith in
    All-cons (IsOnTime at s) (event w s at Start) (emitted ++ ends ++ halt) (refl, refl, here)
    (All-append (IsOnTime at s) (emitted ++ ends) halt
    (All-append (IsOnTime at s) emitted ends (between_on_time w at s) (endings_on_time w at s (emits_end s.fails s.only_warns)))
    (halt_on_time w at (at + seconds_of s) s (phase_after s.fails) (s.halts (phase_after s.fails))))

pub step_on_time : (w at : ℕ) (s : Step) → All (IsOnTime at s) (step_events w s at)
step_on_time w at s = with_halt w at s (s.halts Pre)
  where
    with_halt : (w at : ℕ) (s : Step) (located : Option ℕ) → All (IsOnTime at s) (cond (is_some located) (option_to_list (option_map (λ hook. event w s at (Halted Pre hook)) located)) (start_events w s at))
    with_halt w at s None = started_on_time w at s
    with_halt w at s (Some hook) = halt_on_time w at at s Pre (Some hook)

-- ---- within a change

-- steps of change c, numbered from n on
abbrev AreOf : (c n : ℕ) → List Step → Type 0
AreOf c n [] = Unit {0}
AreOf c n (s ∷ steps) = (s.change ≡ c) × (s.number ≡ n) × AreOf c (n + 1) steps

enumerated : (work : Work) (c n : ℕ) (kinds : List StepKind) → AreOf c n (map (λ p. step_of work c p.0 p.1) (enumerate_from n kinds))
enumerated work c n [] = tt
enumerated work c n (kind ∷ kinds) = (refl, refl, enumerated work c (n + 1) kinds)

begun_of : (c n : ℕ) (steps : List Step) → AreOf c n steps → AreOf c n (begun steps)
begun_of c n [] h = tt
begun_of c n (s ∷ steps) h =
    (h.0, h.1, elim (goes_on s) as (λ b. AreOf c (n + 1) (cond b (begun steps) [])) [ true ↦ begun_of c (n + 1) steps h.2 | false ↦ tt ])

-- when step k starts, if the first step starts at that time
abbrev step_begin : (k at : ℕ) → List Step → ℕ
step_begin k at [] = at
step_begin k at (s ∷ steps) = if s.number == k then at else step_begin k (at + step_time s) steps

-- an event of change c and of one of these steps, numbered from n on
abbrev IsInTurn : (c n at : ℕ) → List Step → Event → Type 0
IsInTurn c n at steps e = (e.change ≡ c) × (n ≤ e.step) × ComesAfterItsSeconds (step_begin e.step at steps) e

in_first : (c n at : ℕ) (s : Step) (steps : List Step) (e : Event) → AreOf c n (s ∷ steps) → IsOnTime at s e → IsInTurn c n at (s ∷ steps) e
in_first c n at s steps e are h =
    let number : s.number ≡ n = are.1 in let step : e.step ≡ s.number = h.1 in
    let here : step_begin e.step at (s ∷ steps) ≡ at = ap (λ b. cond b at (step_begin e.step (at + step_time s) steps)) (eq-eqb s.number e.step (sym step)) in
    (h.0 ∙ are.0, omega arith, subst (λ b. ComesAfterItsSeconds b e) (sym here) h.2)

in_later : (c n at : ℕ) (s : Step) (steps : List Step) (e : Event) → AreOf c n (s ∷ steps) → IsInTurn c (n + 1) (at + step_time s) steps e → IsInTurn c n at (s ∷ steps) e
in_later c n at s steps e are h =
    let number : s.number ≡ n = are.1 in let above : n + 1 ≤ e.step = h.1 in
    let later : step_begin e.step at (s ∷ steps) ≡ step_begin e.step (at + step_time s) steps = ap (λ b. cond b at (step_begin e.step (at + step_time s) steps)) (ne_eqb s.number e.step (λ is. omega arith)) in
    (h.0, omega arith, subst (λ b. ComesAfterItsSeconds b e) (sym later) h.2)

steps_in_turn : (w c n at : ℕ) (steps : List Step) → AreOf c n steps → All (IsInTurn c n at steps) (in_turn (step_events w) step_time steps at)
steps_in_turn w c n at [] are = All-nil (IsInTurn c n at [])
steps_in_turn w c n at (s ∷ steps) are =
    let first = step_events w s at in let later = in_turn (step_events w) step_time steps (at + step_time s) in
    All-append (IsInTurn c n at (s ∷ steps)) first later
    (All-weaker (IsOnTime at s) (IsInTurn c n at (s ∷ steps)) (λ e h. in_first c n at s steps e are h) first (step_on_time w at s))
    (All-weaker (IsInTurn c (n + 1) (at + step_time s) steps) (IsInTurn c n at (s ∷ steps)) (λ e h. in_later c n at s steps e are h) later (steps_in_turn w c (n + 1) (at + step_time s) steps are.2))

-- when step k of change c starts, if the change starts at that time
abbrev begin_in_change : Work → (c k at : ℕ) → ℕ
begin_in_change work c k at = step_begin k at (begun (steps_of work c))

-- an event of change c, which starts at that time
abbrev pub IsOfChange : Work → (c at : ℕ) → Event → Type 0
IsOfChange work c at e = (e.change ≡ c) × ComesAfterItsSeconds (begin_in_change work c e.step at) e

pub change_on_time : (work : Work) (w c at : ℕ) → All (IsOfChange work c at) (change_events work w c at)
change_on_time work w c at =
    All-weaker (IsInTurn c 0 at (begun (steps_of work c))) (IsOfChange work c at) (λ e h. (h.0, h.2)) (change_events work w c at)
    (steps_in_turn w c 0 at (begun (steps_of work c)) (begun_of c 0 (steps_of work c) (enumerated work c 0 (kinds_applied work.plan work.script c))))

-- ---- within a lane

-- when change c starts, if changes are applied one after another from that time
abbrev change_begin : Work → (c at : ℕ) → List ℕ → ℕ
change_begin work c at [] = at
change_begin work c at (x ∷ xs) = if x == c then at else change_begin work c (at + span_of work x) xs

-- an event of one of these changes
abbrev pub IsOfLane : Work → (at : ℕ) → List ℕ → Event → Type 0
IsOfLane work at changes e = (1 ≤ count_of e.change changes) × ComesAfterItsSeconds (begin_in_change work e.change e.step (change_begin work e.change at changes)) e

of_first : (work : Work) (c at : ℕ) (changes : List ℕ) (e : Event) → IsOfChange work c at e → IsOfLane work at (c ∷ changes) e
of_first work c at changes e h =
    let count : count_of e.change (c ∷ changes) ≡ 1 + count_of e.change changes = count_first e.change c changes (sym h.0) in
    let here : change_begin work e.change at (c ∷ changes) ≡ at = ap (λ b. cond b at (change_begin work e.change (at + span_of work c) changes)) (eq-eqb c e.change (sym h.0)) in
    let same : begin_in_change work e.change e.step (change_begin work e.change at (c ∷ changes)) ≡ begin_in_change work c e.step at = ap (begin_in_change work e.change e.step) here ∙ ap (λ x. begin_in_change work x e.step at) h.0 in
    (omega arith, subst (λ b. ComesAfterItsSeconds b e) (sym same) h.1)

of_later : (work : Work) (c at : ℕ) (changes : List ℕ) (e : Event) → RisesFrom (c + 1) changes → IsOfLane work (at + span_of work c) changes e → IsOfLane work at (c ∷ changes) e
of_later work c at changes e rise h =
    let some : 1 ≤ count_of e.change changes = h.0 in
    let other : c ≢ e.change = λ is. (let none : count_of e.change changes ≡ 0 = ap (λ x. count_of x changes) (sym is) ∙ none_below (c + 1) c changes (omega arith) rise in omega arith) in
    let count : count_of e.change (c ∷ changes) ≡ count_of e.change changes = count_later e.change c changes other in
    let later : change_begin work e.change at (c ∷ changes) ≡ change_begin work e.change (at + span_of work c) changes = ap (λ b. cond b at (change_begin work e.change (at + span_of work c) changes)) (ne_eqb c e.change other) in
    (omega arith, subst (λ b. ComesAfterItsSeconds (begin_in_change work e.change e.step b) e) (sym later) h.1)

pub lane_on_time : (work : Work) (w low at : ℕ) (changes : List ℕ) → RisesFrom low changes → All (IsOfLane work at changes) (in_turn (change_events work w) (span_of work) changes at)
lane_on_time work w low at [] rise = All-nil (IsOfLane work at [])
lane_on_time work w low at (c ∷ changes) rise =
    let first = change_events work w c at in let later = in_turn (change_events work w) (span_of work) changes (at + span_of work c) in
    All-append (IsOfLane work at (c ∷ changes)) first later
    (All-weaker (IsOfChange work c at) (IsOfLane work at (c ∷ changes)) (λ e h. of_first work c at changes e h) first (change_on_time work w c at))
    (All-weaker (IsOfLane work (at + span_of work c) changes) (IsOfLane work at (c ∷ changes)) (λ e h. of_later work c at changes e rise.1 h) later (lane_on_time work w (c + 1) (at + span_of work c) changes rise.1))

-- ---- one lane has a change

-- the first list in which a number stands
abbrev list_with : ℕ → List (List ℕ) → ℕ
list_with c [] = 0
list_with c (l ∷ ls) = if count_of c l == 0 then list_with c ls + 1 else 0

one_has_it : (c w : ℕ) (lists : List (List ℕ)) → places c lists ≤ 1 → w < length lists → 1 ≤ count_of c (get_or lists w []) → list_with c lists ≡ w
one_has_it c w [] few lt some = absurd (omega arith)
one_has_it c zero (l ∷ ls) few lt some = ap (λ b. cond b (list_with c ls + 1) 0) (ne_eqb (count_of c l) 0 (λ is. omega arith))
one_has_it c (suc w) (l ∷ ls) few lt some =
    let both : places c (l ∷ ls) ≡ count_of c l + places c ls = sum_by-cons (count_of c) l ls in
    let part : count_of c (get_or ls w []) ≤ places c ls = get_or-le-sum_by (count_of c) ls w [] (omega arith) in
    let rest : list_with c ls ≡ w = one_has_it c w ls (omega arith) (omega arith) some in
    ap (λ b. cond b (list_with c ls + 1) 0) (eq-eqb (count_of c l) 0 (omega arith)) ∙ omega arith

once_at_most : (n m c : ℕ) (lists : List (List ℕ)) → IsPartition n m lists → places c lists ≤ 1
once_at_most n m c lists parts = ⊎_elim
    (λ (lt : c < m). let one : places c lists ≡ 1 = parts.once c ∙ ap (λ b. if b then 1 else 0) (lt-ltb c m lt) in omega arith)
    (λ (ge : m ≤ c). let none : places c lists ≡ 0 = parts.once c ∙ ap (λ b. if b then 1 else 0) (le-ltb c m ge) in omega arith)
    (cases_lt c m)

-- when step k of change c begins, where lists deal the changes out
abbrev begin_of : Work → List (List ℕ) → (c k : ℕ) → ℕ
begin_of work lists c k = begin_in_change work c k (change_begin work c 0 (get_or lists (list_with c lists) []))

-- an event of step k of change c
abbrev IsInTime : Work → List (List ℕ) → (c k : ℕ) → Event → Type 0
IsInTime work lists c k e = e.change ≡ c → e.step ≡ k → ComesAfterItsSeconds (begin_of work lists c k) e

of_lane : (work : Work) (n m c k w : ℕ) (lists : List (List ℕ)) (e : Event) → IsPartition n m lists → w < n
    → IsOfLane work 0 (get_or lists w []) e → IsInTime work lists c k e
of_lane work n m c k w lists e parts lt h change step =
    let mine : List ℕ = get_or lists w [] in
    let size : length lists ≡ n = parts.count in
    let lane : list_with c lists ≡ w = one_has_it c w lists (once_at_most n m c lists parts) (omega arith) (subst (λ x. 1 ≤ count_of x mine) change h.0) in
    let same : begin_in_change work e.change e.step (change_begin work e.change 0 mine) ≡ begin_of work lists c k =
    ap (λ x. begin_in_change work x e.step (change_begin work x 0 mine)) change
    ∙ ap (λ j. begin_in_change work c j (change_begin work c 0 mine)) step
    ∙ ap (λ v. begin_in_change work c k (change_begin work c 0 (get_or lists v []))) (sym lane) in
    subst (λ b. ComesAfterItsSeconds b e) same h.1

pub one_begin : (work : Work) (n m c k : ℕ) (lists : List (List ℕ)) (events : List Event) → IsPartition n m lists
    → IsInterleaving n (λ w. worker_events work w (get_or lists w [])) events → HasOneBegin c k events
one_begin work n m c k lists events parts emitted = record {
  begin = begin_of work lists c k;
  in_time = all_parts (IsInTime work lists c k) events (λ w. ⊎_elim
      (λ (lt : w < n). subst (All (IsInTime work lists c k)) (sym (emitted.parts w lt))
      (All-weaker (IsOfLane work 0 (get_or lists w [])) (IsInTime work lists c k) (λ e h. of_lane work n m c k w lists e parts lt h) (worker_events work w (get_or lists w []))
      (lane_on_time work w 0 0 (get_or lists w []) (rises_from_zero (get_or lists w []) (parts.rising w [] (let size : length lists ≡ n = parts.count in omega arith))))))
      (λ (ge : n ≤ w). subst (All (IsInTime work lists c k)) (sym (nobody_else n events emitted.named w ge)) (All-nil (IsInTime work lists c k)))
      (cases_lt w n));
}

-- no event, without a lane
pub none_begins : (c k n : ℕ) (events : List Event) → n ≤ 0 → All (λ e. e.worker < n) events → HasOneBegin c k events
none_begins c k n events none named = record {
  begin = 0;
  in_time = All-weaker (λ (e : Event). e.worker < n) (λ e. e.change ≡ c → e.step ≡ k → ComesAfterItsSeconds 0 e) (λ e lt. absurd (omega arith)) events named;
}
