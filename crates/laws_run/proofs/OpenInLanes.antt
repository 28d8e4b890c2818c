-- At each place of a time line no more changes, and no more steps, are under way than there are
-- lanes. Steps may wait for others.
use Rattle.std.proofs.Common.{◌≡◌, ℕ, zero, suc, ◌+◌, ◌-◌, ◌<◌, ◌≤◌, nat_eq, Bool, true, false, ◌&&◌, List, [], ◌∷◌, ◌++◌, All, cond, drop, length, map, nat_lt, sum_by, take, sym, refl, ap, ◌∙◌, subst, ⊎_elim, arith, lt-ltb, le-ltb, Option, Some, None}
use Rattle.std.specs.Prelude.{◌||◌, is_some, not, option_map, option_to_list}
use Rattle.std.specs.List.{enumerate_from, range_with_len}
use Rattle.std.proofs.Math.Bool.{and-false}
use Rattle.std.proofs.Math.Seq.{take-append-add, take-append_seam}
use Rattle.std.proofs.lemmas.Bool.{cases_Bool, cases_lt}
use Rattle.std.proofs.lemmas.List.{length-map, take-append-le}
use Rattle.std.proofs.lemmas.List.Elements.{All-cons, All-head, All-map, All-nil, All-tail, All-take, All-weaker}
use Rattle.std.proofs.lemmas.List.FromFn.{length-range_with_len}
use Rattle.std.proofs.lemmas.List.Sums.{sum_by-append, sum_by-cons, sum_by-le, sum_by-le-sum_by}
use Rattle.apply_model.specs.declared.plan.step_kind.StepKind.{StepKind}
use Rattle.apply_model.specs.declared.script.provisioner.Provisioner.{Provisioner}
use Rattle.apply_model.specs.Script.Outcome.{has_failed}
use Rattle.apply_model.specs.Script.OutcomeMap.{outcome_of}
use Rattle.apply_hooks.specs.declared.phase.Phase.{Phase}
use Rattle.apply_hooks.specs.declared.phase.Phase.TheVariants.{Pre}
use Rattle.apply_events.specs.declared.event.Event.{Event}
use Rattle.apply_events.specs.declared.lanes.turn.StartedTurn.{StartedTurn}
use Rattle.apply_events.specs.declared.lanes.turn.Turn.{Turn}
use Rattle.apply_events.specs.declared.what.What.{What}
use Rattle.apply_events.specs.declared.what.What.TheVariants.{Halted, ProvisionComplete, ProvisionErrored, Start, WarnNote}
use Rattle.apply_events.specs.ChangeEvents.{begun, in_turn}
use Rattle.apply_events.specs.Interleaving.{IsInterleaving, lists_of}
use Rattle.apply_events.specs.OfWorker.{of_worker}
use Rattle.apply_events.specs.Provisions.{provision_end}
use Rattle.apply_events.specs.Step.{Step, Work, kinds_applied, step_of, steps_of}
use Rattle.apply_events.specs.StepEvents.{between, end_of, endings, event, goes_on, halts, notes, phase_after, seconds_of, start_events, step_events, step_time, emits_end}
use Rattle.apply_events.specs.Waits.TimeLine.{lane_turns, turn_events}
use Rattle.apply_events.specs.Waits.Turn.{begun_steps}
use Rattle.apply_events.proofs.Interleaved.{summed}
use Rattle.apply_events.proofs.Joined.{of_worker-append}
use Rattle.apply_events.proofs.Provisions.{all_along}
use Rattle.laws_run.specs.ChangesUnderWay.{is_end, is_over_with, is_start, is_warning, only_warns}
use Rattle.laws_run.proofs.TimeLines.StepTimes.{IsOnTime, step_on_time}

-- ---- bits and sums

abbrev pub bit : Bool → ℕ
bit b = cond b 1 0

pub bit_le : (b : Bool) → bit b ≤ 1
bit_le true = omega arith
bit_le false = omega arith

bit_off : (m n : ℕ) → n ≤ m → bit (nat_lt m n) ≡ 0
bit_off m n le = ap bit (le-ltb m n le)

bit_on : (m n : ℕ) → m < n → bit (nat_lt m n) ≡ 1
bit_on m n lt = ap bit (lt-ltb m n lt)

bit_none : (b d : Bool) → d ≡ false → bit (b && d) ≡ 0
bit_none b d none = ap (λ t. bit (b && t)) none ∙ ap bit (and-false b)

pub sum_none : {X : Type 0} (f : X → ℕ) (xs : List X) → ((x : X) → f x ≡ 0) → sum_by f xs ≡ 0
sum_none f [] none = refl
sum_none f (x ∷ xs) none = let here = none x in let rest = sum_none f xs none in sum_by-cons f x xs ∙ omega arith

pub sum_plus : {X : Type 0} (f g h : X → ℕ) (xs : List X) → ((x : X) → f x ≡ g x + h x) → sum_by f xs ≡ sum_by g xs + sum_by h xs
sum_plus f g h [] both = refl
sum_plus f g h (x ∷ xs) both =
    let here = both x in let rest = sum_plus f g h xs both in
    let a = sum_by-cons f x xs in let b = sum_by-cons g x xs in let c = sum_by-cons h x xs in omega arith

-- where a sum is less than another, a term is less than the other's
some_less : {X : Type 0} (e s : X → ℕ) (xs : List X) → bit (nat_lt (sum_by e xs) (sum_by s xs)) ≤ sum_by (λ x. bit (nat_lt (e x) (s x))) xs
some_less e s [] = omega arith
some_less e s (x ∷ xs) =
    let all = sum_by-cons (λ x. bit (nat_lt (e x) (s x))) x xs in
    let ends = sum_by-cons e x xs in let starts = sum_by-cons s x xs in
    let one = bit_le (nat_lt (sum_by e (x ∷ xs)) (sum_by s (x ∷ xs))) in
    let rest = some_less e s xs in
    ⊎_elim
    (λ (lt : e x < s x). let here = bit_on (e x) (s x) lt in omega arith)
    (λ (le : s x ≤ e x). ⊎_elim
    (λ (less : sum_by e xs < sum_by s xs). let there = bit_on (sum_by e xs) (sum_by s xs) less in omega arith)
    (λ (more : sum_by s xs ≤ sum_by e xs). let none = bit_off (sum_by e (x ∷ xs)) (sum_by s (x ∷ xs)) (omega arith) in omega arith)
    (cases_lt (sum_by e xs) (sum_by s xs)))
    (cases_lt (e x) (s x))

pub all_range : (P : ℕ → Type 0) (a n : ℕ) → ((w : ℕ) → w < a + n → P w) → All P (range_with_len a n)
all_range P a zero h = All-nil P
all_range P a (suc n) h = All-cons P a (range_with_len (a + 1) n) (h a (omega arith)) (all_range P (a + 1) n (λ w lt. h w (omega arith)))

-- ---- what neither starts nor ends a step

abbrev IsQuiet : What → Type 0
IsQuiet what = (is_start what ≡ false) × (is_end what ≡ false) × (is_warning what ≡ false)

abbrev Quiet : Event → Type 0
Quiet e = IsQuiet e.what

quiet_hook : (w at : ℕ) (s : Step) (phase : Phase) (located : Option ℕ) → All Quiet (option_to_list (option_map (λ hook. event w s at (Halted phase hook)) located))
quiet_hook w at s phase None = All-nil Quiet
quiet_hook w at s phase (Some hook) = All-cons Quiet (event w s at (Halted phase hook)) [] (refl, refl, refl) (All-nil Quiet)

quiet_between : (w at : ℕ) (s : Step) → All Quiet (map (λ (p : ℕ × What). event w s (at + p.0) p.1) (between s))
quiet_between w at s =
    All-map Quiet (λ (p : ℕ × What). event w s (at + p.0) p.1) (between s)
    (all_along (λ p. IsQuiet p.1) (seconds_of s) 0 0 s.seconds_before s.ran
    (λ t. (refl, refl, refl)) (λ i p since. (refl, refl, refl)) (λ i p j since. (refl, refl, refl)) (λ i p since. quiet_end i p))
  where
    quiet_end : (i : ℕ) (p : Provisioner) → IsQuiet (provision_end i p)
    quiet_end i p = elim (has_failed p) as (λ b. IsQuiet (cond b (ProvisionErrored i) (ProvisionComplete i))) [ true ↦ (refl, refl, refl) | false ↦ (refl, refl, refl) ]

over_with_none : (work : Work) (e : Event) → Quiet e → is_over_with work.script e ≡ false
over_with_none work e quiet =
    let warned = only_warns (outcome_of work.script e.change e.step) in
    ap (λ b. b || (is_warning e.what && warned)) quiet.1 ∙ ap (λ b. b && warned) quiet.2

-- ---- steps agree with the script

-- the step only warns exactly where its outcome does
abbrev IsConsistent : Work → Step → Type 0
IsConsistent work s = only_warns (outcome_of work.script s.change s.number) ≡ (s.only_warns && not s.fails)

abbrev AreConsistent : Work → List Step → Type 0
AreConsistent work [] = Unit {0}
AreConsistent work (s ∷ steps) = IsConsistent work s × AreConsistent work steps

steps_stated : (work : Work) (c n : ℕ) (kinds : List StepKind) → AreConsistent work (map (λ p. step_of work c p.0 p.1) (enumerate_from n kinds))
steps_stated work c n [] = tt
steps_stated work c n (kind ∷ kinds) = (refl, steps_stated work c (n + 1) kinds)

drop_stated : (work : Work) (k : ℕ) (steps : List Step) → AreConsistent work steps → AreConsistent work (drop k steps)
drop_stated work zero steps stated = stated
drop_stated work (suc k) [] stated = tt
drop_stated work (suc k) (s ∷ steps) stated = drop_stated work k steps stated.1

take_stated : (work : Work) (k : ℕ) (steps : List Step) → AreConsistent work steps → AreConsistent work (take k steps)
take_stated work zero steps stated = tt
take_stated work (suc k) [] stated = tt
take_stated work (suc k) (s ∷ steps) stated = (stated.0, take_stated work k steps stated.1)

begun_stated : (work : Work) (steps : List Step) → AreConsistent work steps → AreConsistent work (begun steps)
begun_stated work [] stated = tt
begun_stated work (s ∷ steps) stated = (stated.0, elim (goes_on s) as (λ b. AreConsistent work (cond b (begun steps) [])) [ true ↦ begun_stated work steps stated.1 | false ↦ tt ])

turn_stated : (work : Work) (turn : Turn) → AreConsistent work (begun_steps work turn)
turn_stated work turn =
    begun_stated work (take turn.count (drop turn.first (steps_of work turn.change)))
    (take_stated work turn.count (drop turn.first (steps_of work turn.change))
    (drop_stated work turn.first (steps_of work turn.change) (steps_stated work turn.change 0 (kinds_applied work.plan work.script turn.change))))

take_none : (k : ℕ) → take {A = Event} k [] ≡ []
take_none zero = refl
take_none (suc k) = refl

-- ---- changes or steps that events belong to; `at` tests the number of a change and the number of a step

module _ {X : Type 0} (at : X → ℕ → ℕ → Bool) (work : Work) where
  abbrev pub starts : X → List Event → ℕ
  starts x es = sum_by (λ e. bit (at x e.change e.step && is_start e.what)) es

  abbrev pub ends : X → List Event → ℕ
  ends x es = sum_by (λ e. bit (at x e.change e.step && is_over_with work.script e)) es

  abbrev pub is_open : List Event → X → Bool
  is_open es x = nat_lt (ends x es) (starts x es)

  abbrev pub how_many_open : List X → List Event → ℕ
  how_many_open xs es = sum_by (λ x. bit (is_open es x)) xs

  abbrev Balanced : X → List Event → Type 0
  Balanced x es = starts x es ≡ ends x es

  starts-cons : (x : X) (e : Event) (es : List Event) → starts x (e ∷ es) ≡ bit (at x e.change e.step && is_start e.what) + starts x es
  starts-cons x e es = sum_by-cons (λ (f : Event). bit (at x f.change f.step && is_start f.what)) e es

  ends-cons : (x : X) (e : Event) (es : List Event) → ends x (e ∷ es) ≡ bit (at x e.change e.step && is_over_with work.script e) + ends x es
  ends-cons x e es = sum_by-cons (λ (f : Event). bit (at x f.change f.step && is_over_with work.script f)) e es

  starts-append : (x : X) (es fs : List Event) → starts x (es ++ fs) ≡ starts x es + starts x fs
  starts-append x es fs = sum_by-append (λ (f : Event). bit (at x f.change f.step && is_start f.what)) es fs

  ends-append : (x : X) (es fs : List Event) → ends x (es ++ fs) ≡ ends x es + ends x fs
  ends-append x es fs = sum_by-append (λ (f : Event). bit (at x f.change f.step && is_over_with work.script f)) es fs

  no_starts : (x : X) (es : List Event) → All Quiet es → starts x es ≡ 0
  no_starts x [] quiet = refl
  no_starts x (e ∷ es) quiet =
      let here = bit_none (at x e.change e.step) (is_start e.what) (All-head Quiet e es quiet).0 in
      let rest = no_starts x es (All-tail Quiet e es quiet) in starts-cons x e es ∙ omega arith

  no_ends : (x : X) (es : List Event) → All Quiet es → ends x es ≡ 0
  no_ends x [] quiet = refl
  no_ends x (e ∷ es) quiet =
      let here = bit_none (at x e.change e.step) (is_over_with work.script e) (over_with_none work e (All-head Quiet e es quiet)) in
      let rest = no_ends x es (All-tail Quiet e es quiet) in ends-cons x e es ∙ omega arith

  quiet_balanced : (x : X) (es : List Event) → All Quiet es → Balanced x es
  quiet_balanced x es quiet = no_starts x es quiet ∙ sym (no_ends x es quiet)

  balanced_append : (x : X) (es fs : List Event) → Balanced x es → Balanced x fs → Balanced x (es ++ fs)
  balanced_append x es fs first second = let a = starts-append x es fs in let b = ends-append x es fs in omega arith

  -- ---- within a step

  -- the end alone counts, or the warning of a step that only warns
  endings_balance : (x : X) (w moment : ℕ) (s : Step) (fails only warns : Bool) → only_warns (outcome_of work.script s.change s.number) ≡ (only && not fails)
      → starts x (event w s 0 Start ∷ []) + starts x (map (λ what. event w s moment what) (cond (emits_end fails only) (end_of fails (seconds_of s) ∷ notes fails warns) (WarnNote ∷ [])))
      ≡ ends x (event w s 0 Start ∷ []) + ends x (map (λ what. event w s moment what) (cond (emits_end fails only) (end_of fails (seconds_of s) ∷ notes fails warns) (WarnNote ∷ [])))
  endings_balance x w moment s true only warns stated = elim (at x s.change s.number) as (λ b. 0 + bit (b && true) + (0 + bit (b && false) + bit (b && false)) ≡ 0 + bit (b && false) + (0 + bit (b && true) + bit (b && false))) [ true ↦ refl | false ↦ refl ]
  endings_balance x w moment s false false true stated =
      subst (λ y. 0 + bit (at x s.change s.number && true) + (0 + bit (at x s.change s.number && false) + bit (at x s.change s.number && false)) ≡ 0 + bit (at x s.change s.number && false) + (0 + bit (at x s.change s.number && true) + bit (at x s.change s.number && y))) (sym stated)
      (elim (at x s.change s.number) as (λ b. 0 + bit (b && true) + (0 + bit (b && false) + bit (b && false)) ≡ 0 + bit (b && false) + (0 + bit (b && true) + bit (b && false))) [ true ↦ refl | false ↦ refl ])
  endings_balance x w moment s false false false stated = elim (at x s.change s.number) as (λ b. 0 + bit (b && true) + (0 + bit (b && false)) ≡ 0 + bit (b && false) + (0 + bit (b && true))) [ true ↦ refl | false ↦ refl ]
  endings_balance x w moment s false true warns stated =
      subst (λ y. 0 + bit (at x s.change s.number && true) + (0 + bit (at x s.change s.number && false)) ≡ 0 + bit (at x s.change s.number && false) + (0 + bit (at x s.change s.number && y))) (sym stated)
      (elim (at x s.change s.number) as (λ b. 0 + bit (b && true) + (0 + bit (b && false)) ≡ 0 + bit (b && false) + (0 + bit (b && true))) [ true ↦ refl | false ↦ refl ])

  started_balanced : (x : X) (w moment : ℕ) (s : Step) → IsConsistent work s → Balanced x (start_events w s moment)
  started_balanced x w moment s stated =
      let first = event w s moment Start in
      let emitted = map (λ (p : ℕ × What). event w s (moment + p.0) p.1) (between s) in
      let last = map (λ what. event w s (moment + seconds_of s) what) (endings s) in
      let halt = halts w s (phase_after s.fails) (moment + seconds_of s) in
      let quiet = quiet_balanced x emitted (quiet_between w moment s) in
      let after = quiet_balanced x halt (quiet_hook w (moment + seconds_of s) s (phase_after s.fails) (s.halts (phase_after s.fails))) in
      let whole = endings_balance x w (moment + seconds_of s) s s.fails s.only_warns s.warns stated in
      let a = starts-cons x first (emitted ++ last ++ halt) in let b = ends-cons x first (emitted ++ last ++ halt) in
      let d = starts-append x (emitted ++ last) halt in let e = ends-append x (emitted ++ last) halt in
      let f = starts-append x emitted last in let g = ends-append x emitted last in
      let alone : starts x (event w s 0 Start ∷ []) ≡ bit (at x s.change s.number && true) = starts-cons x (event w s 0 Start) [] ∙ omega arith in
      let nothing : ends x (event w s 0 Start ∷ []) ≡ bit (at x s.change s.number && false) = ends-cons x (event w s 0 Start) [] ∙ omega arith in
      omega arith

  step_balanced : (x : X) (w moment : ℕ) (s : Step) → IsConsistent work s → Balanced x (step_events w s moment)
  step_balanced x w moment s stated = with_halt (s.halts Pre)
    where
      with_halt : (located : Option ℕ) → Balanced x (cond (is_some located) (option_to_list (option_map (λ hook. event w s moment (Halted Pre hook)) located)) (start_events w s moment))
      with_halt None = started_balanced x w moment s stated
      with_halt (Some hook) = quiet_balanced x (event w s moment (Halted Pre hook) ∷ []) (quiet_hook w moment s Pre (Some hook))

  steps_balanced : (x : X) (w moment : ℕ) (steps : List Step) → AreConsistent work steps → Balanced x (in_turn (step_events w) step_time steps moment)
  steps_balanced x w moment [] stated = refl
  steps_balanced x w moment (s ∷ steps) stated =
      balanced_append x (step_events w s moment) (in_turn (step_events w) step_time steps (moment + step_time s))
      (step_balanced x w moment s stated.0) (steps_balanced x w (moment + step_time s) steps stated.1)

  turn_balanced : (x : X) (one : StartedTurn) → Balanced x (turn_events work one)
  turn_balanced x one = steps_balanced x one.lane one.begin.second (begun_steps work one.turn) (turn_stated work one.turn)

  lane_balanced : (x : X) (taken : List StartedTurn) (lane : ℕ) → Balanced x (lane_turns work taken lane)
  lane_balanced x [] lane = refl
  lane_balanced x (one ∷ taken) lane =
      balanced_append x (lane_turns work taken lane) (cond (nat_eq one.lane lane) (turn_events work one) []) (lane_balanced x taken lane)
      (elim (nat_eq one.lane lane) as (λ b. Balanced x (cond b (turn_events work one) [])) [ true ↦ turn_balanced x one | false ↦ refl ])

  -- ---- what is open of some of them

  module _ (xs : List X) (each : (c k : ℕ) → sum_by (λ x. bit (at x c k)) xs ≤ 1) where
    abbrev many : List Event → ℕ
    many es = how_many_open xs es

    -- at each place among these events one is open at most
    abbrev OneAtATime : List Event → Type 0
    OneAtATime es = (k : ℕ) → many (take k es) ≤ 1

    abbrev IsOf : (c k : ℕ) → Event → Type 0
    IsOf c k e = (e.change ≡ c) × (e.step ≡ k)

    others_closed : (x : X) (c k : ℕ) (es : List Event) → All (IsOf c k) es → at x c k ≡ false → starts x es ≡ 0
    others_closed x c k [] of other = refl
    others_closed x c k (e ∷ es) of other =
        let is = All-head (IsOf c k) e es of in
        let no : at x e.change e.step ≡ false = ap (λ d. at x d e.step) is.0 ∙ ap (at x c) is.1 ∙ other in
        let here : bit (at x e.change e.step && is_start e.what) ≡ 0 = ap (λ b. bit (b && is_start e.what)) no in
        let rest = others_closed x c k es (All-tail (IsOf c k) e es of) other in
        starts-cons x e es ∙ omega arith

    one_of_step : (c k : ℕ) (es : List Event) → All (IsOf c k) es → many es ≤ 1
    one_of_step c k es of =
        let less = sum_by-le-sum_by (λ x. bit (is_open es x)) (λ x. bit (at x c k)) xs (λ x. at_most x) in
        let one = each c k in
        omega arith
      where
        at_most : (x : X) → bit (is_open es x) ≤ bit (at x c k)
        at_most x = ⊎_elim
            (λ (yes : at x c k ≡ true). let one = bit_le (is_open es x) in let is : bit (at x c k) ≡ 1 = ap bit yes in omega arith)
            (λ (no : at x c k ≡ false). let none = bit_off (ends x es) (starts x es) (let never = others_closed x c k es of no in omega arith) in omega arith)
            (cases_Bool (at x c k))

    nothing_open : many [] ≤ 1
    nothing_open = let none = sum_none (λ x. bit (is_open [] x)) xs (λ x. refl) in omega arith

    one_in_none : OneAtATime []
    one_in_none k = subst (λ es. many es ≤ 1) (sym (take_none k)) nothing_open

    -- what comes after events that are over
    open_after_it : (es fs : List Event) → ((x : X) → Balanced x es) → many (es ++ fs) ≤ many fs
    open_after_it es fs over = sum_by-le-sum_by (λ x. bit (is_open (es ++ fs) x)) (λ x. bit (is_open fs x)) xs (λ x.
        let same = over x in let first = starts-append x es fs in let last = ends-append x es fs in
        let one = bit_le (is_open (es ++ fs) x) in
        ⊎_elim
        (λ (lt : ends x fs < starts x fs). let on = bit_on (ends x fs) (starts x fs) lt in omega arith)
        (λ (le : starts x fs ≤ ends x fs). let off = bit_off (ends x (es ++ fs)) (starts x (es ++ fs)) (omega arith) in omega arith)
        (cases_lt (ends x fs) (starts x fs)))

    one_in_both : (es fs : List Event) → ((x : X) → Balanced x es) → OneAtATime es → OneAtATime fs → OneAtATime (es ++ fs)
    one_in_both es fs over first second k = ⊎_elim
        (λ (lt : length es < k).
        let j = k - length es in
        let count : length es + j ≡ k = omega arith in
        let cut : take k (es ++ fs) ≡ es ++ take j fs = ap (λ n. take n (es ++ fs)) (sym count) ∙ take-append-add es fs j in
        let less = open_after_it es (take j fs) over in
        let rest = second j in
        subst (λ gs. many gs ≤ 1) (sym cut) (omega arith))
        (λ (le : k ≤ length es). subst (λ gs. many gs ≤ 1) (sym (take-append-le k es fs le)) (first k))
        (cases_lt (length es) k)

    one_in_step : (w moment : ℕ) (s : Step) → OneAtATime (step_events w s moment)
    one_in_step w moment s k =
        one_of_step s.change s.number (take k (step_events w s moment))
        (All-take (IsOf s.change s.number) k (step_events w s moment)
        (All-weaker (IsOnTime moment s) (IsOf s.change s.number) (λ e h. (h.0, h.1)) (step_events w s moment) (step_on_time w moment s)))

    one_in_turn : (w moment : ℕ) (steps : List Step) → AreConsistent work steps → OneAtATime (in_turn (step_events w) step_time steps moment)
    one_in_turn w moment [] stated = one_in_none
    one_in_turn w moment (s ∷ steps) stated =
        one_in_both (step_events w s moment) (in_turn (step_events w) step_time steps (moment + step_time s)) (λ x. step_balanced x w moment s stated.0)
        (one_in_step w moment s) (one_in_turn w (moment + step_time s) steps stated.1)

    one_in_lane : (taken : List StartedTurn) (lane : ℕ) → OneAtATime (lane_turns work taken lane)
    one_in_lane [] lane = one_in_none
    one_in_lane (one ∷ taken) lane =
        one_in_both (lane_turns work taken lane) (cond (nat_eq one.lane lane) (turn_events work one) []) (λ x. lane_balanced x taken lane)
        (one_in_lane taken lane)
        (elim (nat_eq one.lane lane) as (λ b. OneAtATime (cond b (turn_events work one) []))
        [ true ↦ one_in_turn one.lane one.begin.second (begun_steps work one.turn) (turn_stated work one.turn) | false ↦ one_in_none ])

    -- ---- in all lanes

    -- what is open in a list is open in the part of a lane
    in_some_lane : (n : ℕ) (front : List Event) (ys : List X) → All (λ e. e.worker < n) front
        → sum_by (λ x. bit (is_open front x)) ys ≤ sum_by (λ l. sum_by (λ x. bit (is_open l x)) ys) (lists_of n (λ w. of_worker w front))
    in_some_lane n front [] named = omega arith
    in_some_lane n front (x ∷ ys) named =
        let parts : List (List Event) = lists_of n (λ w. of_worker w front) in
        let emitted : IsInterleaving n (λ w. of_worker w front) front = record { named = named; parts = λ w lt. refl } in
        let first : starts x front ≡ sum_by (starts x) parts = summed (λ (e : Event). bit (at x e.change e.step && is_start e.what)) n (λ w. of_worker w front) front emitted in
        let last : ends x front ≡ sum_by (ends x) parts = summed (λ (e : Event). bit (at x e.change e.step && is_over_with work.script e)) n (λ w. of_worker w front) front emitted in
        let some : bit (nat_lt (sum_by (ends x) parts) (sum_by (starts x) parts)) ≤ sum_by (λ l. bit (is_open l x)) parts = some_less (ends x) (starts x) parts in
        let same : bit (is_open front x) ≡ bit (nat_lt (sum_by (ends x) parts) (sum_by (starts x) parts)) = ap (λ n. bit (nat_lt n (starts x front))) last ∙ ap (λ n. bit (nat_lt (sum_by (ends x) parts) n)) first in
        let rest = in_some_lane n front ys named in
        let mine = sum_by-cons (λ y. bit (is_open front y)) x ys in
        let both = sum_plus (λ l. sum_by (λ y. bit (is_open l y)) (x ∷ ys)) (λ l. bit (is_open l x)) (λ l. sum_by (λ y. bit (is_open l y)) ys) parts (λ l. sum_by-cons (λ y. bit (is_open l y)) x ys) in
        omega arith

    front_named : (n : ℕ) (front rest : List Event) → All (λ e. e.worker < n) (front ++ rest) → All (λ e. e.worker < n) front
    front_named n front rest named = subst (All (λ (e : Event). e.worker < n)) (take-append_seam front rest) (All-take (λ (e : Event). e.worker < n) (length front) (front ++ rest) named)

    pub few_open_at_once : (n : ℕ) (taken : List StartedTurn) (front rest : List Event) → IsInterleaving n (lane_turns work taken) (front ++ rest) → how_many_open xs front ≤ n
    few_open_at_once n taken front rest line =
        let parts : List (List Event) = lists_of n (λ w. of_worker w front) in
        let some = in_some_lane n front xs (front_named n front rest line.named) in
        let one : All (λ l. many l ≤ 1) parts =
        All-map (λ l. many l ≤ 1) (λ w. of_worker w front) (range_with_len 0 n)
        (all_range (λ w. many (of_worker w front) ≤ 1) 0 n (λ w lt.
        let mine = of_worker w front in
        let whole : mine ++ of_worker w rest ≡ lane_turns work taken w = sym (of_worker-append w front rest) ∙ line.parts w (omega arith) in
        let cut : take (length mine) (lane_turns work taken w) ≡ mine = ap (take (length mine)) (sym whole) ∙ take-append_seam mine (of_worker w rest) in
        subst (λ es. many es ≤ 1) cut (one_in_lane taken w (length mine)))) in
        let all = sum_by-le (λ l. many l) 1 parts one in
        let count : length parts ≡ length (range_with_len 0 n) = length-map (range_with_len 0 n) (λ w. of_worker w front) in
        let size = length-range_with_len 0 n in
        omega arith
