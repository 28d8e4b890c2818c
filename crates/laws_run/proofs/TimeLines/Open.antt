-- At no place of a time line more changes are under way than there are lanes.
use Rattle.std.proofs.Common.{◌≡◌, ◌≢◌, ℕ, zero, suc, ◌+◌, ◌-◌, ◌<◌, ◌≤◌, nat_eq, Bool, true, false, ◌&&◌, List, [], ◌∷◌, ◌++◌, All, cond, get_or, length, map, nat_lt, sum_by, sym, refl, ap, ◌∙◌, subst, ⊎_elim, arith, ne_eqb, lt-ltb, le-ltb, Option, Some, None}
use Rattle.std.specs.Prelude.{◌||◌, is_some, not, option_map, option_to_list, take}
use Rattle.std.specs.List.{enumerate_from, range_with_len}
use Rattle.std.proofs.Math.Bool.{and-false}
use Rattle.std.proofs.Math.Seq.{take-append_seam, take-append-add}
use Rattle.std.proofs.lemmas.Bool.{cases_lt}
use Rattle.std.proofs.lemmas.Bool.Decides.{eqb_tells}
use Rattle.std.proofs.lemmas.List.{length-map, take-append-le}
use Rattle.std.proofs.lemmas.List.Elements.{All-cons, All-head, All-map, All-nil, All-tail, All-take, All-weaker}
use Rattle.std.proofs.lemmas.List.FromFn.{length-range_with_len}
use Rattle.std.proofs.lemmas.List.Sums.{sum_by-append, sum_by-cons, sum_by-le, sum_by-le-sum_by}
use Rattle.apply_model.specs.declared.plan.step_kind.StepKind.{StepKind}
use Rattle.apply_model.specs.declared.script.provisioner.Provisioner.{Provisioner}
use Rattle.apply_model.specs.Script.Outcome.{has_failed}
use Rattle.apply_model.specs.Script.OutcomeMap.{outcome_of}
use Rattle.apply_hooks.specs.declared.phase.Phase.{Phase}
use Rattle.apply_hooks.specs.declared.phase.Phase.TheVariants.{Pre}
use Rattle.apply_events.specs.declared.event.Event.{Event}
use Rattle.apply_events.specs.declared.what.What.{What}
use Rattle.apply_events.specs.declared.what.What.TheVariants.{Halted, ProvisionComplete, ProvisionErrored, Start, WarnNote}
use Rattle.apply_events.specs.ChangeEvents.{begun, change_events, in_turn, span_of}
use Rattle.apply_events.specs.Interleaving.{IsInterleaving, lists_of}
use Rattle.apply_events.specs.OfWorker.{of_worker}
use Rattle.apply_events.specs.Provisions.{provision_end}
use Rattle.apply_events.specs.Step.{Step, Work, kinds_applied, step_of, steps_of}
use Rattle.apply_events.specs.StepEvents.{between, end_of, endings, event, goes_on, halts, notes, phase_after, seconds_of, start_events, step_events, step_time, emits_end}
use Rattle.apply_events.specs.Lanes.Dealing.{lanes}
use Rattle.laws_run.specs.ChangesUnderWay.{ends_of, is_end, is_open_after, is_over_with, is_start, is_warning, only_warns, open_after, starts_of}
use Rattle.apply_events.specs.Lanes.TimeLine.{IsTimeLine, lane_events}
use Rattle.apply_events.proofs.Interleaved.{summed}
use Rattle.apply_events.proofs.Joined.{of_worker-append}
use Rattle.apply_events.proofs.Provisions.{all_along}
use Rattle.laws_run.proofs.TimeLines.StepTimes.{IsOfChange, change_on_time}

-- ---- bits and sums

abbrev bit : Bool → ℕ
bit b = cond b 1 0

bit_le : (b : Bool) → bit b ≤ 1
bit_le true = omega arith
bit_le false = omega arith

bit_off : (m n : ℕ) → n ≤ m → bit (nat_lt m n) ≡ 0
bit_off m n le = ap bit (le-ltb m n le)

bit_on : (m n : ℕ) → m < n → bit (nat_lt m n) ≡ 1
bit_on m n lt = ap bit (lt-ltb m n lt)

sum_none : {X : Type 0} (f : X → ℕ) (xs : List X) → ((x : X) → f x ≡ 0) → sum_by f xs ≡ 0
sum_none f [] none = refl
sum_none f (x ∷ xs) none = let here = none x in let rest = sum_none f xs none in sum_by-cons f x xs ∙ omega arith

pub sum_plus : {X : Type 0} (f g h : X → ℕ) (xs : List X) → ((x : X) → f x ≡ g x + h x) → sum_by f xs ≡ sum_by g xs + sum_by h xs
sum_plus f g h [] both = refl
sum_plus f g h (x ∷ xs) both =
    let here = both x in let rest = sum_plus f g h xs both in
    let a = sum_by-cons f x xs in let b = sum_by-cons g x xs in let c = sum_by-cons h x xs in omega arith

-- where a sum is less than another, a term is less than the other's
some_less : {X : Type 0} (e s : X → ℕ) (xs : List X) → bit (nat_lt (sum_by e xs) (sum_by s xs)) ≤ sum_by (λ x. bit (nat_lt (e x) (s x))) xs
some_less e s [] = omega arith
some_less e s (x ∷ xs) =
    let all = sum_by-cons (λ x. bit (nat_lt (e x) (s x))) x xs in
    let ends = sum_by-cons e x xs in let starts = sum_by-cons s x xs in
    let one = bit_le (nat_lt (sum_by e (x ∷ xs)) (sum_by s (x ∷ xs))) in
    let rest = some_less e s xs in
    ⊎_elim
    (λ (lt : e x < s x). let here = bit_on (e x) (s x) lt in omega arith)
    (λ (le : s x ≤ e x). ⊎_elim
    (λ (less : sum_by e xs < sum_by s xs). let there = bit_on (sum_by e xs) (sum_by s xs) less in omega arith)
    (λ (more : sum_by s xs ≤ sum_by e xs). let none = bit_off (sum_by e (x ∷ xs)) (sum_by s (x ∷ xs)) (omega arith) in omega arith)
    (cases_lt (sum_by e xs) (sum_by s xs)))
    (cases_lt (e x) (s x))

-- only one term counts
none_above : (f : ℕ → ℕ) (c a m : ℕ) → c < a → ((x : ℕ) → x ≢ c → f x ≡ 0) → sum_by f (range_with_len a m) ≡ 0
none_above f c a zero lt others = refl
none_above f c a (suc m) lt others =
    let here = others a (λ is. omega arith) in let rest = none_above f c (a + 1) m (omega arith) others in
    sum_by-cons f a (range_with_len (a + 1) m) ∙ omega arith

one_counts : (f : ℕ → ℕ) (c a m : ℕ) → ((x : ℕ) → f x ≤ 1) → ((x : ℕ) → x ≢ c → f x ≡ 0) → sum_by f (range_with_len a m) ≤ 1
one_counts f c a zero few others = omega arith
one_counts f c a (suc m) few others =
    let both = sum_by-cons f a (range_with_len (a + 1) m) in
    ⊎_elim
    (λ (d : _ × (a ≡ c)). let is = d.1 in let here = few a in let rest = none_above f c (a + 1) m (omega arith) others in omega arith)
    (λ (d : _ × (a ≢ c)). let here = others a d.1 in let rest = one_counts f c (a + 1) m few others in omega arith)
    (eqb_tells a c)

-- ---- as many ends as starts

-- neither a start nor an end, nor a warning
abbrev IsQuiet : What → Type 0
IsQuiet what = (is_start what ≡ false) × (is_end what ≡ false) × (is_warning what ≡ false)

abbrev Quiet : Event → Type 0
Quiet e = IsQuiet e.what

abbrev Balanced : Work → (c : ℕ) → List Event → Type 0
Balanced work c es = starts_of c es ≡ ends_of work c es

starts-cons : (c : ℕ) (e : Event) (es : List Event) → starts_of c (e ∷ es) ≡ bit (nat_eq e.change c && is_start e.what) + starts_of c es
starts-cons c e es = sum_by-cons (λ (x : Event). bit (nat_eq x.change c && is_start x.what)) e es

ends-cons : (work : Work) (c : ℕ) (e : Event) (es : List Event) → ends_of work c (e ∷ es) ≡ bit (nat_eq e.change c && is_over_with work.script e) + ends_of work c es
ends-cons work c e es = sum_by-cons (λ (x : Event). bit (nat_eq x.change c && is_over_with work.script x)) e es

starts-append : (c : ℕ) (es fs : List Event) → starts_of c (es ++ fs) ≡ starts_of c es + starts_of c fs
starts-append c es fs = sum_by-append (λ (x : Event). bit (nat_eq x.change c && is_start x.what)) es fs

ends-append : (work : Work) (c : ℕ) (es fs : List Event) → ends_of work c (es ++ fs) ≡ ends_of work c es + ends_of work c fs
ends-append work c es fs = sum_by-append (λ (x : Event). bit (nat_eq x.change c && is_over_with work.script x)) es fs

bit_none : (b d : Bool) → d ≡ false → bit (b && d) ≡ 0
bit_none b d none = ap (λ t. bit (b && t)) none ∙ ap bit (and-false b)

no_starts : (c : ℕ) (es : List Event) → All Quiet es → starts_of c es ≡ 0
no_starts c [] quiet = refl
no_starts c (e ∷ es) quiet =
    let here = bit_none (nat_eq e.change c) (is_start e.what) (All-head Quiet e es quiet).0 in
    let rest = no_starts c es (All-tail Quiet e es quiet) in starts-cons c e es ∙ omega arith

over_with_none : (work : Work) (e : Event) → Quiet e → is_over_with work.script e ≡ false
over_with_none work e quiet =
    let warned = only_warns (outcome_of work.script e.change e.step) in
    ap (λ b. b || (is_warning e.what && warned)) quiet.1 ∙ ap (λ b. b && warned) quiet.2

no_ends : (work : Work) (c : ℕ) (es : List Event) → All Quiet es → ends_of work c es ≡ 0
no_ends work c [] quiet = refl
no_ends work c (e ∷ es) quiet =
    let here = bit_none (nat_eq e.change c) (is_over_with work.script e) (over_with_none work e (All-head Quiet e es quiet)) in
    let rest = no_ends work c es (All-tail Quiet e es quiet) in ends-cons work c e es ∙ omega arith

quiet_balanced : (work : Work) (c : ℕ) (es : List Event) → All Quiet es → Balanced work c es
quiet_balanced work c es quiet = no_starts c es quiet ∙ sym (no_ends work c es quiet)

balanced_append : (work : Work) (c : ℕ) (es fs : List Event) → Balanced work c es → Balanced work c fs → Balanced work c (es ++ fs)
balanced_append work c es fs first second = let a = starts-append c es fs in let b = ends-append work c es fs in omega arith

-- ---- within a step

quiet_hook : (w at : ℕ) (s : Step) (phase : Phase) (located : Option ℕ) → All Quiet (option_to_list (option_map (λ hook. event w s at (Halted phase hook)) located))
quiet_hook w at s phase None = All-nil Quiet
quiet_hook w at s phase (Some hook) = All-cons Quiet (event w s at (Halted phase hook)) [] (refl, refl, refl) (All-nil Quiet)

quiet_between : (w at : ℕ) (s : Step) → All Quiet (map (λ (p : ℕ × What). event w s (at + p.0) p.1) (between s))
quiet_between w at s =
    All-map Quiet (λ (p : ℕ × What). event w s (at + p.0) p.1) (between s)
    (all_along (λ p. IsQuiet p.1) (seconds_of s) 0 0 s.seconds_before s.ran
    (λ t. (refl, refl, refl)) (λ i p since. (refl, refl, refl)) (λ i p j since. (refl, refl, refl)) (λ i p since. quiet_end i p))
  where
    quiet_end : (i : ℕ) (p : Provisioner) → IsQuiet (provision_end i p)
    quiet_end i p = elim (has_failed p) as (λ b. IsQuiet (cond b (ProvisionErrored i) (ProvisionComplete i))) [ true ↦ (refl, refl, refl) | false ↦ (refl, refl, refl) ]

-- the step only warns exactly where its outcome does
abbrev IsConsistent : Work → Step → Type 0
IsConsistent work s = only_warns (outcome_of work.script s.change s.number) ≡ (s.only_warns && not s.fails)

-- the end alone counts, or the warning of a step that only warns
endings_balance : (work : Work) (c w at : ℕ) (s : Step) (fails only warns : Bool) → only_warns (outcome_of work.script s.change s.number) ≡ (only && not fails)
    → starts_of c (event w s 0 Start ∷ []) + starts_of c (map (λ what. event w s at what) (cond (emits_end fails only) (end_of fails (seconds_of s) ∷ notes fails warns) (WarnNote ∷ [])))
    ≡ ends_of work c (event w s 0 Start ∷ []) + ends_of work c (map (λ what. event w s at what) (cond (emits_end fails only) (end_of fails (seconds_of s) ∷ notes fails warns) (WarnNote ∷ [])))
endings_balance work c w at s true only warns stated = elim (nat_eq s.change c) as (λ b. 0 + bit (b && true) + (0 + bit (b && false) + bit (b && false)) ≡ 0 + bit (b && false) + (0 + bit (b && true) + bit (b && false))) [ true ↦ refl | false ↦ refl ]
endings_balance work c w at s false false true stated =
    subst (λ x. 0 + bit (nat_eq s.change c && true) + (0 + bit (nat_eq s.change c && false) + bit (nat_eq s.change c && false)) ≡ 0 + bit (nat_eq s.change c && false) + (0 + bit (nat_eq s.change c && true) + bit (nat_eq s.change c && x))) (sym stated)
    (elim (nat_eq s.change c) as (λ b. 0 + bit (b && true) + (0 + bit (b && false) + bit (b && false)) ≡ 0 + bit (b && false) + (0 + bit (b && true) + bit (b && false))) [ true ↦ refl | false ↦ refl ])
endings_balance work c w at s false false false stated = elim (nat_eq s.change c) as (λ b. 0 + bit (b && true) + (0 + bit (b && false)) ≡ 0 + bit (b && false) + (0 + bit (b && true))) [ true ↦ refl | false ↦ refl ]
endings_balance work c w at s false true warns stated =
    subst (λ x. 0 + bit (nat_eq s.change c && true) + (0 + bit (nat_eq s.change c && false)) ≡ 0 + bit (nat_eq s.change c && false) + (0 + bit (nat_eq s.change c && x))) (sym stated)
    (elim (nat_eq s.change c) as (λ b. 0 + bit (b && true) + (0 + bit (b && false)) ≡ 0 + bit (b && false) + (0 + bit (b && true))) [ true ↦ refl | false ↦ refl ])

started_balanced : (work : Work) (c w at : ℕ) (s : Step) → IsConsistent work s → Balanced work c (start_events w s at)
started_balanced work c w at s stated =
    let first = event w s at Start in
    let emitted = map (λ (p : ℕ × What). event w s (at + p.0) p.1) (between s) in
    let ends = map (λ what. event w s (at + seconds_of s) what) (endings s) in
    let halt = halts w s (phase_after s.fails) (at + seconds_of s) in
    let quiet = quiet_balanced work c emitted (quiet_between w at s) in
    let after = quiet_balanced work c halt (quiet_hook w (at + seconds_of s) s (phase_after s.fails) (s.halts (phase_after s.fails))) in
    let whole = endings_balance work c w (at + seconds_of s) s s.fails s.only_warns s.warns stated in
    let a = starts-cons c first (emitted ++ ends ++ halt) in let b = ends-cons work c first (emitted ++ ends ++ halt) in
    let d = starts-append c (emitted ++ ends) halt in let e = ends-append work c (emitted ++ ends) halt in
    let f = starts-append c emitted ends in let g = ends-append work c emitted ends in
    let alone : starts_of c (event w s 0 Start ∷ []) ≡ bit (nat_eq s.change c && true) = starts-cons c (event w s 0 Start) [] ∙ omega arith in
    let nothing : ends_of work c (event w s 0 Start ∷ []) ≡ bit (nat_eq s.change c && false) = ends-cons work c (event w s 0 Start) [] ∙ omega arith in
    omega arith

step_balanced : (work : Work) (c w at : ℕ) (s : Step) → IsConsistent work s → Balanced work c (step_events w s at)
step_balanced work c w at s stated = with_halt (s.halts Pre)
  where
    with_halt : (located : Option ℕ) → Balanced work c (cond (is_some located) (option_to_list (option_map (λ hook. event w s at (Halted Pre hook)) located)) (start_events w s at))
    with_halt None = started_balanced work c w at s stated
    with_halt (Some hook) = quiet_balanced work c (event w s at (Halted Pre hook) ∷ []) (quiet_hook w at s Pre (Some hook))

abbrev AreConsistent : Work → List Step → Type 0
AreConsistent work [] = Unit {0}
AreConsistent work (s ∷ steps) = IsConsistent work s × AreConsistent work steps

steps_stated : (work : Work) (c n : ℕ) (kinds : List StepKind) → AreConsistent work (map (λ p. step_of work c p.0 p.1) (enumerate_from n kinds))
steps_stated work c n [] = tt
steps_stated work c n (kind ∷ kinds) = (refl, steps_stated work c (n + 1) kinds)

begun_stated : (work : Work) (steps : List Step) → AreConsistent work steps → AreConsistent work (begun steps)
begun_stated work [] stated = tt
begun_stated work (s ∷ steps) stated = (stated.0, elim (goes_on s) as (λ b. AreConsistent work (cond b (begun steps) [])) [ true ↦ begun_stated work steps stated.1 | false ↦ tt ])

steps_balanced : (work : Work) (c w at : ℕ) (steps : List Step) → AreConsistent work steps → Balanced work c (in_turn (step_events w) step_time steps at)
steps_balanced work c w at [] stated = refl
steps_balanced work c w at (s ∷ steps) stated =
    balanced_append work c (step_events w s at) (in_turn (step_events w) step_time steps (at + step_time s))
    (step_balanced work c w at s stated.0) (steps_balanced work c w (at + step_time s) steps stated.1)

change_balanced : (work : Work) (d w at c : ℕ) → Balanced work d (change_events work w c at)
change_balanced work d w at c = steps_balanced work d w at (begun (steps_of work c)) (begun_stated work (steps_of work c) (steps_stated work c 0 (kinds_applied work.plan work.script c)))

-- ---- within a lane

abbrev pub Names : (c : ℕ) → Event → Type 0
Names c e = e.change ≡ c

others_closed : (c d : ℕ) (es : List Event) → All (Names c) es → d ≢ c → starts_of d es ≡ 0
others_closed c d [] names other = refl
others_closed c d (e ∷ es) names other =
    let is : e.change ≡ c = All-head (Names c) e es names in
    let no : nat_eq e.change d ≡ false = ne_eqb e.change d (λ same. other (sym same ∙ is)) in
    let here : bit (nat_eq e.change d && is_start e.what) ≡ 0 = ap (λ b. bit (b && is_start e.what)) no in
    let rest = others_closed c d es (All-tail (Names c) e es names) other in
    starts-cons d e es ∙ omega arith

open_of_one : (work : Work) (c m : ℕ) (es : List Event) → All (Names c) es → sum_by (λ d. bit (is_open_after work es d)) (range_with_len 0 m) ≤ 1
open_of_one work c m es names =
    one_counts (λ d. bit (is_open_after work es d)) c 0 m (λ d. bit_le (is_open_after work es d))
    (λ d other. let none = others_closed c d es names other in bit_off (ends_of work d es) (starts_of d es) (omega arith))

-- after a change that is over
open_after_it : (work : Work) (m : ℕ) (es fs : List Event) → ((d : ℕ) → Balanced work d es)
    → sum_by (λ d. bit (is_open_after work (es ++ fs) d)) (range_with_len 0 m) ≤ sum_by (λ d. bit (is_open_after work fs d)) (range_with_len 0 m)
open_after_it work m es fs over = sum_by-le-sum_by (λ d. bit (is_open_after work (es ++ fs) d)) (λ d. bit (is_open_after work fs d)) (range_with_len 0 m) (λ d.
    let same = over d in let starts = starts-append d es fs in let ends = ends-append work d es fs in
    let one = bit_le (is_open_after work (es ++ fs) d) in
    ⊎_elim
    (λ (lt : ends_of work d fs < starts_of d fs). let on = bit_on (ends_of work d fs) (starts_of d fs) lt in omega arith)
    (λ (le : starts_of d fs ≤ ends_of work d fs). let off = bit_off (ends_of work d (es ++ fs)) (starts_of d (es ++ fs)) (omega arith) in omega arith)
    (cases_lt (ends_of work d fs) (starts_of d fs)))

pub change_names : (work : Work) (w c at : ℕ) → All (Names c) (change_events work w c at)
change_names work w c at = All-weaker (IsOfChange work c at) (Names c) (λ e h. h.0) (change_events work w c at) (change_on_time work w c at)

none_open : (work : Work) (m : ℕ) → sum_by (λ d. bit (is_open_after work [] d)) (range_with_len 0 m) ≤ 1
none_open work m = let none = sum_none (λ d. bit (is_open_after work [] d)) (range_with_len 0 m) (λ d. refl) in omega arith

take_none : (k : ℕ) → take {A = Event} k [] ≡ []
take_none zero = refl
take_none (suc k) = refl

open_in_lane : (work : Work) (w m k at : ℕ) (changes : List ℕ)
    → sum_by (λ d. bit (is_open_after work (take k (in_turn (change_events work w) (span_of work) changes at)) d)) (range_with_len 0 m) ≤ 1
open_in_lane work w m k at [] = subst (λ es. sum_by (λ d. bit (is_open_after work es d)) (range_with_len 0 m) ≤ 1) (sym (take_none k)) (none_open work m)
open_in_lane work w m k at (c ∷ changes) =
    let first = change_events work w c at in
    let later = in_turn (change_events work w) (span_of work) changes (at + span_of work c) in
    ⊎_elim
    (λ (lt : length first < k).
    let j = k - length first in
    let count : length first + j ≡ k = omega arith in
    let cut : take k (first ++ later) ≡ first ++ take j later = ap (λ n. take n (first ++ later)) (sym count) ∙ take-append-add first later j in
    let less = open_after_it work m first (take j later) (λ d. change_balanced work d w at c) in
    let rest = open_in_lane work w m j (at + span_of work c) changes in
    subst (λ es. sum_by (λ d. bit (is_open_after work es d)) (range_with_len 0 m) ≤ 1) (sym cut) (omega arith))
    (λ (le : k ≤ length first).
    subst (λ es. sum_by (λ d. bit (is_open_after work es d)) (range_with_len 0 m) ≤ 1) (sym (take-append-le k first later le))
    (open_of_one work c m (take k first) (All-take (Names c) k first (change_names work w c at))))
    (cases_lt (length first) k)

-- ---- in all lanes

all_range : (P : ℕ → Type 0) (a n : ℕ) → ((w : ℕ) → w < a + n → P w) → All P (range_with_len a n)
all_range P a zero h = All-nil P
all_range P a (suc n) h = All-cons P a (range_with_len (a + 1) n) (h a (omega arith)) (all_range P (a + 1) n (λ w lt. h w (omega arith)))

-- a change that is open in a list is open in the part of a lane
in_some_lane : (work : Work) (n : ℕ) (front : List Event) (cs : List ℕ) → All (λ e. e.worker < n) front
    → sum_by (λ c. bit (is_open_after work front c)) cs ≤ sum_by (λ l. sum_by (λ c. bit (is_open_after work l c)) cs) (lists_of n (λ w. of_worker w front))
in_some_lane work n front [] named = omega arith
in_some_lane work n front (c ∷ cs) named =
    let parts : List (List Event) = lists_of n (λ w. of_worker w front) in
    let emitted : IsInterleaving n (λ w. of_worker w front) front = record { named = named; parts = λ w lt. refl } in
    let starts : starts_of c front ≡ sum_by (starts_of c) parts = summed (λ (e : Event). bit (nat_eq e.change c && is_start e.what)) n (λ w. of_worker w front) front emitted in
    let ends : ends_of work c front ≡ sum_by (ends_of work c) parts = summed (λ (e : Event). bit (nat_eq e.change c && is_over_with work.script e)) n (λ w. of_worker w front) front emitted in
    let some : bit (nat_lt (sum_by (ends_of work c) parts) (sum_by (starts_of c) parts)) ≤ sum_by (λ l. bit (is_open_after work l c)) parts = some_less (ends_of work c) (starts_of c) parts in
    let same : bit (is_open_after work front c) ≡ bit (nat_lt (sum_by (ends_of work c) parts) (sum_by (starts_of c) parts)) = ap (λ n. bit (nat_lt n (starts_of c front))) ends ∙ ap (λ n. bit (nat_lt (sum_by (ends_of work c) parts) n)) starts in
    let rest = in_some_lane work n front cs named in
    let mine = sum_by-cons (λ c. bit (is_open_after work front c)) c cs in
    let both = sum_plus (λ l. sum_by (λ c. bit (is_open_after work l c)) (c ∷ cs)) (λ l. bit (is_open_after work l c)) (λ l. sum_by (λ c. bit (is_open_after work l c)) cs) parts (λ l. sum_by-cons (λ c. bit (is_open_after work l c)) c cs) in
    omega arith

front_named : (n : ℕ) (front rest : List Event) → All (λ e. e.worker < n) (front ++ rest) → All (λ e. e.worker < n) front
front_named n front rest named = subst (All (λ (e : Event). e.worker < n)) (take-append_seam front rest) (All-take (λ (e : Event). e.worker < n) (length front) (front ++ rest) named)

pub few_open : (work : Work) (n : ℕ) (front rest : List Event) → IsTimeLine work n (front ++ rest) → open_after work front ≤ n
few_open work n front rest line =
    let m = length work.plan.changes in
    let cs = range_with_len 0 m in
    let parts : List (List Event) = lists_of n (λ w. of_worker w front) in
    let some = in_some_lane work n front cs (front_named n front rest line.interleaved.named) in
    let one : All (λ l. sum_by (λ c. bit (is_open_after work l c)) cs ≤ 1) parts =
    All-map (λ l. sum_by (λ c. bit (is_open_after work l c)) cs ≤ 1) (λ w. of_worker w front) (range_with_len 0 n)
    (all_range (λ w. sum_by (λ c. bit (is_open_after work (of_worker w front) c)) cs ≤ 1) 0 n (λ w lt.
    let mine = of_worker w front in
    let whole : mine ++ of_worker w rest ≡ lane_events work n w = sym (of_worker-append w front rest) ∙ line.interleaved.parts w (omega arith) in
    let cut : take (length mine) (lane_events work n w) ≡ mine = ap (take (length mine)) (sym whole) ∙ take-append_seam mine (of_worker w rest) in
    subst (λ es. sum_by (λ c. bit (is_open_after work es c)) cs ≤ 1) cut (open_in_lane work w m (length mine) 0 (get_or (lanes work n) w [])))) in
    let all = sum_by-le (λ l. sum_by (λ c. bit (is_open_after work l c)) cs) 1 parts one in
    let count : length parts ≡ length (range_with_len 0 n) = length-map (range_with_len 0 n) (λ w. of_worker w front) in
    let size = length-range_with_len 0 n in
    omega arith
