-- The lane that is free first, and when lanes end.
use Rattle.std.proofs.Common.{◌≡◌, ℕ, zero, suc, ◌+◌, ◌<◌, ◌≤◌, Bool, true, false, List, [], ◌∷◌, ◌++◌, All, cond, get_or, length, map, replicate, set, sum_by, sym, refl, ap, ◌∙◌, subst, ⊎_elim, arith, leb, ◌&&◌}
use Rattle.std.proofs.lemmas.Bool.{and_parts, cases_Bool, cases_lt, le-leb, leb-true, true≢false}
use Rattle.std.proofs.lemmas.List.{length-replicate, length-set}
use Rattle.std.proofs.lemmas.List.Elements.{All-cons, All-nil, All-weaker}
use Rattle.std.proofs.lemmas.List.Sums.{get_or-le-sum_by, sum_by-cons, sum_by-set}
use Rattle.std.specs.List.{list_all, range_with_len}
use Rattle.apply_events.specs.declared.event.Event.{Event}
use Rattle.apply_events.specs.ChangeEvents.{change_events, in_turn, span_of}
use Rattle.apply_events.specs.Step.{Work}
use Rattle.apply_events.specs.Lanes.Dealing.{before, dealt, first_least, occupied, lanes}
use Rattle.apply_events.specs.Lanes.Runs.{Runs}
use Rattle.apply_events.specs.Lanes.TimeLine.{IsTimeLine, lane_events}
use Rattle.apply_events.proofs.TimeLines.Changes.{change_runs, runs_lower}
use Rattle.apply_events.proofs.TimeLines.Dealt.{length_dealt}
use Rattle.apply_events.proofs.TimeLines.Merge.{all_parts}
use Rattle.apply_events.proofs.TimeLines.Order.{nobody_else}
use Rattle.laws_run.proofs.TimeLines.Partition.{first_least_lt}

-- ---- the first least

all_at : (x : ℕ) (xs : List ℕ) (k : ℕ) → list_all (leb x) xs ≡ true → k < length xs → x ≤ get_or xs k 0
all_at x [] k all lt = absurd (omega arith)
all_at x (y ∷ ys) zero all lt = leb-true x y (and_parts (leb x y) (list_all (leb x) ys) all).0
all_at x (y ∷ ys) (suc k) all lt = all_at x ys k (and_parts (leb x y) (list_all (leb x) ys) all).1 (omega arith)

first_when : (x : ℕ) (xs : List ℕ) (b : Bool) → list_all (leb x) xs ≡ b → first_least (x ∷ xs) ≡ cond b 0 (first_least xs + 1)
first_when x xs b is = ap (λ c. cond c 0 (first_least xs + 1)) is

-- ---- sums

lane_sum : (f : ℕ → ℕ) (c lane : ℕ) (lists : List (List ℕ)) → lane < length lists → sum_by (λ l. sum_by f l) (before lane c lists) ≡ f c + sum_by (λ l. sum_by f l) lists
lane_sum f c lane lists lt =
    let l = get_or lists lane [] in
    let g : List ℕ → ℕ = (λ l. sum_by f l) in
    let sum : sum_by g (set lists lane (c ∷ l)) + g l ≡ sum_by g lists + g (c ∷ l) = sum_by-set g lists lane (c ∷ l) [] lt in
    let more : g (c ∷ l) ≡ f c + g l = sum_by-cons f c l in
    omega arith

no_sum : (f : ℕ → ℕ) (free : List ℕ) → sum_by (λ (l : List ℕ). sum_by f l) (map (λ (at : ℕ). []) free) ≡ 0
no_sum f [] = refl
no_sum f (x ∷ free) =
    let both : sum_by (λ (l : List ℕ). sum_by f l) (map (λ (at : ℕ). []) (x ∷ free)) ≡ sum_by f [] + sum_by (λ (l : List ℕ). sum_by f l) (map (λ (at : ℕ). []) free) = sum_by-cons (λ (l : List ℕ). sum_by f l) [] (map (λ (at : ℕ). []) free) in
    let none : sum_by f [] ≡ 0 = refl in let rest = no_sum f free in omega arith

pub dealt_sum : (work : Work) (f : ℕ → ℕ) (free : List ℕ) (changes : List ℕ) → 0 < length free → sum_by (λ l. sum_by f l) (dealt work free changes) ≡ sum_by f changes
dealt_sum work f free [] some = no_sum f free
dealt_sum work f free (c ∷ changes) some =
    let lane = first_least free in
    let later = dealt work (occupied work c free) changes in
    let size : length (occupied work c free) ≡ length free = length-set free lane _ in
    let count : length later ≡ length free = length_dealt work (occupied work c free) changes ∙ size in
    let inside = first_least_lt free some in
    let rest = dealt_sum work f (occupied work c free) changes (omega arith) in
    let now = lane_sum f c lane later (omega arith) in
    let both : sum_by f (c ∷ changes) ≡ f c + sum_by f changes = sum_by-cons f c changes in
    omega arith

-- ---- the end of a lane

runs_append : (w low mid high : ℕ) (xs ys : List Event) → Runs w low mid xs → Runs w mid high ys → Runs w low high (xs ++ ys)
runs_append w low mid high [] ys h rest = runs_lower w low mid high ys h rest
runs_append w low mid high (x ∷ xs) ys h rest = (h.0, h.1, runs_append w x.at mid high xs ys h.2 rest)

turn_runs : (work : Work) (w : ℕ) (changes : List ℕ) (at : ℕ) → Runs w at (at + sum_by (span_of work) changes) (in_turn (change_events work w) (span_of work) changes at)
turn_runs work w [] at = omega arith
turn_runs work w (c ∷ changes) at =
    let sums : at + span_of work c + sum_by (span_of work) changes ≡ at + sum_by (span_of work) (c ∷ changes) = (let e : sum_by (span_of work) (c ∷ changes) ≡ span_of work c + sum_by (span_of work) changes = sum_by-cons (span_of work) c changes in omega arith) in
    subst (λ n. Runs w at n (in_turn (change_events work w) (span_of work) (c ∷ changes) at)) sums
    (runs_append w at (at + span_of work c) (at + span_of work c + sum_by (span_of work) changes) (change_events work w c at) (in_turn (change_events work w) (span_of work) changes (at + span_of work c)) (change_runs work w c at) (turn_runs work w changes (at + span_of work c)))

runs_high : (w low high : ℕ) (es : List Event) → Runs w low high es → low ≤ high
runs_high w low high [] h = h
runs_high w low high (e ∷ es) h = let first = h.1 in let rest = runs_high w e.at high es h.2 in omega arith

all_by : (w low high : ℕ) (es : List Event) → Runs w low high es → All (λ e. e.at ≤ high) es
all_by w low high [] h = All-nil (λ (e : Event). e.at ≤ high)
all_by w low high (e ∷ es) h = All-cons (λ (f : Event). f.at ≤ high) e es (runs_high w e.at high es h.2) (all_by w e.at high es h.2)

pub lane_ends : (work : Work) (n w m : ℕ) → 0 < n → w < n → m ≡ sum_by (span_of work) (range_with_len 0 (length work.plan.changes)) → All (λ e. e.at ≤ m) (lane_events work n w)
lane_ends work n w m some lt is =
    let free : List ℕ = replicate n 0 in
    let size : length free ≡ n = length-replicate n 0 in
    let mine : List ℕ = get_or (lanes work n) w [] in
    let count : length (lanes work n) ≡ n = length_dealt work free (range_with_len 0 (length work.plan.changes)) ∙ size in
    let whole : sum_by (λ l. sum_by (span_of work) l) (lanes work n) ≡ sum_by (span_of work) (range_with_len 0 (length work.plan.changes)) = dealt_sum work (span_of work) free (range_with_len 0 (length work.plan.changes)) (omega arith) in
    let part : sum_by (span_of work) mine ≤ sum_by (λ l. sum_by (span_of work) l) (lanes work n) = get_or-le-sum_by (λ l. sum_by (span_of work) l) (lanes work n) w [] (omega arith) in
    All-weaker (λ (e : Event). e.at ≤ 0 + sum_by (span_of work) mine) (λ (e : Event). e.at ≤ m) (λ e le. omega arith) (lane_events work n w) (all_by w 0 (0 + sum_by (span_of work) mine) (lane_events work n w) (turn_runs work w mine 0))

pub line_ends : (work : Work) (n : ℕ) (events : List Event) → 0 < n → IsTimeLine work n events → All (λ e. e.at ≤ sum_by (span_of work) (range_with_len 0 (length work.plan.changes))) events
line_ends work n events some line =
    let m = sum_by (span_of work) (range_with_len 0 (length work.plan.changes)) in
    all_parts (λ e. e.at ≤ m) events (λ w. ⊎_elim
    (λ (lt : w < n). subst (All (λ (e : Event). e.at ≤ m)) (sym (line.interleaved.parts w lt)) (lane_ends work n w m some lt refl))
    (λ (ge : n ≤ w). subst (All (λ (e : Event). e.at ≤ m)) (sym (nobody_else n events line.interleaved.named w ge)) (All-nil (λ (e : Event). e.at ≤ m)))
    (cases_lt w n))

-- ---- the lane that is free first

some_less : (x : ℕ) (xs : List ℕ) → list_all (leb x) xs ≡ false → (k : ℕ) × (k < length xs) × (get_or xs k 0 < x)
some_less x [] some = absurd (true≢false some)
some_less x (y ∷ ys) some = ⊎_elim
    (λ (less : y < x). (0, omega arith, less))
    (λ (le : x ≤ y).
    let rest : list_all (leb x) ys ≡ false = sym (ap (λ b. b && list_all (leb x) ys) (le-leb x y le)) ∙ some in
    let located = some_less x ys rest in let inside = located.1 in
    (suc located.0, omega arith, located.2))
    (cases_lt y x)

abbrev IsLeast : List ℕ → ℕ → Type 0
IsLeast xs n = (k : ℕ) → k < length xs → (get_or xs n 0 ≤ get_or xs k 0) × (k < n → get_or xs n 0 < get_or xs k 0)

least_here : (x : ℕ) (xs : List ℕ) → list_all (leb x) xs ≡ true → IsLeast (x ∷ xs) 0
least_here x xs all zero lt = (omega arith, λ no. absurd (omega arith))
least_here x xs all (suc k) lt = (all_at x xs k all (omega arith), λ no. absurd (omega arith))

least_later : (x : ℕ) (xs : List ℕ) → list_all (leb x) xs ≡ false → IsLeast xs (first_least xs) → IsLeast (x ∷ xs) (suc (first_least xs))
least_later x xs some low zero lt =
    let located = some_less x xs some in let less = located.2 in let le = (low located.0 located.1).0 in
    (omega arith, λ _. omega arith)
least_later x xs some low (suc k) lt = let rest = low k (omega arith) in (rest.0, λ less. rest.1 (omega arith))

pub least_of : (xs : List ℕ) → IsLeast xs (first_least xs)
least_of [] = λ k lt. absurd (omega arith)
least_of (x ∷ xs) = ⊎_elim
    (λ (all : list_all (leb x) xs ≡ true). subst (IsLeast (x ∷ xs)) (sym (first_when x xs true all)) (least_here x xs all))
    (λ (some : list_all (leb x) xs ≡ false).
    let is : first_least (x ∷ xs) ≡ suc (first_least xs) = first_when x xs false some ∙ omega arith in
    subst (IsLeast (x ∷ xs)) (sym is) (least_later x xs some (least_of xs)))
    (cases_Bool (list_all (leb x) xs))
