-- How many events a run has, whoever applies its changes.
use Rattle.std.proofs.Common.{◌≡◌, ℕ, zero, suc, ◌+◌, ◌*◌, ◌<◌, ◌≤◌, ◌==◌, List, [], ◌∷◌, All, cond, get_or, length, length-append, map, sum_by, sym, refl, ap, ◌∙◌, ⊎_elim, arith, lt-ltb, lt_of_not-le, nat_lt, ne_eqb, ◌≢◌, if◌then◌else◌}
use Rattle.std.proofs.lemmas.Bool.Decides.{eqb_tells}
use Rattle.std.specs.List.{range_with_len}
use Rattle.std.proofs.lemmas.List.Elements.{All-from_get_or, All-head, All-tail}
use Rattle.std.proofs.lemmas.List.Sums.{sum_by-cons}
use Rattle.apply_model.specs.Script.OutcomeMap.{stated_outcome}
use Rattle.apply_events.specs.declared.event.Event.{Event}
use Rattle.apply_events.specs.ChangeEvents.{change_events, in_turn, span_of}
use Rattle.apply_events.specs.Interleaving.{IsInterleaving, lists_of}
use Rattle.apply_events.specs.Laws.{IsWithinLimits}
use Rattle.apply_events.specs.Partition.{IsPartition, count_of, places}
use Rattle.apply_events.specs.Step.{Work}
use Rattle.apply_events.specs.WorkerEvents.{worker_events}
use Rattle.apply_events.proofs.Interleaved.{summed_length}
use Rattle.apply_events.proofs.Parts.{numbers_below_limit}
use Rattle.apply_events.proofs.TimeLines.Few.{bounded, few_events}
use Rattle.laws_run.proofs.TimeLines.Open.{sum_plus}

-- ---- the lists of a partition have as many numbers as there are

none_after : (y low m : ℕ) → y < low → sum_by (λ x. cond (y == x) 1 0) (range_with_len low m) ≡ 0
none_after y low zero lt = refl
none_after y low (suc m) lt =
    let here : cond {A = ℕ} (y == low) 1 0 ≡ 0 = ap (λ b. cond b 1 0) (ne_eqb y low (λ is. omega arith)) in
    let rest = none_after y (low + 1) m (omega arith) in
    sum_by-cons (λ x. cond (y == x) 1 0) low (range_with_len (low + 1) m) ∙ omega arith

one_at : (y low m : ℕ) → low ≤ y → y < low + m → sum_by (λ x. cond (y == x) 1 0) (range_with_len low m) ≡ 1
one_at y low zero above below = absurd (omega arith)
one_at y low (suc m) above below =
    let both = sum_by-cons (λ x. cond (y == x) 1 0) low (range_with_len (low + 1) m) in
    ⊎_elim
    (λ (d : _ × (y ≡ low)).
    let here : cond {A = ℕ} (y == low) 1 0 ≡ 1 = ap (λ b. cond b 1 0) d.0 in
    let is = d.1 in let rest = none_after y (low + 1) m (omega arith) in omega arith)
    (λ (d : _ × (y ≢ low)).
    let here : cond {A = ℕ} (y == low) 1 0 ≡ 0 = ap (λ b. cond b 1 0) d.0 in
    let ne = d.1 in let higher : low < y = lt_of_not-le (λ le. ne (omega arith)) in
    let rest = one_at y (low + 1) m (omega arith) (omega arith) in omega arith)
    (eqb_tells y low)

-- a list of numbers below a limit is as long as they stand in it
long_as_counted : (m : ℕ) (xs : List ℕ) → All (λ x. x < m) xs → length xs ≡ sum_by (λ x. count_of x xs) (range_with_len 0 m)
long_as_counted m [] below = sym (sum_zeros (range_with_len 0 m))
  where
    sum_zeros : (cs : List ℕ) → sum_by (λ x. count_of x []) cs ≡ 0
    sum_zeros [] = refl
    sum_zeros (c ∷ cs) = let rest = sum_zeros cs in let both = sum_by-cons (λ x. count_of x []) c cs in let none : count_of c [] ≡ 0 = refl in omega arith
long_as_counted m (y ∷ ys) below =
    let here : y < m = All-head (λ x. x < m) y ys below in
    let rest = long_as_counted m ys (All-tail (λ x. x < m) y ys below) in
    let both = sum_plus (λ x. count_of x (y ∷ ys)) (λ x. cond (y == x) 1 0) (λ x. count_of x ys) (range_with_len 0 m) (λ x. sum_by-cons (λ z. cond (z == x) 1 0) y ys) in
    let one = one_at y 0 m (omega arith) (omega arith) in
    omega arith

-- so many numbers stand in some lists in all
in_all_lists : (m : ℕ) (lists : List (List ℕ)) → All (λ l. All (λ x. x < m) l) lists → sum_by length lists ≡ sum_by (λ x. places x lists) (range_with_len 0 m)
in_all_lists m [] below = sym (sum_zeros (range_with_len 0 m))
  where
    sum_zeros : (cs : List ℕ) → sum_by (λ x. places x []) cs ≡ 0
    sum_zeros [] = refl
    sum_zeros (c ∷ cs) = let rest = sum_zeros cs in let both = sum_by-cons (λ x. places x []) c cs in let none : places c [] ≡ 0 = refl in omega arith
in_all_lists m (l ∷ lists) below =
    let here = long_as_counted m l (All-head (λ (l : List ℕ). All (λ x. x < m) l) l lists below) in
    let rest = in_all_lists m lists (All-tail (λ (l : List ℕ). All (λ x. x < m) l) l lists below) in
    let both = sum_plus (λ x. places x (l ∷ lists)) (λ x. count_of x l) (λ x. places x lists) (range_with_len 0 m) (λ x. sum_by-cons (count_of x) l lists) in
    let all = sum_by-cons length l lists in
    omega arith

each_once : (low k m : ℕ) (lists : List (List ℕ)) → low + k ≤ m → ((x : ℕ) → places x lists ≡ (if nat_lt x m then 1 else 0)) → sum_by (λ x. places x lists) (range_with_len low k) ≡ k
each_once low zero m lists within once = refl
each_once low (suc k) m lists within once =
    let here : places low lists ≡ 1 = once low ∙ ap (λ b. if b then 1 else 0) (lt-ltb low m (omega arith)) in
    let rest = each_once (low + 1) k m lists (omega arith) once in
    let both = sum_by-cons (λ x. places x lists) low (range_with_len (low + 1) k) in
    omega arith

as_many : (workers m : ℕ) (lists : List (List ℕ)) → IsPartition workers m lists → sum_by length lists ≡ m
as_many workers m lists parts =
    let count : length lists ≡ workers = parts.count in
    let below : All (λ l. All (λ x. x < m) l) lists = All-from_get_or (λ l. All (λ x. x < m) l) lists [] (λ w lt. numbers_below_limit workers m w lists parts (omega arith)) in
    in_all_lists m lists below ∙ each_once 0 m m lists (omega arith) parts.once

-- ---- the events of all of them

few_in_turn : (work : Work) (worker : ℕ) (changes : List ℕ) (at : ℕ) → IsWithinLimits work → length (in_turn (change_events work worker) (span_of work) changes at) ≤ 18918 * length changes
few_in_turn work worker [] at limits = omega arith
few_in_turn work worker (c ∷ changes) at limits =
    let here = few_events work worker c at (limits.few_steps c) (bounded (stated_outcome work.script c 0) (limits.short_steps c 0)) (bounded (stated_outcome work.script c 1) (limits.short_steps c 1)) in
    let rest = few_in_turn work worker changes (at + span_of work c) limits in
    let both = length-append (change_events work worker c at) (in_turn (change_events work worker) (span_of work) changes (at + span_of work c)) in
    omega arith

few_in_lists : (work : Work) (mine : ℕ → List ℕ) (low : ℕ) (lists : List (List ℕ)) → IsWithinLimits work → ((k : ℕ) → k < length lists → mine (low + k) ≡ get_or lists k [])
    → sum_by length (map (λ w. worker_events work w (mine w)) (range_with_len low (length lists))) ≤ 18918 * sum_by length lists
few_in_lists work mine low [] limits are = omega arith
few_in_lists work mine low (l ∷ lists) limits are =
    let none : low ≡ low + 0 = omega arith in
    let first : mine low ≡ l = ap mine none ∙ are 0 (omega arith) in
    let same : length (worker_events work low (mine low)) ≡ length (worker_events work low l) = ap (λ x. length (worker_events work low x)) first in
    let here = few_in_turn work low l 0 limits in
    let rest = few_in_lists work mine (low + 1) lists limits (λ k lt. let next : low + 1 + k ≡ low + suc k = omega arith in ap mine next ∙ are (suc k) (omega arith)) in
    let both = sum_by-cons length (worker_events work low (mine low)) (map (λ w. worker_events work w (mine w)) (range_with_len (low + 1) (length lists))) in
    let all = sum_by-cons length l lists in
    omega arith

pub few_of_run : (work : Work) (workers : ℕ) (lists : List (List ℕ)) (events : List Event) → IsWithinLimits work → IsPartition workers (length work.plan.changes) lists
    → IsInterleaving workers (λ worker. worker_events work worker (get_or lists worker [])) events → length events ≤ 189180000
few_of_run work workers lists events limits parts interleaved =
    let count : length lists ≡ workers = parts.count in
    let whole = summed_length workers (λ worker. worker_events work worker (get_or lists worker [])) events interleaved in
    let few = few_in_lists work (λ worker. get_or lists worker []) 0 lists limits (λ k lt. let is : 0 + k ≡ k = omega arith in ap (λ w. get_or lists w []) is) in
    let same : sum_by length (map (λ w. worker_events work w (get_or lists w [])) (range_with_len 0 (length lists))) ≡ sum_by length (lists_of workers (λ worker. worker_events work worker (get_or lists worker []))) =
    ap (λ n. sum_by length (map (λ w. worker_events work w (get_or lists w [])) (range_with_len 0 n))) count in
    let many = as_many workers (length work.plan.changes) lists parts in
    let changes : length work.plan.changes ≤ 10000 = limits.few_changes in
    omega arith
