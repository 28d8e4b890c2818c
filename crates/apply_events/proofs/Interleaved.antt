-- Sums over an interleaving are sums over the workers' lists.
use Rattle.std.proofs.Common.{◌≡◌, ◌≢◌, ℕ, zero, suc, ◌+◌, ◌<◌, ◌≤◌, Bool, List, [], ◌∷◌, All, length, map, sum_by, count_by, cond, sym, refl, ap, ◌∙◌, ⊎_elim, lt_of_not-le, arith, eq-eqb, ne_eqb}
use Rattle.std.proofs.lemmas.Bool.Decides.{eqb_tells}
use Rattle.std.proofs.lemmas.List.Elements.{All-head, All-tail}
use Rattle.std.proofs.lemmas.List.Sums.{sum_by-cons}
use Rattle.std.specs.List.{range_with_len}
use Rattle.apply_model.specs.declared.plan.step_kind.StepKind.TheVariants.{Create, Update, Delete}
use Rattle.apply_model.specs.Plan.SavedPlan.{SavedPlan}
use Rattle.apply_events.specs.declared.counts.Counts.{Counts}
use Rattle.apply_events.specs.declared.event.Event.{Event}
use Rattle.apply_events.specs.OfWorker.{of_worker}
use Rattle.apply_events.specs.Totals.{completes, is_errored, is_halted, plus, totals_of}
use Rattle.apply_events.specs.Interleaving.{lists_of, sum_of_totals, IsInterleaving}

-- the parts of n workers, the first of that number
abbrev parts : List Event → ℕ → ℕ → List (List Event)
parts es a n = map (λ w. of_worker w es) (range_with_len a n)

here : (w : ℕ) (e : Event) (es : List Event) → e.worker ≡ w → of_worker w (e ∷ es) ≡ e ∷ of_worker w es
here w e es is = ap (λ b. cond b (e ∷ of_worker w es) (of_worker w es)) (eq-eqb e.worker w is)

elsewhere : (w : ℕ) (e : Event) (es : List Event) → e.worker ≢ w → of_worker w (e ∷ es) ≡ of_worker w es
elsewhere w e es is = ap (λ b. cond b (e ∷ of_worker w es) (of_worker w es)) (ne_eqb e.worker w is)

module _ (f : Event → ℕ) where
  -- the sum over some lists
  abbrev over : List (List Event) → ℕ
  over lists = sum_by (λ list. sum_by f list) lists

  over_parts : (es : List Event) (a n : ℕ) → over (parts es a (suc n)) ≡ sum_by f (of_worker a es) + over (parts es (a + 1) n)
  over_parts es a n = sum_by-cons (λ list. sum_by f list) (of_worker a es) (parts es (a + 1) n)

  over_none : (a n : ℕ) → over (parts [] a n) ≡ 0
  over_none a zero = refl
  over_none a (suc n) = let first = over_parts [] a n in let rest = over_none (a + 1) n in omega arith

  over_later : (e : Event) (es : List Event) (a n : ℕ) → e.worker < a → over (parts (e ∷ es) a n) ≡ over (parts es a n)
  over_later e es a zero lt = refl
  over_later e es a (suc n) lt =
      let now = over_parts (e ∷ es) a n in let was = over_parts es a n in
      let same : sum_by f (of_worker a (e ∷ es)) ≡ sum_by f (of_worker a es) = ap (λ l. sum_by f l) (elsewhere a e es (λ is. omega arith)) in
      let rest = over_later e es (a + 1) n (omega arith) in omega arith

  over_more : (e : Event) (es : List Event) (a n : ℕ) → a ≤ e.worker → e.worker < a + n → over (parts (e ∷ es) a n) ≡ f e + over (parts es a n)
  over_more e es a zero low high = absurd (omega arith)
  over_more e es a (suc n) low high =
      let now = over_parts (e ∷ es) a n in let was = over_parts es a n in
      ⊎_elim
      (λ (c : _ × (e.worker ≡ a)).
      let is = c.1 in
      let more : sum_by f (of_worker a (e ∷ es)) ≡ f e + sum_by f (of_worker a es) = ap (λ l. sum_by f l) (here a e es is) ∙ sum_by-cons f e (of_worker a es) in
      let rest = over_later e es (a + 1) n (omega arith) in omega arith)
      (λ (c : _ × (e.worker ≢ a)).
      let ne = c.1 in
      let above : a < e.worker = lt_of_not-le (λ le. ne (omega arith)) in
      let same : sum_by f (of_worker a (e ∷ es)) ≡ sum_by f (of_worker a es) = ap (λ l. sum_by f l) (elsewhere a e es ne) in
      let rest = over_more e es (a + 1) n (omega arith) (omega arith) in omega arith)
      (eqb_tells e.worker a)

  over_all : (n : ℕ) (es : List Event) → All (λ e. e.worker < n) es → sum_by f es ≡ over (parts es 0 n)
  over_all n [] h = sym (over_none 0 n)
  over_all n (e ∷ es) h =
      let low : e.worker < n = All-head (λ (e : Event). e.worker < n) e es h in
      let more = over_more e es 0 n (omega arith) (omega arith) in
      let rest = over_all n es (All-tail (λ (e : Event). e.worker < n) e es h) in
      sum_by-cons f e es ∙ omega arith

parts_are : (list : ℕ → List Event) (es : List Event) (a n : ℕ) → ((w : ℕ) → a ≤ w → w < a + n → of_worker w es ≡ list w) → parts es a n ≡ map list (range_with_len a n)
parts_are list es a zero is = refl
parts_are list es a (suc n) is =
    ap (λ l. l ∷ parts es (a + 1) n) (is a (omega arith) (omega arith)) ∙ ap (λ ls. list a ∷ ls) (parts_are list es (a + 1) n (λ w low high. is w (omega arith) (omega arith)))

pub summed : (f : Event → ℕ) (workers : ℕ) (list : ℕ → List Event) (es : List Event) → IsInterleaving workers list es → sum_by f es ≡ sum_by (λ l. sum_by f l) (lists_of workers list)
summed f workers list es h = over_all f workers es h.named ∙ ap (λ ls. sum_by (λ l. sum_by f l) ls) (parts_are list es 0 workers (λ w low high. h.parts w (omega arith)))

-- ---- the length

length_is : (es : List Event) → length es ≡ sum_by (λ _. 1) es
length_is [] = refl
length_is (e ∷ es) = let rest = length_is es in sym (sum_by-cons (λ _. 1) e es ∙ omega arith)

lengths_are : (lists : List (List Event)) → sum_by length lists ≡ sum_by (λ l. sum_by (λ _. 1) l) lists
lengths_are [] = refl
lengths_are (l ∷ ls) =
    let one = length_is l in let rest = lengths_are ls in
    let first = sum_by-cons length l ls in let second = sum_by-cons (λ (m : List Event). sum_by (λ _. 1) m) l ls in omega arith

pub summed_length : (workers : ℕ) (list : ℕ → List Event) (es : List Event) → IsInterleaving workers list es → length es ≡ sum_by length (lists_of workers list)
summed_length workers list es h = length_is es ∙ summed (λ _. 1) workers list es h ∙ sym (lengths_are (lists_of workers list))

-- ---- one worker

all_of_one : (es : List Event) → All (λ e. e.worker < 1) es → of_worker 0 es ≡ es
all_of_one [] h = refl
all_of_one (e ∷ es) h =
    let low : e.worker < 1 = All-head (λ (e : Event). e.worker < 1) e es h in
    here 0 e es (omega arith) ∙ ap (λ l. e ∷ l) (all_of_one es (All-tail (λ (e : Event). e.worker < 1) e es h))

pub one_worker : (list : ℕ → List Event) (es : List Event) → IsInterleaving 1 list es → es ≡ list 0
one_worker list es h = sym (all_of_one es h.named) ∙ h.parts 0 (omega arith)

-- ---- the totals

abbrev counts : ℕ → ℕ → ℕ → ℕ → ℕ → Counts
counts a b c d e = record { added = a; changed = b; removed = c; failed = d; halted = e }

counted : (Event → Bool) → List (List Event) → ℕ
counted p lists = sum_by (λ l. count_by p l) lists

totals_are : (plan : SavedPlan) (lists : List (List Event)) → sum_of_totals plan lists ≡ counts (counted (completes plan Create) lists) (counted (completes plan Update) lists) (counted (completes plan Delete) lists) (counted (λ e. is_errored e.what) lists) (counted (λ e. is_halted e.what) lists)
unfolding counted
totals_are plan [] = refl
totals_are plan (l ∷ ls) =
    ap (λ (c : Counts). plus (totals_of plan l) c) (totals_are plan ls)
    ∙ λ i. counts
    (sym (sum_by-cons (count_by (completes plan Create)) l ls) i)
    (sym (sum_by-cons (count_by (completes plan Update)) l ls) i)
    (sym (sum_by-cons (count_by (completes plan Delete)) l ls) i)
    (sym (sum_by-cons (count_by (λ e. is_errored e.what)) l ls) i)
    (sym (sum_by-cons (count_by (λ e. is_halted e.what)) l ls) i)

pub summed_totals : (plan : SavedPlan) (workers : ℕ) (list : ℕ → List Event) (es : List Event) → IsInterleaving workers list es → totals_of plan es ≡ sum_of_totals plan (lists_of workers list)
unfolding counted
summed_totals plan workers list es h =
    let count = λ (p : Event → Bool). summed (λ e. cond (p e) 1 0) workers list es h in
    (λ i. counts (count (completes plan Create) i) (count (completes plan Update) i) (count (completes plan Delete) i) (count (λ e. is_errored e.what) i) (count (λ e. is_halted e.what) i))
    ∙ sym (totals_are plan (lists_of workers list))
