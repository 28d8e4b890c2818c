-- Lists of what falls to each worker are a partition.
use Rattle.std.proofs.Common.{◌≡◌, ◌≢◌, ℕ, zero, suc, ◌+◌, ◌<◌, ◌≤◌, List, [], ◌∷◌, All, length, map, ◌==◌, cond, sym, refl, ap, ◌∙◌, ⊎_elim, lt_of_not-le, arith, eq-eqb, ne_eqb, lt-ltb, le-ltb, if◌then◌else◌}
use Rattle.std.proofs.lemmas.Bool.{cases_lt}
use Rattle.std.proofs.lemmas.Bool.Decides.{eqb_tells}
use Rattle.std.proofs.lemmas.List.Elements.{All-cons, All-nil}
use Rattle.std.proofs.lemmas.List.FromFn.{length-range_with_len}
use Rattle.std.proofs.lemmas.List.Sums.{sum_by-cons}
use Rattle.std.specs.List.{range_with_len}
use Rattle.std.specs.List.Sorted.{IsStrictlyIncreasing}
use Rattle.apply_events.specs.Partition.{count_of, numbers_of, places, IsPartition, NamesEachWorkerOnce}
use Rattle.apply_events.proofs.Numbers.{none_of, numbers_rise, one_of}

-- what falls to each of those that are named
abbrev pub lists : (ℕ → ℕ) → ℕ → List ℕ → List (List ℕ)
lists who m named = map (λ w. numbers_of who w m) named

length_lists : (who : ℕ → ℕ) (m : ℕ) (named : List ℕ) → length (lists who m named) ≡ length named
length_lists who m [] = refl
length_lists who m (w ∷ named) = omega (arith, length_lists who m named)

lists_rise : (who : ℕ → ℕ) (m : ℕ) (named : List ℕ) → All IsStrictlyIncreasing (lists who m named)
lists_rise who m [] = All-nil IsStrictlyIncreasing
lists_rise who m (w ∷ named) = All-cons IsStrictlyIncreasing (numbers_of who w m) (lists who m named) (numbers_rise who w m) (lists_rise who m named)

pub count_first : (x y : ℕ) (ys : List ℕ) → y ≡ x → count_of x (y ∷ ys) ≡ 1 + count_of x ys
count_first x y ys e = sum_by-cons (λ z. cond (z == x) 1 0) y ys ∙ ap (λ b. cond b 1 0 + count_of x ys) (eq-eqb y x e)

pub count_later : (x y : ℕ) (ys : List ℕ) → y ≢ x → count_of x (y ∷ ys) ≡ count_of x ys
count_later x y ys n = sum_by-cons (λ z. cond (z == x) 1 0) y ys ∙ ap (λ b. cond b 1 0 + count_of x ys) (ne_eqb y x n) ∙ omega arith

-- a number below m stands as often as the one to whom it falls is named
places_of : (who : ℕ → ℕ) (m x : ℕ) (named : List ℕ) → x < m → places x (lists who m named) ≡ count_of (who x) named
places_of who m x [] lt = refl
places_of who m x (w ∷ named) lt =
    let rest = places_of who m x named lt in
    let both : places x (lists who m (w ∷ named)) ≡ count_of x (numbers_of who w m) + places x (lists who m named) = sum_by-cons (count_of x) (numbers_of who w m) (lists who m named) in
    ⊎_elim
    (λ (c : _ × (w ≡ who x)).
    let here = one_of who w x m lt (sym c.1) in let first = count_first (who x) w named c.1 in omega arith)
    (λ (c : _ × (w ≢ who x)).
    let ne = c.1 in let here = none_of who w x m (λ _ e. ne (sym e)) in let later = count_later (who x) w named ne in omega arith)
    (eqb_tells w (who x))

no_places : (who : ℕ → ℕ) (m x : ℕ) (named : List ℕ) → m ≤ x → places x (lists who m named) ≡ 0
no_places who m x [] le = refl
no_places who m x (w ∷ named) le =
    let rest = no_places who m x named le in
    let both : places x (lists who m (w ∷ named)) ≡ count_of x (numbers_of who w m) + places x (lists who m named) = sum_by-cons (count_of x) (numbers_of who w m) (lists who m named) in
    let here = none_of who w x m (λ lt. absurd (omega arith)) in omega arith

pub dealt_out : (who : ℕ → ℕ) (workers m : ℕ) (named : List ℕ) → ((k : ℕ) → k < m → who k < workers) → NamesEachWorkerOnce workers named → IsPartition workers m (lists who m named)
dealt_out who workers m named falls each = record {
  count = length_lists who m named ∙ each.count;
  rising = lists_rise who m named;
  once = λ x. ⊎_elim
      (λ (lt : x < m). places_of who m x named lt ∙ each.once (who x) (falls x lt) ∙ sym (ap (λ b. if b then 1 else 0) (lt-ltb x m lt)))
      (λ (le : m ≤ x). no_places who m x named le ∙ sym (ap (λ b. if b then 1 else 0) (le-ltb x m le)))
      (cases_lt x m);
}

none_before : (a n w : ℕ) → w < a → count_of w (range_with_len a n) ≡ 0
none_before a zero w lt = refl
none_before a (suc n) w lt = count_later w a (range_with_len (a + 1) n) (λ e. omega arith) ∙ none_before (a + 1) n w (omega arith)

once_in : (a n w : ℕ) → a ≤ w → w < a + n → count_of w (range_with_len a n) ≡ 1
once_in a zero w low high = absurd (omega arith)
once_in a (suc n) w low high = ⊎_elim
    (λ (c : _ × (a ≡ w)).
    let e = c.1 in let none = none_before (a + 1) n w (omega arith) in count_first w a (range_with_len (a + 1) n) e ∙ ap (λ k. 1 + k) none)
    (λ (c : _ × (a ≢ w)).
    let ne = c.1 in
    let above : a < w = lt_of_not-le (λ le. ne (omega arith)) in
    count_later w a (range_with_len (a + 1) n) ne ∙ once_in (a + 1) n w (omega arith) (omega arith))
    (eqb_tells a w)

-- the workers in their order
pub all_named : (workers : ℕ) → NamesEachWorkerOnce workers (range_with_len 0 workers)
all_named workers = record { count = length-range_with_len 0 workers; once = λ w lt. once_in 0 workers w (omega arith) (omega arith) }
