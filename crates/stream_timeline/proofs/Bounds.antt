-- Intervals end no sooner than they begin, and the lengths of all stretches together have 64 bits.
use Rattle.std.proofs.Common.{◌≡◌, ℕ, ◌+◌, ◌^◌, ◌<◌, ◌≤◌, ℤ, pos, negsuc, List, [], ◌∷◌, Bool, true, false, cond, eqb, ltb, length, get_or, suc, zero, subst, ⊎_elim, arith, All}
use Rattle.std.specs.Prelude.{int_lt, unwrap_or}
use Rattle.std.specs.Int.{int_gap, int_max}
use Rattle.std.specs.List.{AllByRecursion, sum_by}
use Rattle.std.proofs.lemmas.Bool.{cases_Bool, ltb-false}
use Rattle.std.proofs.lemmas.List.Elements.{recursion_from_All}
use Rattle.std.proofs.lemmas.List.Sums.{sum_by-cons, sum_by-le-sum_by}
use Rattle.stream_timeline.specs.declared.numbers.interval.Interval.{Interval}
use Rattle.stream_timeline.specs.declared.numbers.stretch.Stretch.{Stretch}
use Rattle.stream_timeline.specs.declared.reading.time_range.TimeRange.{TimeRange}
use Rattle.stream_timeline.specs.Intervals.{intervals_from, intervals_of, is_counted}
use Rattle.stream_timeline.specs.Numbers.{busy_in, stretch_length}
use Rattle.stream_timeline.specs.Steps.{StepRead}
use Rattle.stream_timeline.specs.Stretches.{AreInOrder, IsOrdered, IsSmallInterval, cuts, put, stretch_of, stretches_between, stretches_of}
use Rattle.stream_timeline.proofs.Cuts.{Ascends, cuts_ascend}
use Rattle.stream_timeline.proofs.SweptSoFar.{all_from}

-- ---- an end is no sooner than its begin

pub gap_rises : (f a x : ℤ) → int_lt x a ≡ false → int_gap f a ≤ int_gap f x
gap_rises (pos k) (pos m) (pos n) e = let le : m ≤ n = ltb-false n m e in omega arith
gap_rises (negsuc k) (pos m) (pos n) e = let le : m ≤ n = ltb-false n m e in omega arith
gap_rises f (pos m) (negsuc n) e = absurd cc
gap_rises (pos k) (negsuc m) (pos n) e = omega arith
gap_rises (negsuc k) (negsuc m) (pos n) e = omega arith
gap_rises (pos k) (negsuc m) (negsuc n) e = omega arith
gap_rises (negsuc k) (negsuc m) (negsuc n) e = let le : n ≤ m = ltb-false m n e in omega arith

pub gap_max : (f a x : ℤ) → int_gap f a ≤ int_gap f (int_max a x)
gap_max f a x =
    ⊎_elim
    (λ (yes : int_lt x a ≡ true). rw yes (omega arith))
    (λ (less : int_lt x a ≡ false). rw less (gap_rises f a x less))
    (cases_Bool (int_lt x a))

all_ordered : (m : TimeRange) (n : ℕ) (steps : List StepRead) → AllByRecursion IsOrdered (intervals_from m n steps)
all_ordered m n [] = tt
all_ordered m n (step ∷ steps) =
    ⊎_elim
    (λ (yes : is_counted step ≡ true). rw yes (gap_max m.first step.begin (unwrap_or step.end m.last), all_ordered m (n + 1) steps))
    (λ (out : is_counted step ≡ false). rw out (all_ordered m (n + 1) steps))
    (cases_Bool (is_counted step))

pub intervals_ordered : (m : TimeRange) (steps : List StepRead) → All IsOrdered (intervals_of m steps)
intervals_ordered m steps = all_from IsOrdered (intervals_of m steps) (all_ordered m 0 steps)

-- ---- the lengths of the stretches add up to no more than the last cut

abbrev UpTo : ℕ → List ℕ → Type 0
UpTo m [] = Unit {0}
UpTo m (c ∷ cs) = (c ≤ m) × UpTo m cs

up_to_put : (m k : ℕ) (cs : List ℕ) → k ≤ m → UpTo m cs → UpTo m (put k cs)
up_to_put m k [] l h = (l, tt)
up_to_put m k (c ∷ cs) l h =
    ⊎_elim
    (λ (less : ltb k c ≡ true). rw less (l, h))
    (λ (out : ltb k c ≡ false).
    ⊎_elim
    (λ (same : eqb k c ≡ true). rw (out, same) h)
    (λ (other : eqb k c ≡ false). rw (out, other) (h.0, up_to_put m k cs l h.1))
    (cases_Bool (eqb k c)))
    (cases_Bool (ltb k c))

abbrev pub EndsBy : ℕ → Interval → Type 0
EndsBy m i = i.end ≤ m

up_to_cuts : (m : ℕ) (is : List Interval) → AllByRecursion IsOrdered is → AllByRecursion (EndsBy m) is → UpTo m (cuts is)
up_to_cuts m [] o by = tt
up_to_cuts m (i ∷ is) o by =
    let end : i.end ≤ m = by.0 in
    let begin : i.begin ≤ i.end = o.0 in
    up_to_put m i.begin (put i.end (cuts is)) (omega arith) (up_to_put m i.end (cuts is) end (up_to_cuts m is o.1 by.1))

lengths_between : (is : List Interval) (a : ℕ) (cs : List ℕ) (m : ℕ) → Ascends (a ∷ cs) → UpTo m (a ∷ cs)
    → sum_by stretch_length (stretches_between is (a ∷ cs)) + a ≤ m
lengths_between is a [] m up to = let le : a ≤ m = to.0 in omega arith
lengths_between is a (b ∷ cs) m up to =
    let rest = lengths_between is b cs m up.1 to.1 in
    let less : a < b = up.0.0 in
    rw (sum_by-cons stretch_length (stretch_of is a b) (stretches_between is (b ∷ cs))) (omega arith)

lengths_to : (is : List Interval) (cs : List ℕ) (m : ℕ) → Ascends cs → UpTo m cs → sum_by stretch_length (stretches_between is cs) ≤ m
lengths_to is [] m up to = omega arith
lengths_to is (a ∷ cs) m up to = let all = lengths_between is a cs m up to in omega arith

pub lengths_within : (m : ℕ) (is : List Interval) → All IsOrdered is → AllByRecursion (EndsBy m) is → sum_by stretch_length (stretches_of is) ≤ m
lengths_within m is o by = lengths_to is (cuts is) m (cuts_ascend is) (up_to_cuts m is (recursion_from_All IsOrdered is o) by)

small_end : (is : List Interval) → AllByRecursion IsSmallInterval is → AllByRecursion (EndsBy 18446744073709551615) is
small_end [] s = tt
small_end (i ∷ is) s = (let end = s.0.end in omega arith, small_end is s.1)

lengths_fit : (is : List Interval) → All IsOrdered is → All IsSmallInterval is → sum_by stretch_length (stretches_of is) < 2 ^ 64
lengths_fit is o s = let all = lengths_within 18446744073709551615 is o (small_end is (recursion_from_All IsSmallInterval is s)) in omega (arith, all)

-- so they are of the steps of a stream
pub intervals_fit : (m : TimeRange) (steps : List StepRead) (value : List Interval) (ss : List Stretch) → value ≡ intervals_of m steps → All IsSmallInterval value → ss ≡ stretches_of value
    → sum_by stretch_length ss < 2 ^ 64
intervals_fit m steps value ss is small same =
    let fit = lengths_fit (intervals_of m steps) (intervals_ordered m steps) (subst (λ (xs : List Interval). All IsSmallInterval xs) is small) in
    rw (same, is) fit

-- some step is under way in no more than all of them
pub busy_le_lengths : (ss : List Stretch) → busy_in ss ≤ sum_by stretch_length ss
busy_le_lengths ss = sum_by-le-sum_by (λ (s : Stretch). cond (ltb 0 s.number) (stretch_length s) 0) stretch_length ss (λ s. part_le (ltb 0 s.number) (stretch_length s)) where
  part_le : (b : Bool) (n : ℕ) → cond b n 0 ≤ n
  part_le true n = omega arith
  part_le false n = omega arith

-- ---- none begins sooner than those before it

begins_from : (is : List Interval) (a : ℕ) (cs : List ℕ) → Ascends (a ∷ cs) → (k : ℕ) (d : Stretch) → k < length (stretches_between is (a ∷ cs)) → a ≤ (get_or (stretches_between is (a ∷ cs)) k d).begin
begins_from is a [] up k d l = absurd (omega arith)
begins_from is a (b ∷ cs) up zero d l = omega arith
begins_from is a (b ∷ cs) up (suc k) d l =
    let rest = begins_from is b cs up.1 k d (omega arith) in
    let less : a < b = up.0.0 in
    omega (arith, rest)

between_in_order : (is : List Interval) (a : ℕ) (cs : List ℕ) → Ascends (a ∷ cs) → (i j : ℕ) (d : Stretch) → i ≤ j → j < length (stretches_between is (a ∷ cs))
    → (get_or (stretches_between is (a ∷ cs)) i d).begin ≤ (get_or (stretches_between is (a ∷ cs)) j d).begin
between_in_order is a [] up i j d le l = absurd (omega arith)
between_in_order is a (b ∷ cs) up zero j d le l = begins_from is a (b ∷ cs) up j d l
between_in_order is a (b ∷ cs) up (suc i) zero d le l = absurd (omega arith)
between_in_order is a (b ∷ cs) up (suc i) (suc j) d le l = between_in_order is b cs up.1 i j d (omega arith) (omega arith)

in_order_between : (is : List Interval) (cs : List ℕ) → Ascends cs → AreInOrder (stretches_between is cs)
in_order_between is [] up = λ i j d le l. absurd (omega arith)
in_order_between is (a ∷ cs) up = between_in_order is a cs up

pub stretches_in_order : (is : List Interval) → AreInOrder (stretches_of is)
stretches_in_order is = in_order_between is (cuts is) (cuts_ascend is)
