-- Candidates in the order in which they get rows.
use Rattle.std.proofs.Common.{◌≡◌, ◌≢◌, ℕ, ◌+◌, ◌*◌, ◌<◌, ◌≤◌, List, [], ◌∷◌, Bool, true, false, cond, eqb, ltb, leb, length, get_or, suc, zero, Option, Some, None, refl, sym, ap, ◌∙◌, ⊎_elim, arith, IsPermutation, count_by}
use Rattle.std.specs.Prelude.{◌&&◌, ◌||◌}
use Rattle.std.specs.Cmp.{IsStrictWeakOrder}
use Rattle.std.specs.List.{AllByRecursion}
use Rattle.std.proofs.lemmas.Bool.{cases_Bool, eq-eqb, eqb-true, ne_eqb}
use Rattle.std.proofs.lemmas.Bool.Decides.{nat_tests}
use Rattle.std.proofs.lemmas.List.Elements.{recursion_from_All}
use Rattle.std.proofs.lemmas.List.Sorted.{sum_by-IsPermutation}
use Rattle.std.proofs.lemmas.List.Sums.{get_or-le-sum_by, sum_by-cons}
use Rattle.stream_timeline.specs.declared.rows.choosing.Candidate.{Candidate}
use Rattle.stream_timeline.specs.declared.reading.time_range.TimeRange.{TimeRange}
use Rattle.stream_timeline.specs.Rows.{AreRanked, candidate_of, candidates_from, candidates_of, comes_before, gets_row, is_chosen, rank_of, same_bool}
use Rattle.stream_timeline.specs.Steps.{StepRead}

-- ---- what the sort compares

-- where both are marked, or neither is
abbrev pub before_alike : (k l p q : ℕ) → Bool
before_alike k l p q = cond (eqb k l) (ltb p q) (ltb l k)

abbrev before_by : (m n : Bool) (k l p q : ℕ) → Bool
before_by m n k l p q = cond (same_bool m n) (before_alike k l p q) m

pub chain_alike : (k l j p q r : ℕ) → before_alike k l p q ≡ false → before_alike l j q r ≡ false → before_alike k j p r ≡ false
chain_alike k l j p q r a b = grind (arith, nat_tests)

chain_by : (m n o : Bool) (k l j p q r : ℕ) → before_by m n k l p q ≡ false → before_by n o l j q r ≡ false → before_by m o k j p r ≡ false
chain_by true true true k l j p q r a b = chain_alike k l j p q r a b
chain_by true true false k l j p q r a b = absurd cc
chain_by true false o k l j p q r a b = absurd cc
chain_by false true true k l j p q r a b = refl
chain_by false true false k l j p q r a b = absurd cc
chain_by false false true k l j p q r a b = refl
chain_by false false false k l j p q r a b = chain_alike k l j p q r a b

-- one of two comes before the other
either_by : (m n : Bool) (k l p q : ℕ) → p ≢ q → before_by n m l k q p ≡ false → before_by m n k l p q ≡ true
either_by true true k l p q differ out = grind (arith, nat_tests)
either_by true false k l p q differ out = refl
either_by false true k l p q differ out = absurd cc
either_by false false k l p q differ out = grind (arith, nat_tests)

pub either_before : (a b : Candidate) → a.place ≢ b.place → comes_before b a ≡ false → comes_before a b ≡ true
either_before a b differ out = either_by a.marked b.marked a.length b.length a.place b.place differ out

one_way_by : (m n : Bool) (k l p q : ℕ) → before_by m n k l p q ≡ true → before_by n m l k q p ≡ false
one_way_by true true k l p q first = grind (arith, nat_tests)
one_way_by true false k l p q first = refl
one_way_by false true k l p q first = absurd cc
one_way_by false false k l p q first = grind (arith, nat_tests)

one_way : (a b : Candidate) → comes_before a b ≡ true → comes_before b a ≡ false
one_way a b first = one_way_by a.marked b.marked a.length b.length a.place b.place first

pub before_is_order : IsStrictWeakOrder comes_before
before_is_order = record { one_way = one_way; chain = λ x y z. chain_by x.marked y.marked z.marked x.length y.length z.length x.place y.place z.place }

not_itself : (a : Candidate) → comes_before a a ≡ false
not_itself a = ⊎_elim (λ (yes : comes_before a a ≡ true). one_way a a yes) (λ (no : comes_before a a ≡ false). no) (cases_Bool (comes_before a a))

-- ---- each place stands once

abbrev pub is_at : ℕ → Candidate → Bool
is_at p c = eqb c.place p

abbrev one_if : Bool → ℕ
one_if b = cond b 1 0

one_there : (p : Candidate → Bool) (xs : List Candidate) (j : ℕ) (d : Candidate) → j < length xs → p (get_or xs j d) ≡ true → 1 ≤ count_by p xs
one_there p xs j d l passes =
    let least = get_or-le-sum_by (λ x. one_if (p x)) xs j d l in
    let one : one_if (p (get_or xs j d)) ≡ 1 = rw passes refl in
    omega (arith, least, one)

two_there : (p : Candidate → Bool) (xs : List Candidate) (i j : ℕ) (d : Candidate) → i < j → j < length xs → p (get_or xs i d) ≡ true → p (get_or xs j d) ≡ true → 2 ≤ count_by p xs
two_there p [] i j d l k a b = absurd (omega arith)
two_there p (x ∷ xs) i zero d l k a b = absurd (omega arith)
two_there p (x ∷ xs) zero (suc j) d l k a b =
    let rest = one_there p xs j d (omega arith) b in
    let here : one_if (p x) ≡ 1 = rw a refl in
    omega (arith, rest, here, sum_by-cons (λ x. one_if (p x)) x xs)
two_there p (x ∷ xs) (suc i) (suc j) d l k a b =
    let rest = two_there p xs i j d (omega arith) (omega arith) a b in
    omega (arith, rest, sum_by-cons (λ x. one_if (p x)) x xs)

none_from : (m : TimeRange) (n p : ℕ) (steps : List StepRead) → p < n → count_by (is_at p) (candidates_from m n steps) ≡ 0
none_from m n p [] l = refl
none_from m n p (s ∷ ss) l =
    let rest = none_from m (n + 1) p ss (omega arith) in
    let here : eqb n p ≡ false = ne_eqb n p (λ e. omega arith) in
    let zero_here : one_if (eqb n p) ≡ 0 = rw here refl in
    omega (arith, rest, zero_here, sum_by-cons (λ (x : Candidate). one_if (is_at p x)) (candidate_of m n s) (candidates_from m (n + 1) ss))

few_from : (m : TimeRange) (n p : ℕ) (steps : List StepRead) → count_by (is_at p) (candidates_from m n steps) ≤ 1
few_from m n p [] = omega arith
few_from m n p (s ∷ ss) =
    let all = sum_by-cons (λ (x : Candidate). one_if (is_at p x)) (candidate_of m n s) (candidates_from m (n + 1) ss) in
    ⊎_elim
    (λ (yes : eqb n p ≡ true).
    let same : n ≡ p = eqb-true n p yes in
    let rest = none_from m (n + 1) p ss (omega (arith, same)) in
    let here : one_if (eqb n p) ≡ 1 = rw yes refl in
    omega (arith, rest, here, all))
    (λ (no : eqb n p ≡ false).
    let rest = few_from m (n + 1) p ss in
    let here : one_if (eqb n p) ≡ 0 = rw no refl in
    omega (arith, rest, here, all))
    (cases_Bool (eqb n p))

-- ---- sorted, they are ranked

pub places_differ : (m : TimeRange) (steps : List StepRead) (xs : List Candidate) → IsPermutation (candidates_of m steps) xs
    → (i j : ℕ) (d : Candidate) → i < j → j < length xs → (get_or xs i d).place ≢ (get_or xs j d).place
places_differ m steps xs perm i j d l k same =
    let p = (get_or xs j d).place in
    let few = few_from m 0 p steps in
    let count = sum_by-IsPermutation (λ (x : Candidate). one_if (is_at p x)) (candidates_of m steps) xs perm in
    let many = two_there (is_at p) xs i j d l k (eq-eqb _ _ same) (eq-eqb p p refl) in
    omega (arith, few, count, many)

pub ranked_from : (m : TimeRange) (steps : List StepRead) (xs : List Candidate) → IsPermutation (candidates_of m steps) xs
    → ((i j : ℕ) (d : Candidate) → i ≤ j → j < length xs → comes_before (get_or xs j d) (get_or xs i d) ≡ false) → AreRanked xs
ranked_from m steps xs perm sorted = λ i j d l k.
    either_before (get_or xs i d) (get_or xs j d) (places_differ m steps xs perm i j d l k) (sorted i j d (omega arith) k)

-- ---- the rank of each is its place in the order

abbrev Ranks : List Candidate → Type 0
Ranks [] = Unit {0}
Ranks (x ∷ xs) = AllByRecursion (λ y. comes_before x y ≡ true) xs × Ranks xs

ranks_from : (xs : List Candidate) → AreRanked xs → Ranks xs
ranks_from [] h = tt
ranks_from (x ∷ xs) h =
    (recursion_from_All (λ y. comes_before x y ≡ true) xs (λ k d l. h 0 (suc k) d (omega arith) (omega arith)), ranks_from xs (λ i j d l k. h (suc i) (suc j) d (omega arith) (omega arith)))

none_before : (c : Candidate) (xs : List Candidate) → AllByRecursion (λ y. comes_before c y ≡ true) xs → rank_of xs c ≡ 0
none_before c [] h = refl
none_before c (x ∷ xs) h =
    let rest = none_before c xs h.1 in
    let here : one_if (comes_before x c) ≡ 0 = rw (one_way c x h.0) refl in
    omega (arith, rest, here, sum_by-cons (λ (o : Candidate). one_if (comes_before o c)) x xs)

at_by : {X : Type 0} (P : X → Type 0) (xs : List X) (k : ℕ) (d : X) → AllByRecursion P xs → k < length xs → P (get_or xs k d)
at_by P [] k d h l = absurd (omega arith)
at_by P (x ∷ xs) zero d h l = h.0
at_by P (x ∷ xs) (suc k) d h l = at_by P xs k d h.1 (omega arith)

rank_at : (xs : List Candidate) (k : ℕ) (d : Candidate) → Ranks xs → k < length xs → rank_of xs (get_or xs k d) ≡ k
rank_at [] k d h l = absurd (omega arith)
rank_at (x ∷ xs) zero d h l =
    let rest = none_before x xs h.0 in
    let here : one_if (comes_before x x) ≡ 0 = rw (not_itself x) refl in
    omega (arith, rest, here, sum_by-cons (λ (o : Candidate). one_if (comes_before o x)) x xs)
rank_at (x ∷ xs) (suc k) d h l =
    let c = get_or xs k d in
    let rest = rank_at xs k d h.1 (omega arith) in
    let here : one_if (comes_before x c) ≡ 1 = rw (at_by (λ y. comes_before x y ≡ true) xs k d h.0 (omega arith)) refl in
    omega (arith, rest, here, sum_by-cons (λ (o : Candidate). one_if (comes_before o c)) x xs)

same_rank : (all xs : List Candidate) (c : Candidate) → IsPermutation all xs → rank_of all c ≡ rank_of xs c
same_rank all xs c perm = sym (sum_by-IsPermutation (λ (o : Candidate). one_if (comes_before o c)) all xs perm)

pub chosen_at : (limit : Option ℕ) (span : ℕ) (all xs : List Candidate) (k : ℕ) (d : Candidate) → IsPermutation all xs → AreRanked xs → k < length xs
    → is_chosen limit span all (get_or xs k d) ≡ gets_row limit span k (get_or xs k d)
chosen_at limit span all xs k d perm ranked l =
    ap (λ (n : ℕ). gets_row limit span n (get_or xs k d)) (same_rank all xs (get_or xs k d) perm ∙ rank_at xs k d (ranks_from xs ranked) l)

-- ---- behind one that gets no row none gets one

none_after_by : (m n : Bool) (k l p q : ℕ) (span i j limit : ℕ) → before_by m n k l p q ≡ true → i ≤ j
    → (ltb i limit && (ltb i 10 || (m || leb span (k * 200)))) ≡ false → (ltb j limit && (ltb j 10 || (n || leb span (l * 200)))) ≡ false
none_after_by true true k l p q span i j limit before le out = grind (arith, nat_tests)
none_after_by true false k l p q span i j limit before le out = grind (arith, nat_tests)
none_after_by false true k l p q span i j limit before le out = absurd cc
none_after_by false false k l p q span i j limit before le out = grind (arith, nat_tests)

pub none_after : (limit : Option ℕ) (span : ℕ) (xs : List Candidate) (i j : ℕ) (d : Candidate) → AreRanked xs → i < j → j < length xs
    → gets_row limit span i (get_or xs i d) ≡ false → gets_row limit span j (get_or xs j d) ≡ false
none_after None span xs i j d ranked l k out = absurd cc
none_after (Some limit) span xs i j d ranked l k out =
    let a = get_or xs i d in
    let b = get_or xs j d in
    none_after_by a.marked b.marked a.length b.length a.place b.place span i j limit (ranked i j d l k) (omega arith) out
