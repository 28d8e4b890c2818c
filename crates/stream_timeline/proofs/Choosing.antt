-- The first so many in the order are those that get a row.
use Rattle.std.proofs.Common.{◌≡◌, ℕ, ◌-◌, ◌<◌, ◌≤◌, List, [], ◌∷◌, Bool, true, false, cond, not, eqb, length, get_or, take, drop, max, suc, zero, Option, refl, sym, ap, ◌∙◌, subst, ⊎_elim, arith, AllPairs, IsPermutation, count_by, filter, sum_by}
use Rattle.std.specs.List.{AllByRecursion}
use Rattle.std.proofs.lemmas.Bool.{cases_Bool, cases_lt}
use Rattle.std.proofs.lemmas.List.{length-drop}
use Rattle.std.proofs.lemmas.List.Elements.{All-from_recursion, recursion_from_All}
use Rattle.std.proofs.lemmas.List.Sorted.{All-permutation, IsPermutation-sym, sum_by-IsPermutation}
use Rattle.std.proofs.lemmas.List.Sums.{length-filter}
use Rattle.stream_timeline.specs.declared.rows.choosing.Candidate.{Candidate}
use Rattle.stream_timeline.specs.declared.rows.choosing.Rows.{Rows}
use Rattle.stream_timeline.specs.declared.reading.time_range.TimeRange.{TimeRange}
use Rattle.stream_timeline.specs.Intervals.{span_of}
use Rattle.stream_timeline.specs.Rows.{AreRanked, AreRowsOf, IsPrintedBefore, candidates_of, gets_row, is_chosen, longest, total_length}
use Rattle.stream_timeline.specs.Steps.{StepRead}
use Rattle.stream_timeline.proofs.Ranking.{chosen_at, is_at, none_after}
use Rattle.stream_timeline.proofs.Sums.{filtered_sum, weighed}

-- ---- a front that passes, where nothing behind it does

filter_front : (test : Candidate → Bool) (xs : List Candidate) (n : ℕ) → n ≤ length xs → ((k : ℕ) (d : Candidate) → k < n → test (get_or xs k d) ≡ true)
    → ((k : ℕ) (d : Candidate) → n ≤ k → k < length xs → test (get_or xs k d) ≡ false)
    → (filter test xs ≡ take n xs) × (filter (λ c. not (test c)) xs ≡ drop n xs)
filter_front test [] zero l front after = (refl, refl)
filter_front test [] (suc n) l front after = absurd (omega arith)
filter_front test (x ∷ xs) zero l front after =
    let out : test x ≡ false = after 0 x (omega arith) (omega arith) in
    let rest = filter_front test xs zero (omega arith) (λ k d h. absurd (omega arith)) (λ k d h r. after (suc k) d (omega arith) (omega arith)) in
    rw out (rest.0, ap (λ cs. x ∷ cs) rest.1)
filter_front test (x ∷ xs) (suc n) l front after =
    let passes : test x ≡ true = front 0 x (omega arith) in
    let rest = filter_front test xs n (omega arith) (λ k d h. front (suc k) d (omega arith)) (λ k d h r. after (suc k) d (omega arith) (omega arith)) in
    rw passes (ap (λ cs. x ∷ cs) rest.0, rest.1)

-- ---- what passes, in another order

same_sum : (test : Candidate → Bool) (f : Candidate → ℕ) (xs ys : List Candidate) → IsPermutation xs ys → sum_by f (filter test ys) ≡ sum_by f (filter test xs)
same_sum test f xs ys perm = filtered_sum test f ys ∙ (sum_by-IsPermutation (weighed test f) xs ys perm ∙ sym (filtered_sum test f xs))

same_length : (test : Candidate → Bool) (xs ys : List Candidate) → IsPermutation xs ys → length (filter test ys) ≡ length (filter test xs)
same_length test xs ys perm = length-filter test ys ∙ (sum_by-IsPermutation (λ c. cond (test c) 1 0) xs ys perm ∙ sym (length-filter test xs))

abbrev IsUpTo : (Candidate → Bool) → ℕ → Candidate → Type 0
IsUpTo test m c = test c ≡ true → c.length ≤ m

up_to_longest : (test : Candidate → Bool) (m : ℕ) (xs : List Candidate) → longest (filter test xs) ≤ m → AllByRecursion (IsUpTo test m) xs
up_to_longest test m [] l = tt
up_to_longest test m (x ∷ xs) l =
    ⊎_elim
    (λ (yes : test x ≡ true).
    let both : max x.length (longest (filter test xs)) ≤ m = rw yes at l in
    (λ passes. omega (arith, both), up_to_longest test m xs (omega (arith, both))))
    (λ (no : test x ≡ false).
    let rest : longest (filter test xs) ≤ m = rw no at l in
    (λ passes. absurd (let bad : true ≡ false = sym passes ∙ no in cc), up_to_longest test m xs rest))
    (cases_Bool (test x))

longest_up_to : (test : Candidate → Bool) (m : ℕ) (xs : List Candidate) → AllByRecursion (IsUpTo test m) xs → longest (filter test xs) ≤ m
longest_up_to test m [] h = omega arith
longest_up_to test m (x ∷ xs) h =
    let rest = longest_up_to test m xs h.1 in
    ⊎_elim
    (λ (yes : test x ≡ true). let here : x.length ≤ m = h.0 yes in rw yes (omega (arith, rest, here)))
    (λ (no : test x ≡ false). rw no rest)
    (cases_Bool (test x))

longest_le : (test : Candidate → Bool) (xs ys : List Candidate) → IsPermutation xs ys → longest (filter test ys) ≤ longest (filter test xs)
longest_le test xs ys perm =
    let m = longest (filter test xs) in
    longest_up_to test m ys
    (recursion_from_All (IsUpTo test m) ys (All-permutation (IsUpTo test m) xs ys perm (All-from_recursion (IsUpTo test m) xs (up_to_longest test m xs (omega arith)))))

same_longest : (test : Candidate → Bool) (xs ys : List Candidate) → IsPermutation xs ys → longest (filter test ys) ≡ longest (filter test xs)
same_longest test xs ys perm =
    let most = longest_le test xs ys perm in
    let least = longest_le test ys xs (IsPermutation-sym xs ys perm) in
    omega (arith, most, least)

-- ---- the rows

-- how many of the first get a row
pub record IsFront (limit : Option ℕ) (span : ℕ) (xs : List Candidate) (n : ℕ) : Type 0 where
  pub bound : n ≤ length xs
  pub before : (k : ℕ) (d : Candidate) → k < n → gets_row limit span k (get_or xs k d) ≡ true
  pub after : (d : Candidate) → n < length xs → gets_row limit span n (get_or xs n d) ≡ false

none_from : (limit : Option ℕ) (span : ℕ) (xs : List Candidate) (n : ℕ) → AreRanked xs → IsFront limit span xs n
    → (k : ℕ) (d : Candidate) → n ≤ k → k < length xs → gets_row limit span k (get_or xs k d) ≡ false
none_from limit span xs n ranked front k d l within =
    ⊎_elim
    (λ (later : n < k). none_after limit span xs n k d ranked later within (front.after d (omega arith)))
    (λ (not_later : k ≤ n). let same : n ≡ k = omega arith in subst (λ (j : ℕ). gets_row limit span j (get_or xs j d) ≡ false) same (front.after d (omega arith)))
    (cases_lt n k)

front_is : (limit : Option ℕ) (span : ℕ) (all xs : List Candidate) (n : ℕ) → IsPermutation all xs → AreRanked xs → IsFront limit span xs n
    → (filter (is_chosen limit span all) xs ≡ take n xs) × (filter (λ c. not (is_chosen limit span all c)) xs ≡ drop n xs)
front_is limit span all xs n perm ranked front =
    let bound : n ≤ length xs = front.bound in
    filter_front (is_chosen limit span all) xs n bound
    (λ k d l. chosen_at limit span all xs k d perm ranked (omega (arith, bound)) ∙ front.before k d l)
    (λ k d l within. chosen_at limit span all xs k d perm ranked within ∙ none_from limit span xs n ranked front k d l within)

pub rows_are : (m : TimeRange) (steps : List StepRead) (limit : Option ℕ) (xs : List Candidate) (n : ℕ) (rows : Rows)
    → IsPermutation (candidates_of m steps) xs → AreRanked xs → IsFront limit (span_of m) xs n
    → ((p : ℕ) → count_by (λ shown. eqb shown p) rows.places.items ≡ count_by (is_at p) (take n xs)) → AllPairs (IsPrintedBefore steps) rows.places.items
    → rows.left_out ≡ length xs - n → rows.longest ≡ longest (drop n xs) → rows.total_length ≡ total_length (drop n xs) → AreRowsOf m steps limit rows
rows_are m steps limit xs n rows perm ranked front shown ordered number greatest sum =
    let all = candidates_of m steps in
    let is = front_is limit (span_of m) all xs n perm ranked front in
    let out = λ (c : Candidate). not (is_chosen limit (span_of m) all c) in
    record {
      shown = λ p. shown p ∙ (ap (λ cs. count_by (is_at p) cs) (sym is.0) ∙ same_sum (is_chosen limit (span_of m) all) (λ (c : Candidate). cond (is_at p c) 1 0) all xs perm);
      ordered = ordered;
      number_left = number ∙ (sym (length-drop n xs) ∙ (ap length (sym is.1) ∙ same_length out all xs perm));
      longest_left = greatest ∙ (ap longest (sym is.1) ∙ same_longest out all xs perm);
      total_length_left = sum ∙ (ap total_length (sym is.1) ∙ same_sum out (λ (c : Candidate). c.length) all xs perm);
    }
