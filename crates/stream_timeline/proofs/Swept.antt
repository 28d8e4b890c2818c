-- The stretches between times in order, some of which may be equal.
use Rattle.std.proofs.Common.{◌≡◌, ℕ, ◌<◌, ◌≤◌, List, [], ◌∷◌, ◌++◌, Bool, true, false, cond, eqb, Option, Some, None, refl, ap, ◌∙◌, subst, ⊎_elim, arith}
use Rattle.std.specs.Prelude.{◌||◌}
use Rattle.std.proofs.lemmas.Bool.{cases_Bool, eqb-true, eqb-false, cases_order, ne_eqb}
use Rattle.stream_timeline.specs.declared.numbers.interval.Interval.{Interval}
use Rattle.stream_timeline.specs.declared.numbers.stretch.Stretch.{Stretch}
use Rattle.stream_timeline.specs.Steps.{last_of}
use Rattle.stream_timeline.specs.Stretches.{cuts, stretch_of, stretches_between, stretches_of}
use Rattle.stream_timeline.proofs.Cuts.{Above, Ascends, cuts_ascend, has, same_ascending}

-- the later numbers that differ from the one before them
abbrev pub after : ℕ → List ℕ → List ℕ
after m [] = []
after m (k ∷ ks) = cond (eqb m k) (after k ks) (k ∷ after k ks)

abbrev pub each_once : List ℕ → List ℕ
each_once [] = []
each_once (m ∷ ms) = m ∷ after m ms

abbrev pub swept : List Interval → List ℕ → List Stretch
swept is ms = stretches_between is (each_once ms)

-- ---- one more at the end

abbrev pub pushed : List Interval → Option ℕ → ℕ → List Stretch
pushed is None m = []
pushed is (Some a) m = cond (eqb a m) [] (stretch_of is a m ∷ [])

pushed_after : (is : List Interval) (m : ℕ) (ks : List ℕ) (k : ℕ)
    → stretches_between is (m ∷ after m (ks ++ k ∷ [])) ≡ stretches_between is (m ∷ after m ks) ++ pushed is (last_of (m ∷ ks)) k
pushed_after is m [] k =
    ⊎_elim (λ (yes : eqb m k ≡ true). rw yes refl) (λ (no : eqb m k ≡ false). rw no refl) (cases_Bool (eqb m k))
pushed_after is m (j ∷ js) k =
    ⊎_elim
    (λ (yes : eqb m j ≡ true). let same : m ≡ j = eqb-true m j yes in rw (yes, same) (pushed_after is j js k))
    (λ (no : eqb m j ≡ false). rw no (ap (λ ss. stretch_of is m j ∷ ss) (pushed_after is j js k)))
    (cases_Bool (eqb m j))

pub swept_more : (is : List Interval) (ms : List ℕ) (m : ℕ) → swept is (ms ++ m ∷ []) ≡ swept is ms ++ pushed is (last_of ms) m
swept_more is [] m = refl
swept_more is (k ∷ ks) m = pushed_after is k ks m

-- ---- moments that rise

abbrev pub NoneBelow : ℕ → List ℕ → Type 0
NoneBelow m [] = Unit {0}
NoneBelow m (k ∷ ks) = (m ≤ k) × NoneBelow m ks

abbrev pub Rises : List ℕ → Type 0
Rises [] = Unit {0}
Rises (m ∷ ms) = NoneBelow m ms × Rises ms

lemma_far : (m k j : ℕ) → m < k → k ≤ j → eqb m j ≡ false
lemma_far m k j l h = ne_eqb m j (λ e. omega arith)

above_after : (m k : ℕ) (ks : List ℕ) → m ≤ k → (eqb m k ≡ false) → NoneBelow k ks → Rises ks → Above m (k ∷ after k ks)
above_after m k [] l differ n r =
    let apart : m ≡ k → ⊥ = eqb-false m k differ in
    (⊎_elim (λ (e : m ≡ k). absurd (apart e)) (⊎_elim (λ (less : m < k). less) (λ (more : k < m). omega arith)) (cases_order m k), tt)
above_after m k (j ∷ js) l differ n r =
    let apart : m ≡ k → ⊥ = eqb-false m k differ in
    let less : m < k = ⊎_elim (λ (e : m ≡ k). absurd (apart e)) (⊎_elim (λ (less : m < k). less) (λ (more : k < m). omega arith)) (cases_order m k) in
    let on : k ≤ j = n.0 in
    ⊎_elim
    (λ (yes : eqb k j ≡ true).
    let same : k ≡ j = eqb-true k j yes in
    let rest : Above m (j ∷ after j js) = above_after m j js (omega arith) (subst (λ x. eqb m x ≡ false) same differ) r.0 r.1 in
    rw yes (less, rest.1))
    (λ (other : eqb k j ≡ false).
    let far : eqb m j ≡ false = lemma_far m k j less on in
    let rest : Above m (j ∷ after j js) = above_after m j js (omega arith) far r.0 r.1 in
    rw other (less, rest))
    (cases_Bool (eqb k j))

-- no smaller than m: above it where they differ from it
above_all : (m : ℕ) (ks : List ℕ) → NoneBelow m ks → Rises ks → Above m (after m ks)
above_all m [] n r = tt
above_all m (k ∷ ks) n r =
    ⊎_elim
    (λ (yes : eqb m k ≡ true).
    let same : m ≡ k = eqb-true m k yes in
    rw (yes, same) (above_all k ks r.0 r.1))
    (λ (no : eqb m k ≡ false). rw no (above_after m k ks n.0 no r.0 r.1))
    (cases_Bool (eqb m k))

after_ascends : (m : ℕ) (ks : List ℕ) → NoneBelow m ks → Rises ks → Ascends (after m ks)
after_ascends m [] n r = tt
after_ascends m (k ∷ ks) n r =
    ⊎_elim
    (λ (yes : eqb m k ≡ true). rw yes (after_ascends k ks r.0 r.1))
    (λ (no : eqb m k ≡ false). rw no (above_all k ks r.0 r.1, after_ascends k ks r.0 r.1))
    (cases_Bool (eqb m k))

pub each_once_ascends : (ms : List ℕ) → Rises ms → Ascends (each_once ms)
each_once_ascends [] r = tt
each_once_ascends (m ∷ ms) r = (above_all m ms r.0 r.1, after_ascends m ms r.0 r.1)

or_same : (a b : Bool) → (a || b) ≡ (a || (a || b))
or_same true b = refl
or_same false b = refl

has_after : (n m : ℕ) (ks : List ℕ) → has n (m ∷ after m ks) ≡ has n (m ∷ ks)
has_after n m [] = refl
has_after n m (k ∷ ks) =
    ⊎_elim
    (λ (yes : eqb m k ≡ true).
    let same : m ≡ k = eqb-true m k yes in
    rw (yes, same) (has_after n k ks ∙ or_same (eqb n k) (has n ks)))
    (λ (no : eqb m k ≡ false). rw no (ap (λ b. eqb n m || b) (has_after n k ks)))
    (cases_Bool (eqb m k))

pub has_each_once : (n : ℕ) (ms : List ℕ) → has n (each_once ms) ≡ has n ms
has_each_once n [] = refl
has_each_once n (m ∷ ms) = has_after n m ms

-- where they rise and have what the cuts have, the stretches are those between the cuts
pub swept_all : (is : List Interval) (ms : List ℕ) → Rises ms → ((n : ℕ) → has n ms ≡ has n (cuts is)) → swept is ms ≡ stretches_of is
swept_all is ms r same =
    ap (stretches_between is) (same_ascending (each_once ms) (cuts is) (each_once_ascends ms r) (cuts_ascend is) (λ n. has_each_once n ms ∙ same n))
