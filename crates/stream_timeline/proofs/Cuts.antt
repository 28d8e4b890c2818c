-- Lists of numbers that ascend, and the cuts between intervals.
use Rattle.std.proofs.Common.{◌≡◌, ℕ, ◌<◌, ◌≤◌, List, [], ◌∷◌, Bool, true, false, eqb, ltb, refl, sym, ap, ◌∙◌, subst, ⊎_elim, arith}
use Rattle.std.specs.Prelude.{◌||◌}
use Rattle.std.specs.List.{list_any}
use Rattle.std.proofs.lemmas.Bool.{cases_Bool, cases_order, eq-eqb, eqb-true, eqb-false, ltb-false, ltb-true, ne_eqb}
use Rattle.stream_timeline.specs.declared.numbers.interval.Interval.{Interval}
use Rattle.stream_timeline.specs.Stretches.{cuts, put}

-- all are greater
abbrev pub Above : ℕ → List ℕ → Type 0
Above m [] = Unit {0}
Above m (x ∷ xs) = (m < x) × Above m xs

-- each is less than those that follow
abbrev pub Ascends : List ℕ → Type 0
Ascends [] = Unit {0}
Ascends (x ∷ xs) = Above x xs × Ascends xs

abbrev pub has : ℕ → List ℕ → Bool
has m xs = list_any (eqb m) xs

above_less : (m n : ℕ) (xs : List ℕ) → m ≤ n → Above n xs → Above m xs
above_less m n [] l a = tt
above_less m n (x ∷ xs) l a = let below : n < x = a.0 in (omega arith, above_less m n xs l a.1)

lacks : (m : ℕ) (xs : List ℕ) → Above m xs → has m xs ≡ false
lacks m [] a = refl
lacks m (x ∷ xs) a =
    let below : m < x = a.0 in
    let differ : eqb m x ≡ false = ne_eqb m x (λ e. omega arith) in
    rw differ (lacks m xs a.1)

-- ---- two that ascend and have the same numbers are one

has_first : (x : ℕ) (xs : List ℕ) → has x (x ∷ xs) ≡ true
has_first x xs = rw (eq-eqb x x refl) refl

lacks_both : (x y : ℕ) (ys : List ℕ) → x < y → Above y ys → has x (y ∷ ys) ≡ false
lacks_both x y ys l a = lacks x (y ∷ ys) (l, above_less x y ys (omega arith) a)

after_first : (m x : ℕ) (xs : List ℕ) → eqb m x ≡ false → has m (x ∷ xs) ≡ has m xs
after_first m x xs e = rw e refl

same_rest : (x : ℕ) (xs ys : List ℕ) → Above x xs → Above x ys → ((m : ℕ) → has m (x ∷ xs) ≡ has m (x ∷ ys)) → (m : ℕ) → has m xs ≡ has m ys
same_rest x xs ys a b e m =
    ⊎_elim
    (λ (yes : eqb m x ≡ true).
    let same : m ≡ x = eqb-true m x yes in
    rw same (lacks x xs a ∙ sym (lacks x ys b)))
    (λ (no : eqb m x ≡ false). sym (after_first m x xs no) ∙ (e m ∙ after_first m x ys no))
    (cases_Bool (eqb m x))

pub same_ascending : (xs ys : List ℕ) → Ascends xs → Ascends ys → ((m : ℕ) → has m xs ≡ has m ys) → xs ≡ ys
same_ascending [] [] a b e = refl
same_ascending [] (y ∷ ys) a b e = let bad : false ≡ true = e y ∙ has_first y ys in absurd cc
same_ascending (x ∷ xs) [] a b e = let bad : true ≡ false = sym (has_first x xs) ∙ e x in absurd cc
same_ascending (x ∷ xs) (y ∷ ys) a b e =
    ⊎_elim
    (λ (same : x ≡ y).
    let above : Above x ys = subst (λ n. Above n ys) (sym same) b.0 in
    let there : (m : ℕ) → has m (x ∷ xs) ≡ has m (x ∷ ys) = λ m. e m ∙ ap (λ n. has m (n ∷ ys)) (sym same) in
    let rest : xs ≡ ys = same_ascending xs ys a.1 b.1 (same_rest x xs ys a.0 above there) in
    rw (same, rest) refl)
    (⊎_elim
    (λ (less : x < y). let bad : true ≡ false = sym (has_first x xs) ∙ (e x ∙ lacks_both x y ys less b.0) in absurd cc)
    (λ (more : y < x). let bad : false ≡ true = sym (lacks_both y x xs more a.0) ∙ (e y ∙ has_first y ys) in absurd cc))
    (cases_order x y)

-- ---- what `put` makes

above_put : (k m : ℕ) (cs : List ℕ) → k < m → Above k cs → Above k (put m cs)
above_put k m [] l a = (l, tt)
above_put k m (c ∷ cs) l a =
    ⊎_elim
    (λ (less : ltb m c ≡ true). rw less (l, a))
    (λ (no : ltb m c ≡ false).
    ⊎_elim
    (λ (same : eqb m c ≡ true). rw (no, same) a)
    (λ (other : eqb m c ≡ false). rw (no, other) (a.0, above_put k m cs l a.1))
    (cases_Bool (eqb m c)))
    (cases_Bool (ltb m c))

ascends_put : (m : ℕ) (cs : List ℕ) → Ascends cs → Ascends (put m cs)
ascends_put m [] a = (tt, tt)
ascends_put m (c ∷ cs) a =
    ⊎_elim
    (λ (less : ltb m c ≡ true).
    let below : m < c = ltb-true m c less in
    rw less ((below, above_less m c cs (omega arith) a.0), a))
    (λ (no : ltb m c ≡ false).
    ⊎_elim
    (λ (same : eqb m c ≡ true). rw (no, same) a)
    (λ (other : eqb m c ≡ false).
    let more : c < m = (let at_least : c ≤ m = ltb-false m c no in let apart : m ≡ c → ⊥ = eqb-false m c other in
    ⊎_elim (λ (e : m ≡ c). absurd (apart e)) (⊎_elim (λ (l : m < c). omega arith) (λ (l : c < m). l)) (cases_order m c)) in
    rw (no, other) (above_put c m cs more a.0, ascends_put m cs a.1))
    (cases_Bool (eqb m c)))
    (cases_Bool (ltb m c))

or_swap : (a b c : Bool) → (a || (b || c)) ≡ (b || (a || c))
or_swap true true c = refl
or_swap true false c = refl
or_swap false true c = refl
or_swap false false c = refl

or_same : (a b : Bool) → (a || b) ≡ (a || (a || b))
or_same true b = refl
or_same false b = refl

has_put : (k m : ℕ) (cs : List ℕ) → has k (put m cs) ≡ (eqb k m || has k cs)
has_put k m [] = refl
has_put k m (c ∷ cs) =
    ⊎_elim
    (λ (less : ltb m c ≡ true). rw less refl)
    (λ (no : ltb m c ≡ false).
    ⊎_elim
    (λ (same : eqb m c ≡ true).
    let e : m ≡ c = eqb-true m c same in
    rw (no, same, e) (or_same (eqb k c) (has k cs)))
    (λ (other : eqb m c ≡ false).
    rw (no, other) (ap (λ b. eqb k c || b) (has_put k m cs) ∙ or_swap (eqb k c) (eqb k m) (has k cs)))
    (cases_Bool (eqb m c)))
    (cases_Bool (ltb m c))

-- ---- the cuts

pub cuts_ascend : (is : List Interval) → Ascends (cuts is)
cuts_ascend [] = tt
cuts_ascend (i ∷ is) = ascends_put i.begin (put i.end (cuts is)) (ascends_put i.end (cuts is) (cuts_ascend is))

pub has_cuts : (k : ℕ) (i : Interval) (is : List Interval) → has k (cuts (i ∷ is)) ≡ (eqb k i.begin || (eqb k i.end || has k (cuts is)))
has_cuts k i is = has_put k i.begin (put i.end (cuts is)) ∙ ap (λ b. eqb k i.begin || b) (has_put k i.end (cuts is))
