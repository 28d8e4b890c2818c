-- The numbers that fall to a worker.
use Rattle.std.proofs.Common.{◌≡◌, ◌≢◌, ℕ, zero, suc, ◌+◌, ◌<◌, ◌≤◌, List, [], ◌∷◌, ◌++◌, All, length, get_or, length-append, cond, add-zero, sym, refl, ap, ◌∙◌, subst, subst₂, ⊎_elim, arith, eq-eqb, ne_eqb, if◌then◌else◌}
use Rattle.std.proofs.lemmas.Bool.Decides.{eqb_tells}
use Rattle.std.proofs.lemmas.List.Elements.{All-nil, All-push, All-weaker}
use Rattle.std.proofs.lemmas.List.Sums.{sum_by_push}
use Rattle.std.specs.List.Sorted.{IsStrictlyIncreasing}
use lib.ListN.{get_or-append}
use lib.Seq.{get_or-append_seam}
use Rattle.apply_events.specs.Partition.{count_of, numbers_of}

-- the next number falls to w
pub numbers_here : (who : ℕ → ℕ) (w m : ℕ) → who m ≡ w → numbers_of who w (suc m) ≡ numbers_of who w m ++ m ∷ []
numbers_here who w m e = ap (λ b. if b then numbers_of who w m ++ m ∷ [] else numbers_of who w m) (eq-eqb (who m) w e)

-- it falls to another
pub numbers_else : (who : ℕ → ℕ) (w m : ℕ) → who m ≢ w → numbers_of who w (suc m) ≡ numbers_of who w m
numbers_else who w m n = ap (λ b. if b then numbers_of who w m ++ m ∷ [] else numbers_of who w m) (ne_eqb (who m) w n)

weaker : (m n : ℕ) (xs : List ℕ) → m ≤ n → All (λ x. x < m) xs → All (λ x. x < n) xs
weaker m n xs le h = All-weaker (λ x. x < m) (λ x. x < n) (λ x lt. omega arith) xs h

-- what falls to a worker is below m
pub numbers_below : (who : ℕ → ℕ) (w m : ℕ) → All (λ x. x < m) (numbers_of who w m)
numbers_below who w zero = All-nil (λ (x : ℕ). x < 0)
numbers_below who w (suc m) =
    let P : List ℕ → Type 0 = All (λ x. x < suc m) in
    let was = weaker m (suc m) (numbers_of who w m) (omega arith) (numbers_below who w m) in
    ⊎_elim
    (λ (c : _ × (who m ≡ w)). subst P (sym (numbers_here who w m c.1)) (All-push (λ x. x < suc m) (numbers_of who w m) m was (omega arith)))
    (λ (c : _ × (who m ≢ w)). subst P (sym (numbers_else who w m c.1)) was)
    (eqb_tells (who m) w)

pub numbers_up : (who : ℕ → ℕ) (w m n : ℕ) → m ≤ n → All (λ x. x < n) (numbers_of who w m)
numbers_up who w m n le = weaker m n (numbers_of who w m) le (numbers_below who w m)

-- only the owners below m matter
pub numbers_same : (a b : ℕ → ℕ) (w m : ℕ) → ((k : ℕ) → k < m → a k ≡ b k) → numbers_of a w m ≡ numbers_of b w m
numbers_same a b w zero h = refl
numbers_same a b w (suc m) h =
    let was = numbers_same a b w m (λ k lt. h k (omega arith)) in
    let here : a m ≡ b m = h m (omega arith) in
    ⊎_elim
    (λ (c : _ × (b m ≡ w)). numbers_here a w m (here ∙ c.1) ∙ ap (λ l. l ++ m ∷ []) was ∙ sym (numbers_here b w m c.1))
    (λ (c : _ × (b m ≢ w)). numbers_else a w m (λ e. c.1 (sym here ∙ e)) ∙ was ∙ sym (numbers_else b w m c.1))
    (eqb_tells (b m) w)

-- ---- they rise

-- one above them all goes on rising
pub rises_more : (xs : List ℕ) (m : ℕ) → IsStrictlyIncreasing xs → All (λ x. x < m) xs → IsStrictlyIncreasing (xs ++ m ∷ [])
rises_more xs m h low k lt =
    let len = length-append xs (m ∷ []) in
    let first : k < length xs = omega (arith, len) in
    let left : get_or (xs ++ m ∷ []) k 0 ≡ get_or xs k 0 = get_or-append xs (m ∷ []) 0 k first in
    ⊎_elim
    (λ (e : _ × (k + 1 ≡ length xs)).
    let right : get_or (xs ++ m ∷ []) (k + 1) 0 ≡ m = ap (λ n. get_or (xs ++ m ∷ []) n 0) e.1 ∙ get_or-append_seam xs m [] 0 in
    let small = low k 0 first in
    subst₂ (λ a b. a < b) (sym left) (sym right) small)
    (λ (e : _ × (k + 1 ≢ length xs)).
    let ne = e.1 in
    let second : k + 1 < length xs = grind arith in
    let right : get_or (xs ++ m ∷ []) (k + 1) 0 ≡ get_or xs (k + 1) 0 = get_or-append xs (m ∷ []) 0 (k + 1) second in
    subst₂ (λ a b. a < b) (sym left) (sym right) (h k second))
    (eqb_tells (k + 1) (length xs))

pub numbers_rise : (who : ℕ → ℕ) (w m : ℕ) → IsStrictlyIncreasing (numbers_of who w m)
numbers_rise who w zero = λ k lt. absurd (omega arith)
numbers_rise who w (suc m) = ⊎_elim
    (λ (c : _ × (who m ≡ w)). subst IsStrictlyIncreasing (sym (numbers_here who w m c.1)) (rises_more (numbers_of who w m) m (numbers_rise who w m) (numbers_below who w m)))
    (λ (c : _ × (who m ≢ w)). subst IsStrictlyIncreasing (sym (numbers_else who w m c.1)) (numbers_rise who w m))
    (eqb_tells (who m) w)

-- ---- how often a number stands among them

pub count_same : (x : ℕ) (xs : List ℕ) → count_of x (xs ++ x ∷ []) ≡ count_of x xs + 1
count_same x xs = sum_by_push _ xs x ∙ ap (λ n. count_of x xs + n) (ap (λ b. cond b 1 0) (eq-eqb x x refl))

pub count_other : (x y : ℕ) (xs : List ℕ) → y ≢ x → count_of x (xs ++ y ∷ []) ≡ count_of x xs
count_other x y xs ne = sum_by_push _ xs y ∙ ap (λ n. count_of x xs + n) (ap (λ b. cond b 1 0) (ne_eqb y x ne)) ∙ add-zero (count_of x xs)

pub none_of : (who : ℕ → ℕ) (w x m : ℕ) → (x < m → who x ≢ w) → count_of x (numbers_of who w m) ≡ 0
none_of who w x zero apart = refl
none_of who w x (suc m) apart =
    let was = none_of who w x m (λ lt. apart (omega arith)) in
    ⊎_elim
    (λ (c : _ × (who m ≡ w)). ap (count_of x) (numbers_here who w m c.1) ∙ count_other x m (numbers_of who w m) (λ e. apart (omega arith) (ap who (sym e) ∙ c.1)) ∙ was)
    (λ (c : _ × (who m ≢ w)). ap (count_of x) (numbers_else who w m c.1) ∙ was)
    (eqb_tells (who m) w)

pub one_of : (who : ℕ → ℕ) (w x m : ℕ) → x < m → who x ≡ w → count_of x (numbers_of who w m) ≡ 1
one_of who w x zero lt own = absurd (omega arith)
one_of who w x (suc m) lt own = ⊎_elim
    (λ (e : _ × (m ≡ x)).
    let none = none_of who w x m (λ low. absurd (let same = e.1 in omega arith)) in
    ap (count_of x) (numbers_here who w m (ap who e.1 ∙ own) ∙ ap (λ n. numbers_of who w m ++ n ∷ []) e.1) ∙ count_same x (numbers_of who w m) ∙ ap (λ n. n + 1) none)
    (λ (e : _ × (m ≢ x)).
    let ne = e.1 in
    let was = one_of who w x m (let g : x < m = grind arith in g) own in
    ⊎_elim
    (λ (c : _ × (who m ≡ w)). ap (count_of x) (numbers_here who w m c.1) ∙ count_other x m (numbers_of who w m) ne ∙ was)
    (λ (c : _ × (who m ≢ w)). ap (count_of x) (numbers_else who w m c.1) ∙ was)
    (eqb_tells (who m) w))
    (eqb_tells m x)
