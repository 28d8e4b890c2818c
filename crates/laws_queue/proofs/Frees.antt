-- Changes that lanes take up one after another: a change that is taken up later begins no earlier,
-- and in a lower lane it begins later.
use Rattle.std.proofs.Common.{◌≡◌, ◌∙◌, ◌+◌, ◌-◌, ◌<◌, ◌≤◌, ℕ, zero, suc, List, [], ◌∷◌, Bool, true, false, ◌&&◌, cond, get_or, length, leb, set, sym, ap, arith, subst, ⊎_elim}
use Rattle.std.specs.List.{list_all}
use Rattle.std.proofs.lemmas.Bool.{and_parts, cases_Bool, cases_eq, cases_lt, le-leb, leb-true, true≢false}
use Rattle.std.proofs.lemmas.List.{get_or-set_other, get_or-set_same, length-replicate, length-set}
use Rattle.apply_events.specs.ChangeEvents.{span_of}
use Rattle.apply_events.specs.Lanes.Dealing.{first_least}
use Rattle.apply_events.specs.Step.{Work}
use Rattle.laws_queue.specs.Dealing.{change_begin, free_after, lane_of}

-- ---- the first of the least numbers

pub first_least_lt : (xs : List ℕ) → 0 < length xs → first_least xs < length xs
first_least_lt [] lt = absurd (omega arith)
first_least_lt (x ∷ []) lt = omega arith
first_least_lt (x ∷ y ∷ ys) lt =
    let rest = first_least_lt (y ∷ ys) (omega arith) in
    elim (list_all (leb x) (y ∷ ys)) as (λ b. cond b 0 (first_least (y ∷ ys) + 1) < length (x ∷ y ∷ ys)) [ true ↦ omega arith | false ↦ omega arith ]

all_at : (x : ℕ) (xs : List ℕ) (k : ℕ) → list_all (leb x) xs ≡ true → k < length xs → x ≤ get_or xs k 0
all_at x [] k all lt = absurd (omega arith)
all_at x (y ∷ ys) zero all lt = leb-true x y (and_parts (leb x y) (list_all (leb x) ys) all).0
all_at x (y ∷ ys) (suc k) all lt = all_at x ys k (and_parts (leb x y) (list_all (leb x) ys) all).1 (omega arith)

first_when : (x : ℕ) (xs : List ℕ) (b : Bool) → list_all (leb x) xs ≡ b → first_least (x ∷ xs) ≡ cond b 0 (first_least xs + 1)
first_when x xs b is = ap (λ c. cond c 0 (first_least xs + 1)) is

some_less : (x : ℕ) (xs : List ℕ) → list_all (leb x) xs ≡ false → (k : ℕ) × (k < length xs) × (get_or xs k 0 < x)
some_less x [] some = absurd (true≢false some)
some_less x (y ∷ ys) some = ⊎_elim
    (λ (less : y < x). (0, omega arith, less))
    (λ (le : x ≤ y).
    let rest : list_all (leb x) ys ≡ false = sym (ap (λ b. b && list_all (leb x) ys) (le-leb x y le)) ∙ some in
    let located = some_less x ys rest in let inside = located.1 in
    (suc located.0, omega arith, located.2))
    (cases_lt y x)

abbrev pub IsLeast : List ℕ → ℕ → Type 0
IsLeast xs n = (k : ℕ) → k < length xs → (get_or xs n 0 ≤ get_or xs k 0) × (k < n → get_or xs n 0 < get_or xs k 0)

least_here : (x : ℕ) (xs : List ℕ) → list_all (leb x) xs ≡ true → IsLeast (x ∷ xs) 0
least_here x xs all zero lt = (omega arith, λ no. absurd (omega arith))
least_here x xs all (suc k) lt = (all_at x xs k all (omega arith), λ no. absurd (omega arith))

least_later : (x : ℕ) (xs : List ℕ) → list_all (leb x) xs ≡ false → IsLeast xs (first_least xs) → IsLeast (x ∷ xs) (suc (first_least xs))
least_later x xs some low zero lt =
    let located = some_less x xs some in let less = located.2 in let le = (low located.0 located.1).0 in
    (omega arith, λ _. omega arith)
least_later x xs some low (suc k) lt = let rest = low k (omega arith) in (rest.0, λ less. rest.1 (omega arith))

pub least_of : (xs : List ℕ) → IsLeast xs (first_least xs)
least_of [] = λ k lt. absurd (omega arith)
least_of (x ∷ xs) = ⊎_elim
    (λ (all : list_all (leb x) xs ≡ true). subst (IsLeast (x ∷ xs)) (sym (first_when x xs true all)) (least_here x xs all))
    (λ (some : list_all (leb x) xs ≡ false).
    let is : first_least (x ∷ xs) ≡ suc (first_least xs) = first_when x xs false some ∙ omega arith in
    subst (IsLeast (x ∷ xs)) (sym is) (least_later x xs some (least_of xs)))
    (cases_Bool (list_all (leb x) xs))

-- ---- lanes that are free no earlier than a lane

-- No lane is free before that second, and each lower lane is free later.
abbrev pub IsAbove : (second lane : ℕ) → List ℕ → Type 0
IsAbove second lane free = (x : ℕ) → x < length free → (second ≤ get_or free x 0) × (x < lane → second < get_or free x 0)

module _ (work : Work) (n : ℕ) (some : 0 < n) where
  pub length-free : (c : ℕ) → length (free_after work n c) ≡ n
  length-free zero = length-replicate n 0
  length-free (suc c) = length-set (free_after work n c) (lane_of work n c) (change_begin work n c + span_of work c) ∙ length-free c

  pub lane_inside : (c : ℕ) → lane_of work n c < length (free_after work n c)
  lane_inside c = let size = length-free c in first_least_lt (free_after work n c) (omega arith)

  above_next : (second lane c : ℕ) → IsAbove second lane (free_after work n c) → IsAbove second lane (free_after work n (suc c))
  above_next second lane c above x lt =
      let free = free_after work n c in
      let l = lane_of work n c in
      let end = change_begin work n c + span_of work c in
      let size = length-set free l end in ⊎_elim
      (λ (same : x ≡ l).
      let here : get_or (set free l end) x 0 ≡ end = ap (λ y. get_or (set free l end) y 0) same ∙ get_or-set_same free l end 0 (lane_inside c) in
      let low = above l (lane_inside c) in
      let le = low.0 in (omega arith, λ less. (let lt' = low.1 (omega arith) in omega arith)))
      (λ (other : x ≡ l → ⊥).
      let there = get_or-set_other free l x end 0 other in
      let low = above x (omega arith) in
      let le = low.0 in (omega arith, λ less. (let lt' = low.1 less in omega arith)))
      (cases_eq x l)

  above_then : (second lane c more : ℕ) → IsAbove second lane (free_after work n c) → IsAbove second lane (free_after work n (more + c))
  above_then second lane c zero above = subst (λ k. IsAbove second lane (free_after work n k)) (let same : c ≡ zero + c = omega arith in same) above
  above_then second lane c (suc more) above =
      let next : suc (more + c) ≡ suc more + c = omega arith in
      subst (λ k. IsAbove second lane (free_after work n k)) next (above_next second lane (more + c) (above_then second lane c more above))

  -- a change that is taken up later
  pub later_begin : (c d : ℕ) → c ≤ d → (change_begin work n c ≤ change_begin work n d) × (lane_of work n d < lane_of work n c → change_begin work n c < change_begin work n d)
  later_begin c d le =
      let same : d - c + c ≡ d = omega arith in
      let above = above_then (change_begin work n c) (lane_of work n c) c (d - c) (least_of (free_after work n c)) in
      subst (λ k. IsAbove (change_begin work n c) (lane_of work n c) (free_after work n k)) same above (lane_of work n d) (lane_inside d)
