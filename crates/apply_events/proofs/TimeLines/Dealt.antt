-- The lane that is free first, and how many lists are dealt out.
use Rattle.std.proofs.Common.{◌≡◌, ℕ, zero, suc, ◌+◌, ◌<◌, ◌≤◌, true, false, List, [], ◌∷◌, cond, get_or, length, refl, ap, ◌∙◌, arith, leb}
use Rattle.std.proofs.lemmas.Bool.{le-leb, lt-leb, and_from, and_left, and_right}
use Rattle.std.proofs.lemmas.List.{length-map, length-set}
use Rattle.std.specs.List.{list_all}
use Rattle.apply_events.specs.Step.{Work}
use Rattle.apply_events.specs.Lanes.Dealing.{dealt, first_least, occupied}

all_no_less : (x : ℕ) (xs : List ℕ) → ((k : ℕ) → k < length xs → x ≤ get_or xs k 0) → list_all (leb x) xs ≡ true
all_no_less x [] h = refl
all_no_less x (y ∷ ys) h = and_from (leb x y) (list_all (leb x) ys) (le-leb x y (h 0 (omega arith))) (all_no_less x ys (λ k lt. h (suc k) (omega arith)))

one_less : (x : ℕ) (xs : List ℕ) (k : ℕ) → k < length xs → get_or xs k 0 < x → list_all (leb x) xs ≡ false
one_less x [] k lt less = absurd (omega arith)
one_less x (y ∷ ys) zero lt less = and_left (leb x y) (list_all (leb x) ys) (lt-leb x y less)
one_less x (y ∷ ys) (suc k) lt less = and_right (leb x y) (list_all (leb x) ys) (one_less x ys k (omega arith) less)

-- none is less than the one at w, and those before it are greater
pub least_is : (xs : List ℕ) (w : ℕ) → w < length xs → ((k : ℕ) → k < length xs → get_or xs w 0 ≤ get_or xs k 0) → ((k : ℕ) → k < w → get_or xs w 0 < get_or xs k 0) → first_least xs ≡ w
least_is [] w lt low first = absurd (omega arith)
least_is (x ∷ xs) zero lt low first = ap (λ b. cond b 0 (first_least xs + 1)) (all_no_less x xs (λ k less. low (suc k) (omega arith)))
least_is (x ∷ xs) (suc w) lt low first =
    let rest = least_is xs w (omega arith) (λ k less. low (suc k) (omega arith)) (λ k less. first (suc k) (omega arith)) in
    ap (λ b. cond b 0 (first_least xs + 1)) (one_less x xs w (omega arith) (first 0 (omega arith))) ∙ omega arith

pub length_dealt : (work : Work) (free : List ℕ) (changes : List ℕ) → length (dealt work free changes) ≡ length free
length_dealt work free [] = length-map free (λ at. [])
length_dealt work free (c ∷ changes) =
    length-set (dealt work (occupied work c free) changes) (first_least free) (c ∷ get_or (dealt work (occupied work c free) changes) (first_least free) [])
    ∙ length_dealt work (occupied work c free) changes
    ∙ length-set free (first_least free) _
