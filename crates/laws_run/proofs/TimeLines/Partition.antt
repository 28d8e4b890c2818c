-- The lanes deal out the plan's changes.
use Rattle.std.proofs.Common.{◌≡◌, ◌≢◌, ℕ, zero, suc, ◌+◌, ◌<◌, ◌≤◌, Bool, true, false, List, [], ◌∷◌, All, cond, get_or, length, map, replicate, set, sum_by, sym, refl, ap, ◌∙◌, subst, ⊎_elim, arith, eq-eqb, ne_eqb, lt-ltb, le-ltb, leb, lt_of_not-le, nat_lt, if◌then◌else◌}
use Rattle.std.proofs.lemmas.Bool.{cases_lt}
use Rattle.std.proofs.lemmas.Bool.Decides.{eqb_tells}
use Rattle.std.proofs.lemmas.List.{length-replicate, length-set}
use Rattle.std.proofs.lemmas.List.Elements.{All-cons, All-get_or, All-nil, All-set, All-weaker}
use Rattle.std.proofs.lemmas.List.Sums.{sum_by-cons, sum_by-set}
use Rattle.std.specs.List.{list_all, range_with_len}
use Rattle.std.specs.List.Sorted.{IsStrictlyIncreasing}
use Rattle.apply_events.specs.Partition.{IsPartition, count_of, places}
use Rattle.apply_events.proofs.Dealing.{count_first, count_later}
use Rattle.apply_events.proofs.Parts.{one_list}
use Rattle.apply_events.specs.Step.{Work}
use Rattle.apply_events.specs.Lanes.Dealing.{before, dealt, first_least, occupied, lanes}
use Rattle.apply_events.proofs.TimeLines.Dealt.{length_dealt}

pub first_least_lt : (xs : List ℕ) → 0 < length xs → first_least xs < length xs
first_least_lt [] lt = absurd (omega arith)
first_least_lt (x ∷ []) lt = omega arith
first_least_lt (x ∷ y ∷ ys) lt =
    let rest = first_least_lt (y ∷ ys) (omega arith) in
    elim (list_all (leb x) (y ∷ ys)) as (λ b. cond b 0 (first_least (y ∷ ys) + 1) < length (x ∷ y ∷ ys)) [ true ↦ omega arith | false ↦ omega arith ]

-- ---- each list rises

abbrev pub Low : ℕ → List ℕ → Type 0
Low a [] = Unit {0}
Low a (x ∷ xs) = (a ≤ x) × Low (x + 1) xs

low_less : (a b : ℕ) (xs : List ℕ) → a ≤ b → Low b xs → Low a xs
low_less a b [] le h = tt
low_less a b (x ∷ xs) le h = ((let first = h.0 in omega arith), h.1)

low_rises : (a : ℕ) (xs : List ℕ) → Low a xs → IsStrictlyIncreasing xs
low_rises a [] h k lt = absurd (omega arith)
low_rises a (x ∷ []) h k lt = absurd (omega arith)
low_rises a (x ∷ y ∷ ys) h zero lt = let next = h.1.0 in omega arith
low_rises a (x ∷ y ∷ ys) h (suc k) lt =
    let e : suc (k + 1) ≡ suc k + 1 = omega arith in
    subst (λ n. get_or (y ∷ ys) k 0 < get_or (x ∷ y ∷ ys) n 0) e (low_rises (x + 1) (y ∷ ys) h.1 k (omega arith))

all_low : (a : ℕ) (free : List ℕ) → All (Low a) (map (λ (at : ℕ). []) free)
all_low a [] = All-nil (Low a)
all_low a (x ∷ free) = All-cons (Low a) [] (map (λ (at : ℕ). []) free) tt (all_low a free)

pub dealt_low : (work : Work) (free : List ℕ) (a k : ℕ) → 0 < length free → All (Low a) (dealt work free (range_with_len a k))
dealt_low work free a zero some = all_low a free
dealt_low work free a (suc k) some =
    let later = dealt work (occupied work a free) (range_with_len (a + 1) k) in
    let lane = first_least free in
    let size : length (occupied work a free) ≡ length free = length-set free lane _ in
    let count : length later ≡ length free = length_dealt work (occupied work a free) (range_with_len (a + 1) k) ∙ size in
    let inside = first_least_lt free some in
    let rest = dealt_low work (occupied work a free) (a + 1) k (omega arith) in
    All-set (Low a) later lane (a ∷ get_or later lane []) ((let le : a ≤ a = omega arith in le), All-get_or (Low (a + 1)) later lane [] (omega arith) rest)
    (All-weaker (Low (a + 1)) (Low a) (λ xs h. low_less a (a + 1) xs (omega arith) h) later rest)

-- ---- each change stands once

abbrev once : (x a k : ℕ) → ℕ
once x a k = count_of x (range_with_len a k)

count_before : (x c lane : ℕ) (lists : List (List ℕ)) → lane < length lists → places x (before lane c lists) ≡ count_of x (c ∷ []) + places x lists
count_before x c lane lists lt =
    let l = get_or lists lane [] in
    let sum : places x (set lists lane (c ∷ l)) + count_of x l ≡ places x lists + count_of x (c ∷ l) = sum_by-set (count_of x) lists lane (c ∷ l) [] lt in
    let more : count_of x (c ∷ l) ≡ count_of x (c ∷ []) + count_of x l = ⊎_elim
    (λ (d : _ × (c ≡ x)). let one = count_first x c l d.1 in let alone = count_first x c [] d.1 in let none : count_of x [] ≡ 0 = refl in omega arith)
    (λ (d : _ × (c ≢ x)). let one = count_later x c l d.1 in let alone = count_later x c [] d.1 in let none : count_of x [] ≡ 0 = refl in omega arith)
    (eqb_tells c x) in
    omega arith

no_places : (x : ℕ) (free : List ℕ) → places x (map (λ (at : ℕ). []) free) ≡ 0
no_places x [] = refl
no_places x (y ∷ free) = let both : places x (map (λ (at : ℕ). []) (y ∷ free)) ≡ count_of x [] + places x (map (λ (at : ℕ). []) free) = sum_by-cons (count_of x) [] (map (λ (at : ℕ). []) free) in let none : count_of x [] ≡ 0 = refl in let rest = no_places x free in omega arith

dealt_once : (work : Work) (free : List ℕ) (a k x : ℕ) → 0 < length free → places x (dealt work free (range_with_len a k)) ≡ once x a k
dealt_once work free a zero x some = no_places x free
dealt_once work free a (suc k) x some =
    let later = dealt work (occupied work a free) (range_with_len (a + 1) k) in
    let lane = first_least free in
    let size : length (occupied work a free) ≡ length free = length-set free lane _ in
    let count : length later ≡ length free = length_dealt work (occupied work a free) (range_with_len (a + 1) k) ∙ size in
    let inside = first_least_lt free some in
    let rest = dealt_once work (occupied work a free) (a + 1) k x (omega arith) in
    let now = count_before x a lane later (omega arith) in
    let both : once x a (suc k) ≡ count_of x (a ∷ []) + once x (a + 1) k = sum_by-cons (λ other. cond (Rattle.std.proofs.Common.nat_eq other x) 1 0) a (range_with_len (a + 1) k) ∙ omega arith in
    omega arith

none_in : (x a k : ℕ) → x < a → once x a k ≡ 0
none_in x a zero lt = refl
none_in x a (suc k) lt = count_later x a (range_with_len (a + 1) k) (λ is. omega arith) ∙ none_in x (a + 1) k (omega arith)

none_over : (x a k : ℕ) → a + k ≤ x → once x a k ≡ 0
none_over x a zero le = refl
none_over x a (suc k) le = count_later x a (range_with_len (a + 1) k) (λ is. omega arith) ∙ none_over x (a + 1) k (omega arith)

one_in : (x a k : ℕ) → a ≤ x → x < a + k → once x a k ≡ 1
one_in x a zero low high = absurd (omega arith)
one_in x a (suc k) low high = ⊎_elim
    (λ (c : _ × (a ≡ x)). let rest = none_in x (a + 1) k (let is = c.1 in omega arith) in count_first x a (range_with_len (a + 1) k) c.1 ∙ ap (λ n. 1 + n) rest)
    (λ (c : _ × (a ≢ x)). let ne = c.1 in let above : a < x = lt_of_not-le (λ le. ne (omega arith)) in count_later x a (range_with_len (a + 1) k) ne ∙ one_in x (a + 1) k (omega arith) (omega arith))
    (eqb_tells a x)

pub is_partition : (work : Work) (n : ℕ) → 0 < n → IsPartition n (length work.plan.changes) (lanes work n)
is_partition work n some =
    let free : List ℕ = replicate n 0 in
    let size : length free ≡ n = length-replicate n 0 in
    let m = length work.plan.changes in
    record {
      count = length_dealt work free (range_with_len 0 m) ∙ size;
      rising = All-weaker (Low 0) IsStrictlyIncreasing (low_rises 0) (lanes work n) (dealt_low work free 0 m (omega arith));
      once = λ x. dealt_once work free 0 m x (omega arith) ∙ ⊎_elim
          (λ (lt : x < m). one_in x 0 m (omega arith) (omega arith) ∙ sym (ap (λ b. if b then 1 else 0) (lt-ltb x m lt)))
          (λ (le : m ≤ x). none_over x 0 m (omega arith) ∙ sym (ap (λ b. if b then 1 else 0) (le-ltb x m le)))
          (cases_lt x m);
    }

-- one lane has all changes in order
pub one_lane : (work : Work) → get_or (lanes work 1) 0 [] ≡ range_with_len 0 (length work.plan.changes)
one_lane work = ap (λ l. get_or l 0 []) (one_list (length work.plan.changes) (lanes work 1) (is_partition work 1 (omega arith)))
