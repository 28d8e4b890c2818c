-- Places in the order in which their steps began.
use Rattle.std.proofs.Common.{◌≡◌, ℕ, ◌+◌, ◌<◌, ◌≤◌, ℤ, pos, List, [], ◌∷◌, ◌++◌, Bool, true, false, cond, eqb, length, get_or, map, refl, sym, ap, ap₂, ◌∙◌, subst, ⊎_elim, arith, All, AllPairs, IsPermutation, count_by, suc, zero, take, Ordering}
use Rattle.std.specs.Prelude.{int_lt}
use Rattle.std.specs.Cmp.{IsTotalOrder}
use Rattle.std.specs.List.Sorted.{IsSorted}
use Rattle.std.specs.Ordering.{int_cmp, is_lt, nat_cmp, ordering_then}
use Rattle.std.proofs.lemmas.Bool.{cases_Bool}
use Rattle.std.proofs.lemmas.Bool.Decides.{nat_tests}
use Rattle.std.proofs.lemmas.Cmp.{int_cmp_total, nat_cmp_total, on_total, then_total, tied_itself}
use Rattle.std.proofs.lemmas.List.{get_or-map, get_or_read, length-map, map_more}
use Rattle.std.proofs.lemmas.List.Elements.{All-take}
use Rattle.std.proofs.lemmas.List.Sorted.{All-permutation, ranks_by, sorted_far, sum_by-IsPermutation}
use Rattle.std.proofs.lemmas.List.Sums.{sum_by-cons}
use Rattle.stream_timeline.specs.declared.rows.choosing.Candidate.{Candidate}
use Rattle.stream_timeline.specs.declared.reading.time_range.TimeRange.{TimeRange}
use Rattle.stream_timeline.specs.Rows.{IsPrintedBefore, candidates_from, candidates_of}
use Rattle.stream_timeline.specs.Steps.{StepRead}
use Rattle.stream_timeline.proofs.Ranking.{is_at}

-- when the step at a place began, and the place
abbrev pub begin_at : List StepRead → StepRead → ℕ → ℤ × ℕ
begin_at steps d place = ((get_or steps place d).begin, place)

abbrev pub order : ℤ × ℕ → ℤ × ℕ → Ordering
order x y = ordering_then (int_cmp x.0 y.0) (nat_cmp x.1 y.1)

order_total : IsTotalOrder order
order_total = then_total (on_total (λ (x : ℤ × ℕ). x.0) int_cmp_total) (on_total (λ (x : ℤ × ℕ). x.1) nat_cmp_total)

-- ---- the order of two

begins_no_later : (a b : ℤ) (o : Ordering) → is_lt (ordering_then (int_cmp a b) o) ≡ false → int_lt a b ≡ false
begins_no_later a b o out =
    ⊎_elim
    (λ (less : int_lt a b ≡ true). let bad : true ≡ false = rw less at out in absurd cc)
    (λ (not_less : int_lt a b ≡ false). not_less)
    (cases_Bool (int_lt a b))

place_no_later : (a : ℤ) (p q : ℕ) → is_lt (ordering_then (int_cmp a a) (nat_cmp p q)) ≡ false → q ≤ p
place_no_later a p q out =
    let h : is_lt (nat_cmp p q) ≡ false = rw (tied_itself int_cmp_total a) at out in
    grind (arith, nat_tests)

in_order : (steps : List StepRead) (x y : ℤ × ℕ) → ((d : StepRead) → x.0 ≡ (get_or steps x.1 d).begin) → ((d : StepRead) → y.0 ≡ (get_or steps y.1 d).begin)
    → is_lt (order y x) ≡ false → IsPrintedBefore steps x.1 y.1
in_order steps x y at_x at_y out = record {
  begins = λ d. rw (← at_x d, ← at_y d) (begins_no_later y.0 x.0 (nat_cmp y.1 x.1) out);
  at_once = λ d same.
      let tied : y.0 ≡ x.0 = at_y d ∙ (sym same ∙ sym (at_x d)) in
      place_no_later x.0 y.1 x.1 (subst (λ (z : ℤ). is_lt (ordering_then (int_cmp z x.0) (nat_cmp y.1 x.1)) ≡ false) tied out);
}

-- ---- all of them

abbrev AreBegins : List StepRead → List (ℤ × ℕ) → Type 0
AreBegins steps bs = (d : StepRead) → All (λ (b : ℤ × ℕ). b.0 ≡ (get_or steps b.1 d).begin) bs

begins_made : (steps : List StepRead) (d : StepRead) (cs : List Candidate) (k : ℕ) (e : ℤ × ℕ) → k < length (map (λ (c : Candidate). begin_at steps d c.place) cs)
    → (get_or (map (λ (c : Candidate). begin_at steps d c.place) cs) k e).0 ≡ (get_or steps (get_or (map (λ (c : Candidate). begin_at steps d c.place) cs) k e).1 d).begin
begins_made steps d [] k e l = absurd (omega arith)
begins_made steps d (c ∷ cs) zero e l = refl
begins_made steps d (c ∷ cs) (suc k) e l = begins_made steps d cs k e (omega arith)

pub printed : (steps : List StepRead) (cs : List Candidate) (bs es : List (ℤ × ℕ)) → ((d : StepRead) → bs ≡ map (λ (c : Candidate). begin_at steps d c.place) cs)
    → IsPermutation bs es → IsSorted order es → AllPairs (IsPrintedBefore steps) (map (λ (b : ℤ × ℕ). b.1) es)
printed steps cs bs es made perm sorted = λ i j e l k.
    let known : AreBegins steps es =
    λ d. All-permutation (λ (b : ℤ × ℕ). b.0 ≡ (get_or steps b.1 d).begin) bs es perm
    (subst (λ (xs : List (ℤ × ℕ)). All (λ (b : ℤ × ℕ). b.0 ≡ (get_or steps b.1 d).begin) xs) (sym (made d)) (begins_made steps d cs)) in
    let none : ℤ × ℕ = (pos 0, 0) in
    let within : j < length es = omega (arith, length-map es (λ (b : ℤ × ℕ). b.1)) in
    let later = sorted_far (λ (x y : ℤ × ℕ). is_lt (order x y)) (ranks_by order_total (λ (x : ℤ × ℕ). x)) es sorted i j none (omega arith) within in
    rw (get_or-map (λ (b : ℤ × ℕ). b.1) es i none e (omega (arith, within)), get_or-map (λ (b : ℤ × ℕ). b.1) es j none e within)
    (in_order steps (get_or es i none) (get_or es j none) (λ d. known d i none (omega (arith, within))) (λ d. known d j none within) later)

-- ---- how often a place stands among them

count_map : {X Y : Type 0} (p : Y → Bool) (f : X → Y) (xs : List X) → count_by p (map f xs) ≡ count_by (λ x. p (f x)) xs
count_map p f [] = refl
count_map p f (x ∷ xs) =
    sum_by-cons (λ y. cond (p y) 1 0) (f x) (map f xs)
    ∙ (ap (λ n. cond (p (f x)) 1 0 + n) (count_map p f xs) ∙ sym (sum_by-cons (λ y. cond (p (f y)) 1 0) x xs))

pub shown_are : (steps : List StepRead) (d : StepRead) (cs : List Candidate) (bs es : List (ℤ × ℕ)) (p : ℕ) → bs ≡ map (λ (c : Candidate). begin_at steps d c.place) cs
    → IsPermutation bs es → count_by (λ place. eqb place p) (map (λ (b : ℤ × ℕ). b.1) es) ≡ count_by (is_at p) cs
shown_are steps d cs bs es p made perm =
    count_map (λ place. eqb place p) (λ (b : ℤ × ℕ). b.1) es
    ∙ (sum_by-IsPermutation (λ (b : ℤ × ℕ). cond (eqb b.1 p) 1 0) bs es perm
    ∙ (ap (λ xs. count_by (λ (b : ℤ × ℕ). eqb b.1 p) xs) made ∙ count_map (λ (b : ℤ × ℕ). eqb b.1 p) (λ (c : Candidate). begin_at steps d c.place) cs))

-- ---- the places of candidates are those of steps

places_below : (m : TimeRange) (n most : ℕ) (steps : List StepRead) → n + length steps ≤ most → (k : ℕ) (d : Candidate) → k < length (candidates_from m n steps) → (get_or (candidates_from m n steps) k d).place < most
places_below m n most [] l k d h = absurd (omega arith)
places_below m n most (s ∷ ss) l zero d h = omega arith
places_below m n most (s ∷ ss) l (suc k) d h = places_below m (n + 1) most ss (omega arith) k d (omega arith)

pub front_below : (m : TimeRange) (steps : List StepRead) (xs : List Candidate) (n : ℕ) → IsPermutation (candidates_of m steps) xs
    → All (λ (c : Candidate). c.place < length steps) (take n xs)
front_below m steps xs n perm =
    All-take (λ (c : Candidate). c.place < length steps) n xs
    (All-permutation (λ (c : Candidate). c.place < length steps) (candidates_of m steps) xs perm (places_below m 0 (length steps) steps (omega arith)))

-- ---- one begin more

pub begins_pushed : (steps : List StepRead) (d : StepRead) (cs : List Candidate) (i : ℕ) (e : Candidate) (bs new : List (ℤ × ℕ)) (x : StepRead) (begin : ℤ) → i < length cs
    → (get_or cs i e).place < length steps → x ≡ get_or steps (get_or cs i e).place x → begin ≡ x.begin
    → bs ≡ map (λ (c : Candidate). begin_at steps d c.place) (take i cs) → new ≡ bs ++ (begin, (get_or cs i e).place) ∷ []
    → new ≡ map (λ (c : Candidate). begin_at steps d c.place) (take (i + 1) cs)
begins_pushed steps d cs i e bs new x begin l within is at before more =
    let p = (get_or cs i e).place in
    let same : begin ≡ (get_or steps p d).begin = at ∙ ap (λ (s : StepRead). s.begin) (get_or_read steps p x within is d) in
    let pair : ℤ → ℤ × ℕ = λ b. (b, p) in
    more ∙ (ap₂ (λ (xs : List (ℤ × ℕ)) (b : ℤ). xs ++ pair b ∷ []) before same ∙ sym (map_more (λ (c : Candidate). begin_at steps d c.place) cs i e l))
