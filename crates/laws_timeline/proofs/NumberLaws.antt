-- Laws of the numbers.
use Rattle.std.proofs.Common.{◌≡◌, ℕ, ◌+◌, ◌-◌, ◌*◌, ◌<◌, ◌≤◌, List, [], ◌∷◌, Bool, true, false, cond, eqb, leb, ltb, length, Option, Some, None, suc, zero, refl, sym, ap, ap₂, ◌∙◌, ⊎_elim, arith, All}
use Rattle.std.specs.Prelude.{◌&&◌, ◌||◌}
use Rattle.std.specs.List.{AllByRecursion, count_by, filter, sum_by}
use Rattle.std.specs.Option.{option_map_or}
use Rattle.std.proofs.lemmas.Bool.{cases_Bool, cases_order, eq-eqb, eqb-true, le-leb, lt-leb, lt-ltb, le-ltb, ltb-true, ltb-false, ne_eqb, or_cases}
use Rattle.std.proofs.lemmas.List.Elements.{recursion_from_All}
use Rattle.std.proofs.lemmas.List.Sums.{length-filter, sum_by-cons}
use Rattle.std.proofs.Math.Nat.{add-mul, mul_comm, mul-add, mul-le-mul_left, suc-mul}
use Rattle.stream_timeline.specs.declared.numbers.interval.Interval.{Interval}
use Rattle.stream_timeline.specs.declared.numbers.stretch.Stretch.{Stretch}
use Rattle.stream_timeline.specs.Numbers.{alone_below, busy_in, interval_length, is_alone, peak_in, stretch_length, work_of}
use Rattle.stream_timeline.specs.Stretches.{IsOrdered, cuts, is_under_way, only_place, stretch_of, stretches_between, stretches_of}
use Rattle.stream_timeline.proofs.Cuts.{Above, Ascends, cuts_ascend, has, has_cuts}

-- ---- sums between neighbours

abbrev between_from : (ℕ → ℕ → ℕ) → ℕ → List ℕ → ℕ
between_from f a [] = 0
between_from f a (b ∷ cs) = f a b + between_from f b cs

-- of an interval, how much of the stretch from a to b
abbrev part : Interval → ℕ → ℕ → ℕ
part i a b = cond (leb i.begin a && leb b i.end) (b - a) 0

sums_to : (g : Stretch → ℕ) (is : List Interval) (a : ℕ) (cs : List ℕ)
    → sum_by g (stretches_between is (a ∷ cs)) ≡ between_from (λ x y. g (stretch_of is x y)) a cs
sums_to g is a [] = refl
sums_to g is a (b ∷ cs) =
    sum_by-cons g (stretch_of is a b) (stretches_between is (b ∷ cs)) ∙ ap (λ n. g (stretch_of is a b) + n) (sums_to g is b cs)

no_part : (x y : Bool) (n : ℕ) → y ≡ false → cond (x && y) n 0 ≡ 0
no_part true y n e = rw e refl
no_part false y n e = refl

-- after the end of an interval nothing of it is left
none_left : (i : Interval) (a : ℕ) (cs : List ℕ) → Ascends (a ∷ cs) → i.end ≤ a → between_from (part i) a cs ≡ 0
none_left i a [] up l = refl
none_left i a (b ∷ cs) up l =
    let less : a < b = up.0.0 in
    let rest = none_left i b cs up.1 (omega arith) in
    let late : leb b i.end ≡ false = lt-leb b i.end (omega arith) in
    let here : part i a b ≡ 0 = no_part (leb i.begin a) (leb b i.end) (b - a) late in
    omega (arith, here, rest)

has_at_least : (m a : ℕ) (cs : List ℕ) → Above a cs → has m cs ≡ true → a < m
has_at_least m a [] h e = absurd cc
has_at_least m a (c ∷ cs) h e =
    ⊎_elim
    (λ (yes : eqb m c ≡ true). let same : m ≡ c = eqb-true m c yes in let less : a < c = h.0 in omega arith)
    (λ (there : has m cs ≡ true). has_at_least m a cs h.1 there)
    (or_cases (eqb m c) (has m cs) e)

at_or_after : (m b : ℕ) (cs : List ℕ) → Above b cs → has m (b ∷ cs) ≡ true → b ≤ m
at_or_after m b cs h e =
    ⊎_elim
    (λ (yes : eqb m b ≡ true). let same : m ≡ b = eqb-true m b yes in omega arith)
    (λ (there : has m cs ≡ true). let more = has_at_least m b cs h there in omega (arith, more))
    (or_cases (eqb m b) (has m cs) e)

-- from a time on at which the interval runs
left_from : (i : Interval) (a : ℕ) (cs : List ℕ) → Ascends (a ∷ cs) → i.begin ≤ a → has i.end (a ∷ cs) ≡ true → between_from (part i) a cs ≡ i.end - a
left_from i a [] up l e =
    ⊎_elim
    (λ (yes : eqb i.end a ≡ true). let same : i.end ≡ a = eqb-true i.end a yes in omega arith)
    (λ (there : has i.end [] ≡ true). absurd cc)
    (or_cases (eqb i.end a) false e)
left_from i a (b ∷ cs) up l e =
    let less : a < b = up.0.0 in
    ⊎_elim
    (λ (yes : eqb i.end a ≡ true).
    let same : i.end ≡ a = eqb-true i.end a yes in
    let none = none_left i a (b ∷ cs) up (omega arith) in
    omega (arith, none))
    (λ (there : has i.end (b ∷ cs) ≡ true).
    let rest = left_from i b cs up.1 (omega arith) there in
    let on : b ≤ i.end = at_or_after i.end b cs up.1.0 there in
    let here : part i a b ≡ b - a = rw (le-leb i.begin a l, le-leb b i.end on) refl in
    omega (arith, here, rest))
    (or_cases (eqb i.end a) (has i.end (b ∷ cs)) e)

not_first : (m a c : ℕ) (cs : List ℕ) → a < m → has m (a ∷ (c ∷ cs)) ≡ true → has m (c ∷ cs) ≡ true
not_first m a c cs l e =
    ⊎_elim
    (λ (yes : eqb m a ≡ true). let same : m ≡ a = eqb-true m a yes in absurd (omega arith))
    (λ (there : has m (c ∷ cs) ≡ true). there)
    (or_cases (eqb m a) (has m (c ∷ cs)) e)

-- all of it
whole : (i : Interval) (a : ℕ) (cs : List ℕ) → Ascends (a ∷ cs) → i.begin ≤ i.end → has i.begin (a ∷ cs) ≡ true → has i.end (a ∷ cs) ≡ true
    → between_from (part i) a cs ≡ i.end - i.begin
whole i a [] up o b e =
    ⊎_elim
    (λ (yes : eqb i.begin a ≡ true). let same : i.begin ≡ a = eqb-true i.begin a yes in left_from i a [] up (omega arith) e ∙ ap (λ n. i.end - n) (sym same))
    (λ (there : has i.begin [] ≡ true). absurd cc)
    (or_cases (eqb i.begin a) false b)
whole i a (c ∷ cs) up o b e =
    ⊎_elim
    (λ (yes : eqb i.begin a ≡ true). let same : i.begin ≡ a = eqb-true i.begin a yes in left_from i a (c ∷ cs) up (omega arith) e ∙ ap (λ n. i.end - n) (sym same))
    (λ (there : has i.begin (c ∷ cs) ≡ true).
    let less : a < c = up.0.0 in
    let on : c ≤ i.begin = at_or_after i.begin c cs up.1.0 there in
    let ends : has i.end (c ∷ cs) ≡ true = not_first i.end a c cs (omega arith) e in
    let rest = whole i c cs up.1 o there ends in
    let here : part i a c ≡ 0 = rw (lt-leb i.begin a (omega arith)) refl in
    omega (arith, here, rest))
    (or_cases (eqb i.begin a) (has i.begin (c ∷ cs)) b)

-- ---- sums over intervals of sums between neighbours

zeros : (js : List Interval) → sum_by (λ (i : Interval). 0) js ≡ 0
zeros [] = refl
zeros (j ∷ js) = sum_by-cons (λ (i : Interval). 0) j js ∙ (rw (zeros js) refl)

sum_plus : (f g : Interval → ℕ) (js : List Interval) → sum_by (λ i. f i + g i) js ≡ sum_by f js + sum_by g js
sum_plus f g [] = refl
sum_plus f g (j ∷ js) =
    let all = sum_plus f g js in
    omega (arith, all, sum_by-cons (λ i. f i + g i) j js, sum_by-cons f j js, sum_by-cons g j js)

swapped : (js : List Interval) (a : ℕ) (cs : List ℕ)
    → between_from (λ x y. sum_by (λ i. part i x y) js) a cs ≡ sum_by (λ i. between_from (part i) a cs) js
swapped js a [] = sym (zeros js)
swapped js a (b ∷ cs) =
    ap (λ n. sum_by (λ i. part i a b) js + n) (swapped js b cs) ∙ sym (sum_plus (λ i. part i a b) (λ i. between_from (part i) b cs) js)

zero_plus : (n : ℕ) → n ≡ 0 + n
zero_plus n = omega arith

suc_times : (n d : ℕ) → (1 + n) * d ≡ d + n * d
suc_times n d = add-mul 1 n d ∙ (let one : 1 * d ≡ d = omega arith in ap (λ m. m + n * d) one)

one_part : (x : Bool) (n d : ℕ) → cond x d 0 + n * d ≡ (cond x 1 0 + n) * d
one_part true n d = sym (suc_times n d)
one_part false n d = (let e : 0 + n * d ≡ n * d = omega arith in e ∙ ap (λ m. m * d) (zero_plus n))

zero_times : (n : ℕ) → 0 * n ≡ 0
zero_times n = omega arith

parts : (js : List Interval) (a b : ℕ) → sum_by (λ i. part i a b) js ≡ count_by (is_under_way a b) js * (b - a)
parts [] a b = sym (zero_times (b - a))
parts (j ∷ js) a b =
    sum_by-cons (λ i. part i a b) j js
    ∙ (ap (λ n. part j a b + n) (parts js a b)
    ∙ (one_part (is_under_way a b j) (count_by (is_under_way a b) js) (b - a)
    ∙ ap (λ n. n * (b - a)) (sym (sum_by-cons (λ (i : Interval). cond (is_under_way a b i) 1 0) j js))))

same_between : (f g : ℕ → ℕ → ℕ) → ((x y : ℕ) → f x y ≡ g x y) → (a : ℕ) (cs : List ℕ) → between_from f a cs ≡ between_from g a cs
same_between f g same a [] = refl
same_between f g same a (b ∷ cs) = ap₂ (λ m n. m + n) (same a b) (same_between f g same b cs)

abbrev weighed_length : Stretch → ℕ
weighed_length s = s.number * stretch_length s

-- ---- the work

-- each interval's begin and end are among the cuts
abbrev IsCut : List ℕ → Interval → Type 0
IsCut cs i = (has i.begin cs ≡ true) × (has i.end cs ≡ true)

or_left : (a b : Bool) → a ≡ true → (a || b) ≡ true
or_left a b e = rw e refl

or_right : (a b : Bool) → b ≡ true → (a || b) ≡ true
or_right true b e = refl
or_right false b e = e

one_more_cut : (m : ℕ) (i : Interval) (is : List Interval) → has m (cuts is) ≡ true → has m (cuts (i ∷ is)) ≡ true
one_more_cut m i is e = has_cuts m i is ∙ or_right (eqb m i.begin) _ (or_right (eqb m i.end) (has m (cuts is)) e)

more_cuts : (i : Interval) (is js : List Interval) → AllByRecursion (IsCut (cuts is)) js → AllByRecursion (IsCut (cuts (i ∷ is))) js
more_cuts i is [] h = tt
more_cuts i is (j ∷ js) h = ((one_more_cut j.begin i is h.0.0, one_more_cut j.end i is h.0.1), more_cuts i is js h.1)

are_cuts : (is : List Interval) → AllByRecursion (IsCut (cuts is)) is
are_cuts [] = tt
are_cuts (i ∷ is) = (
  (
    has_cuts i.begin i is ∙ or_left (eqb i.begin i.begin) _ (eq-eqb i.begin i.begin refl),
    has_cuts i.end i is ∙ or_right (eqb i.end i.begin) _ (or_left (eqb i.end i.end) _ (eq-eqb i.end i.end refl)),
  ),
  more_cuts i is is (are_cuts is),
)

wholes : (js : List Interval) (a : ℕ) (cs : List ℕ) → Ascends (a ∷ cs) → AllByRecursion IsOrdered js → AllByRecursion (IsCut (a ∷ cs)) js
    → sum_by (λ i. between_from (part i) a cs) js ≡ work_of js
wholes [] a cs up o h = refl
wholes (j ∷ js) a cs up o h =
    let here = whole j a cs up o.0 h.0.0 h.0.1 in
    let rest = wholes js a cs up o.1 h.1 in
    omega (arith, here, rest, sum_by-cons (λ i. between_from (part i) a cs) j js, sum_by-cons interval_length j js)

work_between : (is : List Interval) (cs : List ℕ) → Ascends cs → AllByRecursion IsOrdered is → AllByRecursion (IsCut cs) is
    → sum_by weighed_length (stretches_between is cs) ≡ work_of is
work_between [] [] up o h = refl
work_between (i ∷ is) [] up o h = let bad : false ≡ true = h.0.0 in absurd cc
work_between is (a ∷ cs) up o h =
    sums_to weighed_length is a cs
    ∙ (same_between (λ x y. weighed_length (stretch_of is x y)) (λ x y. sum_by (λ i. part i x y) is) (λ x y. sym (parts is x y)) a cs
    ∙ (swapped is a cs ∙ wholes is a cs up o h))

pub work_is : (is : List Interval) → All IsOrdered is → work_of is ≡ sum_by (λ (s : Stretch). s.number * stretch_length s) (stretches_of is)
work_is is o = sym (work_between is (cuts is) (cuts_ascend is) (recursion_from_All IsOrdered is o) (are_cuts is))

-- ---- busy

times_suc : (n d : ℕ) → suc n * d ≡ d + n * d
times_suc n d = suc-mul n d ∙ omega arith

times_at_least : (n d : ℕ) → 0 < n → d ≤ n * d
times_at_least (suc n) d l = omega (arith, times_suc n d)
times_at_least zero d l = absurd (omega arith)

busy_le : (ss : List Stretch) → busy_in ss ≤ sum_by weighed_length ss
busy_le [] = omega arith
busy_le (s ∷ ss) =
    let rest = busy_le ss in
    let here : cond (ltb 0 s.number) (stretch_length s) 0 ≤ s.number * stretch_length s =
    ⊎_elim
    (λ (yes : ltb 0 s.number ≡ true). rw yes (times_at_least s.number (stretch_length s) (ltb-true 0 s.number yes)))
    (λ (out : ltb 0 s.number ≡ false). rw out (omega arith))
    (cases_Bool (ltb 0 s.number)) in
    omega (arith, rest, here, sum_by-cons (λ (s : Stretch). cond (ltb 0 s.number) (stretch_length s) 0) s ss, sum_by-cons weighed_length s ss)

pub busy_le_work : (is : List Interval) → All IsOrdered is → busy_in (stretches_of is) ≤ work_of is
busy_le_work is o = rw (work_is is o) (busy_le (stretches_of is))

-- ---- the peak

times_le : (n m d : ℕ) → n ≤ m → n * d ≤ m * d
times_le n m d l = rw (mul_comm n d, mul_comm m d) (mul-le-mul_left d l)

times_plus : (p a b : ℕ) → p * (a + b) ≡ p * a + p * b
times_plus p a b = mul-add p a b

weighed_le : (p : ℕ) (ss : List Stretch) → peak_in ss ≤ p → sum_by weighed_length ss ≤ p * busy_in ss
weighed_le p [] l = omega arith
weighed_le p (s ∷ ss) l =
    let rest = weighed_le p ss (omega arith) in
    let most : s.number ≤ p = omega arith in
    let here : s.number * stretch_length s ≤ p * cond (ltb 0 s.number) (stretch_length s) 0 =
    ⊎_elim
    (λ (yes : ltb 0 s.number ≡ true). rw yes (times_le s.number p (stretch_length s) most))
    (λ (out : ltb 0 s.number ≡ false). let none : s.number ≡ 0 = (let le : s.number ≤ 0 = ltb-false 0 s.number out in omega arith) in rw (out, none) (omega arith))
    (cases_Bool (ltb 0 s.number)) in
    let split : p * (cond (ltb 0 s.number) (stretch_length s) 0 + busy_in ss) ≡ p * cond (ltb 0 s.number) (stretch_length s) 0 + p * busy_in ss = times_plus p _ _ in
    rw (sum_by-cons weighed_length s ss, sum_by-cons (λ (s : Stretch). cond (ltb 0 s.number) (stretch_length s) 0) s ss, split) (omega (arith, rest, here))

pub work_le : (is : List Interval) → All IsOrdered is → work_of is ≤ peak_in (stretches_of is) * busy_in (stretches_of is)
work_le is o = rw (work_is is o) (weighed_le (peak_in (stretches_of is)) (stretches_of is) (omega arith))

-- ---- alone

abbrev share : ℕ → Stretch → ℕ
share zero s = 0
share (suc n) s = share n s + cond (is_alone n s) (stretch_length s) 0

shares : (n : ℕ) (s : Stretch) (ss : List Stretch) → alone_below n (s ∷ ss) ≡ share n s + alone_below n ss
shares zero s ss = refl
shares (suc n) s ss =
    let rest = shares n s ss in
    omega (arith, rest, sum_by-cons (λ (s : Stretch). cond (is_alone n s) (stretch_length s) 0) s ss)

alone_is : (n : ℕ) (s : Stretch) (o : Option ℕ) → s.alone ≡ o → is_alone n s ≡ option_map_or (λ only. eqb only n) o false
alone_is n s o e = ap (λ (p : Option ℕ). option_map_or (λ only. eqb only n) p false) e

one_share : (s : Stretch) (b c : Bool) → b ≡ c → cond b (stretch_length s) 0 ≡ cond c (stretch_length s) 0
one_share s b c e = ap (λ (x : Bool). cond x (stretch_length s) 0) e

share_none : (n : ℕ) (s : Stretch) → s.alone ≡ None → share n s ≡ 0
share_none zero s e = refl
share_none (suc n) s e =
    let rest = share_none n s e in
    let here : cond (is_alone n s) (stretch_length s) 0 ≡ 0 = one_share s (is_alone n s) false (alone_is n s None e) in
    omega (arith, rest, here)

share_one : (n q : ℕ) (s : Stretch) → s.alone ≡ Some q → share n s ≤ cond (ltb q n) (stretch_length s) 0
share_one zero q s e = omega arith
share_one (suc n) q s e =
    let rest = share_one n q s e in
    let test : is_alone n s ≡ eqb q n = alone_is n s (Some q) e in
    ⊎_elim
    (λ (same : q ≡ n).
    let before : cond (ltb q n) (stretch_length s) 0 ≡ 0 = one_share s (ltb q n) false (le-ltb q n (omega arith)) in
    let here : cond (is_alone n s) (stretch_length s) 0 ≡ stretch_length s = one_share s (is_alone n s) true (test ∙ eq-eqb q n same) in
    let top : cond (ltb q (suc n)) (stretch_length s) 0 ≡ stretch_length s = one_share s (ltb q (suc n)) true (lt-ltb q (suc n) (omega arith)) in
    omega (arith, rest, before, here, top))
    (⊎_elim
    (λ (less : q < n).
    let before : cond (ltb q n) (stretch_length s) 0 ≡ stretch_length s = one_share s (ltb q n) true (lt-ltb q n less) in
    let here : cond (is_alone n s) (stretch_length s) 0 ≡ 0 = one_share s (is_alone n s) false (test ∙ ne_eqb q n (λ e. omega arith)) in
    let top : cond (ltb q (suc n)) (stretch_length s) 0 ≡ stretch_length s = one_share s (ltb q (suc n)) true (lt-ltb q (suc n) (omega arith)) in
    omega (arith, rest, before, here, top))
    (λ (more : n < q).
    let before : cond (ltb q n) (stretch_length s) 0 ≡ 0 = one_share s (ltb q n) false (le-ltb q n (omega arith)) in
    let here : cond (is_alone n s) (stretch_length s) 0 ≡ 0 = one_share s (is_alone n s) false (test ∙ ne_eqb q n (λ e. omega arith)) in
    let top : cond (ltb q (suc n)) (stretch_length s) 0 ≡ 0 = one_share s (ltb q (suc n)) false (le-ltb q (suc n) (omega arith)) in
    omega (arith, rest, before, here, top)))
    (cases_order q n)

part_of : (b : Bool) (n : ℕ) → cond b n 0 ≤ n
part_of true n = omega arith
part_of false n = omega arith

abbrev made : ℕ → ℕ → List Interval → Stretch
made a b l = record { begin = a; end = b; number = length l; alone = only_place l }

share_made : (n a b : ℕ) (l : List Interval) → share n (made a b l) ≤ cond (ltb 0 (length l)) (b - a) 0
share_made n a b [] = let none = share_none n (made a b []) refl in omega (arith, none)
share_made n a b (i ∷ []) =
    let one = share_one n i.place (made a b (i ∷ [])) refl in
    let most = part_of (ltb i.place n) (b - a) in
    omega (arith, one, most)
share_made n a b (i ∷ (j ∷ l)) = let none = share_none n (made a b (i ∷ (j ∷ l))) refl in omega (arith, none)

share_of : (is : List Interval) (n a b : ℕ) → share n (stretch_of is a b) ≤ cond (ltb 0 (count_by (is_under_way a b) is)) (b - a) 0
share_of is n a b =
    rw (sym (length-filter (is_under_way a b) is)) (share_made n a b (filter (is_under_way a b) is))

alone_nothing : (n : ℕ) → alone_below n [] ≡ 0
alone_nothing zero = refl
alone_nothing (suc n) = let rest = alone_nothing n in omega (arith, rest)

alone_between : (is : List Interval) (n a : ℕ) (cs : List ℕ) → alone_below n (stretches_between is (a ∷ cs)) ≤ busy_in (stretches_between is (a ∷ cs))
alone_between is n a [] = let none = alone_nothing n in omega (arith, none)
alone_between is n a (b ∷ cs) =
    let rest = alone_between is n b cs in
    let here = share_of is n a b in
    rw (shares n (stretch_of is a b) (stretches_between is (b ∷ cs)))
    (omega (arith, rest, here, sum_by-cons (λ (s : Stretch). cond (ltb 0 s.number) (stretch_length s) 0) (stretch_of is a b) (stretches_between is (b ∷ cs))))

alone_to : (is : List Interval) (n : ℕ) (cs : List ℕ) → alone_below n (stretches_between is cs) ≤ busy_in (stretches_between is cs)
alone_to is n [] = let none = alone_nothing n in omega (arith, none)
alone_to is n (a ∷ cs) = alone_between is n a cs

pub alone_le_busy : (is : List Interval) (n : ℕ) → alone_below n (stretches_of is) ≤ busy_in (stretches_of is)
alone_le_busy is n = alone_to is n (cuts is)
