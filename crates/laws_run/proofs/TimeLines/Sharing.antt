-- How lanes share the changes out over time.
use Rattle.std.proofs.Common.{◌≡◌, ◌≢◌, ℕ, zero, suc, ◌+◌, ◌*◌, ◌<◌, ◌≤◌, Bool, true, false, ◌&&◌, List, [], ◌∷◌, cond, filter, get_or, length, nat_le, nat_lt, replicate, sum_by, map, sym, refl, ap, ◌∙◌, subst, subst₂, ⊎_elim, arith, lt-ltb, le-ltb, if◌then◌else◌}
use Rattle.std.proofs.lemmas.Bool.{and_right, cases_lt, lt-leb}
use Rattle.std.proofs.lemmas.Bool.Decides.{eqb_tells}
use Rattle.std.proofs.lemmas.List.{get_or-replicate, get_or-set_other, get_or-set_same, length-replicate, length-set}
use Rattle.std.proofs.lemmas.List.Elements.{All-get_or}
use Rattle.std.proofs.lemmas.List.Sums.{sum_by-cons}
use Rattle.std.proofs.Math.Nat.{suc-mul}
use Rattle.std.specs.List.{range_with_len}
use Rattle.apply_events.specs.ChangeEvents.{span_of}
use Rattle.apply_events.specs.Step.{Work}
use Rattle.apply_events.specs.Lanes.Dealing.{before, dealt, first_least, occupied, lanes}
use Rattle.laws_run.specs.Sharing.{free_before, under_way, under_way_of}
use Rattle.apply_events.proofs.TimeLines.Dealt.{length_dealt}
use Rattle.laws_run.proofs.TimeLines.Ends.{dealt_sum, least_of}
use Rattle.laws_run.proofs.TimeLines.Partition.{Low, dealt_low, first_least_lt}

-- ---- under way at once

abbrev bit : Bool → ℕ
bit b = if b then 1 else 0

later_none : (work : Work) (moment at : ℕ) (changes : List ℕ) → moment < at → under_way_of work moment at changes ≡ 0
later_none work moment at [] lt = refl
later_none work moment at (c ∷ changes) lt =
    let here : nat_le at moment ≡ false = lt-leb at moment lt in
    let rest = later_none work moment (at + span_of work c) changes (omega arith) in
    let off : bit (nat_le at moment && nat_lt moment (at + span_of work c)) ≡ 0 = ap (λ b. bit (b && nat_lt moment (at + span_of work c))) here in
    omega arith

bit_le : (b : Bool) → bit b ≤ 1
bit_le true = omega arith
bit_le false = omega arith

one_at_once : (work : Work) (moment at : ℕ) (changes : List ℕ) → under_way_of work moment at changes ≤ 1
one_at_once work moment at [] = omega arith
one_at_once work moment at (c ∷ changes) =
    let next = at + span_of work c in
    ⊎_elim
    (λ (lt : moment < next).
    let none = later_none work moment next changes lt in let one = bit_le (nat_le at moment && nat_lt moment next) in omega arith)
    (λ (le : next ≤ moment).
    let over : nat_lt moment next ≡ false = le-ltb moment next le in
    let off : bit (nat_le at moment && nat_lt moment next) ≡ 0 = ap bit (and_right (nat_le at moment) (nat_lt moment next) over) in
    let rest = one_at_once work moment next changes in omega arith)
    (cases_lt moment next)

sum_of_few : {X : Type 0} (f : X → ℕ) (m : ℕ) (d : X) (xs : List X) → ((k : ℕ) → k < length xs → f (get_or xs k d) ≤ m) → sum_by f xs ≤ length xs * m
sum_of_few f m d [] h = omega arith
sum_of_few f m d (x ∷ xs) h =
    let both : sum_by f (x ∷ xs) ≡ f x + sum_by f xs = sum_by-cons f x xs in
    let first : f x ≤ m = h 0 (omega arith) in
    let rest : sum_by f xs ≤ length xs * m = sum_of_few f m d xs (λ k lt. h (suc k) (omega arith)) in
    let more : suc (length xs) * m ≡ length xs * m + m = suc-mul (length xs) m in
    omega arith

count_lanes : (work : Work) (n : ℕ) → length (lanes work n) ≡ n
count_lanes work n = length_dealt work (replicate n 0) (range_with_len 0 (length work.plan.changes)) ∙ length-replicate n 0

pub few_at_once : (work : Work) (n moment : ℕ) → under_way work n moment ≤ n
few_at_once work n moment =
    let all : under_way work n moment ≤ length (lanes work n) * 1 = sum_of_few (under_way_of work moment 0) 1 [] (lanes work n) (λ k lt. one_at_once work moment 0 (get_or (lanes work n) k [])) in
    let count = count_lanes work n in omega arith

-- ---- no end before the mean

pub no_end_before_the_mean : (work : Work) (n end : ℕ) → 0 < n → ((lane : ℕ) → lane < n → sum_by (span_of work) (get_or (lanes work n) lane []) ≤ end)
    → sum_by (span_of work) (range_with_len 0 (length work.plan.changes)) ≤ n * end
no_end_before_the_mean work n end some h =
    let count = count_lanes work n in
    let zeros : List ℕ = replicate n 0 in
    let size : length zeros ≡ n = length-replicate n 0 in
    let whole : sum_by (λ l. sum_by (span_of work) l) (lanes work n) ≡ sum_by (span_of work) (range_with_len 0 (length work.plan.changes)) = dealt_sum work (span_of work) zeros (range_with_len 0 (length work.plan.changes)) (omega arith) in
    let all : sum_by (λ l. sum_by (span_of work) l) (lanes work n) ≤ length (lanes work n) * end = sum_of_few (λ l. sum_by (span_of work) l) end [] (lanes work n) (λ k lt. h k (omega arith)) in
    subst₂ (λ a b. a ≤ b * end) whole count all

-- ---- never idle

-- when a lane is free of its changes before c, if it starts at that time
abbrev free_then : Work → List ℕ → List (List ℕ) → (lane c : ℕ) → ℕ
free_then work free lists lane c = get_or free lane 0 + free_before work lists lane c

no_lower : (a b : ℕ) (xs : List ℕ) → a ≤ b → Low b xs → filter (λ x. nat_lt x a) xs ≡ []
no_lower a b [] le low = refl
no_lower a b (x ∷ xs) le low =
    let first : b ≤ x = low.0 in
    let no : nat_lt x a ≡ false = le-ltb x a (omega arith) in
    ap (λ t. cond t (x ∷ filter (λ y. nat_lt y a) xs) (filter (λ y. nat_lt y a) xs)) no ∙ no_lower a (x + 1) xs (omega arith) low.1

sum_more : (work : Work) (a c : ℕ) (xs : List ℕ) → a < c → sum_by (span_of work) (filter (λ x. nat_lt x c) (a ∷ xs)) ≡ span_of work a + sum_by (span_of work) (filter (λ x. nat_lt x c) xs)
sum_more work a c xs lt =
    let rest = filter (λ x. nat_lt x c) xs in
    ap (λ b. sum_by (span_of work) (cond b (a ∷ rest) rest)) (lt-ltb a c lt) ∙ sum_by-cons (span_of work) a rest

-- the lane that applies change a is free later by the change's span
same_then : (work : Work) (free : List ℕ) (lists : List (List ℕ)) (a c lane : ℕ) → a < c → length lists ≡ length free → first_least free < length free
    → free_then work free (before (first_least free) a lists) lane c ≡ free_then work (occupied work a free) lists lane c
same_then work free lists a c lane lt size inside =
    let w = first_least free in
    let at = get_or free w 0 in
    ⊎_elim
    (λ (e : _ × (lane ≡ w)).
    let list : get_or (before w a lists) lane [] ≡ a ∷ get_or lists w [] = ap (λ k. get_or (before w a lists) k []) e.1 ∙ get_or-set_same lists w (a ∷ get_or lists w []) [] (omega arith) in
    let mine : get_or lists lane [] ≡ get_or lists w [] = ap (λ k. get_or lists k []) e.1 in
    let old : get_or free lane 0 ≡ at = ap (λ k. get_or free k 0) e.1 in
    let new : get_or (occupied work a free) lane 0 ≡ at + span_of work a = ap (λ k. get_or (occupied work a free) k 0) e.1 ∙ get_or-set_same free w (at + span_of work a) 0 inside in
    let sum : free_before work (before w a lists) lane c ≡ span_of work a + sum_by (span_of work) (filter (λ x. nat_lt x c) (get_or lists w [])) = ap (λ l. sum_by (span_of work) (filter (λ x. nat_lt x c) l)) list ∙ sum_more work a c (get_or lists w []) lt in
    let rest : free_before work lists lane c ≡ sum_by (span_of work) (filter (λ x. nat_lt x c) (get_or lists w [])) = ap (λ l. sum_by (span_of work) (filter (λ x. nat_lt x c) l)) mine in
    omega arith)
    (λ (e : _ × (lane ≢ w)).
    let list = ap (λ l. sum_by (span_of work) (filter (λ x. nat_lt x c) l)) (get_or-set_other lists w lane (a ∷ get_or lists w []) [] e.1) in
    let new : get_or (occupied work a free) lane 0 ≡ get_or free lane 0 = get_or-set_other free w lane (at + span_of work a) 0 e.1 in
    let sum : free_before work (before w a lists) lane c ≡ free_before work lists lane c = list in
    omega arith)
    (eqb_tells lane w)

-- a lane no less free than another when it takes change c
abbrev IsFirstFree : Work → List ℕ → List (List ℕ) → (lane other c : ℕ) → Type 0
IsFirstFree work free lists lane other c = (free_then work free lists lane c ≤ free_then work free lists other c) × (other < lane → free_then work free lists lane c < free_then work free lists other c)

-- the change that is dealt out now
first_now : (work : Work) (free : List ℕ) (a k other : ℕ) → other < length free → IsFirstFree work free (dealt work free (range_with_len a (suc k))) (first_least free) other a
first_now work free a k other less =
    let lists = dealt work free (range_with_len a (suc k)) in
    let size : length lists ≡ length free = length_dealt work free (range_with_len a (suc k)) in
    let low = dealt_low work free a (suc k) (omega arith) in
    let inside = first_least_lt free (omega arith) in
    let none : (lane : ℕ) → lane < length free → free_before work lists lane a ≡ 0 = (λ lane lt. ap (sum_by (span_of work)) (no_lower a a (get_or lists lane []) (omega arith) (All-get_or (Low a) lists lane [] (omega arith) low))) in
    let mine = none (first_least free) inside in
    let its = none other less in
    let least = least_of free other less in
    let le = least.0 in
    (omega arith, λ lower. let lt = least.1 lower in omega arith)

abbrev no_list : ℕ → List ℕ
no_list at = []

none_dealt : (free : List ℕ) (lane j : ℕ) → j < length (get_or (map no_list free) lane []) → ⊥
none_dealt [] lane j h = omega arith
none_dealt (x ∷ free) zero j h = omega arith
none_dealt (x ∷ free) (suc lane) j h = none_dealt free lane j h

first_free : (work : Work) (free : List ℕ) (a m lane other j : ℕ) → lane < length free → other < length free → j < length (get_or (dealt work free (range_with_len a m)) lane [])
    → IsFirstFree work free (dealt work free (range_with_len a m)) lane other (get_or (get_or (dealt work free (range_with_len a m)) lane []) j 0)
first_free work free a zero lane other j lt less place = absurd (none_dealt free lane j place)
first_free work free a (suc m) lane other j lt less place =
    let w = first_least free in
    let later = dealt work (occupied work a free) (range_with_len (a + 1) m) in
    let size : length (occupied work a free) ≡ length free = length-set free w _ in
    let count : length later ≡ length free = length_dealt work (occupied work a free) (range_with_len (a + 1) m) ∙ size in
    let inside = first_least_lt free (omega arith) in
    let low = dealt_low work (occupied work a free) (a + 1) m (omega arith) in
    let go : (i : ℕ) → i < length (get_or later lane []) → IsFirstFree work free (before w a later) lane other (get_or (get_or later lane []) i 0) = (λ i within.
    let c = get_or (get_or later lane []) i 0 in
    let first : a + 1 ≤ c = low_at (a + 1) (get_or later lane []) i (All-get_or (Low (a + 1)) later lane [] (omega arith) low) within in
    let above : a < c = omega arith in
    let here = same_then work free later a c lane above count inside in
    let there = same_then work free later a c other above count inside in
    let both = first_free work (occupied work a free) (a + 1) m lane other i (omega arith) (omega arith) within in
    let le = both.0 in
    (omega arith, λ lower. let strict = both.1 lower in omega arith)) in
    ⊎_elim
    (λ (e : _ × (lane ≡ w)).
    let list : get_or (before w a later) lane [] ≡ a ∷ get_or later w [] = ap (λ k. get_or (before w a later) k []) e.1 ∙ get_or-set_same later w (a ∷ get_or later w []) [] (omega arith) in
    let mine : get_or later lane [] ≡ get_or later w [] = ap (λ k. get_or later k []) e.1 in
    head_or_tail j place e.1 list mine go)
    (λ (e : _ × (lane ≢ w)).
    let list : get_or (before w a later) lane [] ≡ get_or later lane [] = get_or-set_other later w lane (a ∷ get_or later w []) [] e.1 in
    subst (λ l. IsFirstFree work free (before w a later) lane other (get_or l j 0)) (sym list) (go j (subst (λ l. j < length l) list place)))
    (eqb_tells lane w)
  where
    low_at : (b : ℕ) (xs : List ℕ) (i : ℕ) → Low b xs → i < length xs → b ≤ get_or xs i 0
    low_at b [] i low within = absurd (omega arith)
    low_at b (x ∷ xs) zero low within = low.0
    low_at b (x ∷ xs) (suc i) low within = let first = low.0 in let rest = low_at (x + 1) xs i low.1 (omega arith) in omega arith

    lists : List (List ℕ)
    lists = dealt work free (range_with_len a (suc m))

    later : List (List ℕ)
    later = dealt work (occupied work a free) (range_with_len (a + 1) m)

    head_or_tail : (j : ℕ) → j < length (get_or lists lane []) → lane ≡ first_least free → get_or lists lane [] ≡ a ∷ get_or later (first_least free) [] → get_or later lane [] ≡ get_or later (first_least free) []
        → ((i : ℕ) → i < length (get_or later lane []) → IsFirstFree work free lists lane other (get_or (get_or later lane []) i 0))
        → IsFirstFree work free lists lane other (get_or (get_or lists lane []) j 0)
    head_or_tail zero place is list mine go =
        subst (λ l. IsFirstFree work free lists lane other (get_or l 0 0)) (sym list) (subst (λ k. IsFirstFree work free lists k other a) (sym is) (first_now work free a m other less))
    head_or_tail (suc i) place is list mine go =
        subst (λ l. IsFirstFree work free lists lane other (get_or l (suc i) 0)) (sym list)
        (subst (λ l. IsFirstFree work free lists lane other (get_or l i 0)) mine (go i (let both = ap length list in let same = ap length mine in omega arith)))

pub never_idle : (work : Work) (n lane other j : ℕ) → lane < n → other < n → j < length (get_or (lanes work n) lane [])
    → (free_before work (lanes work n) lane (get_or (get_or (lanes work n) lane []) j 0) ≤ free_before work (lanes work n) other (get_or (get_or (lanes work n) lane []) j 0))
    × (other < lane → free_before work (lanes work n) lane (get_or (get_or (lanes work n) lane []) j 0) < free_before work (lanes work n) other (get_or (get_or (lanes work n) lane []) j 0))
never_idle work n lane other j lt less place =
    let zeros : List ℕ = replicate n 0 in
    let size : length zeros ≡ n = length-replicate n 0 in
    let both = first_free work zeros 0 (length work.plan.changes) lane other j (omega arith) (omega arith) place in
    let mine : get_or zeros lane 0 ≡ 0 = get_or-replicate n lane 0 0 lt in
    let its : get_or zeros other 0 ≡ 0 = get_or-replicate n other 0 0 less in
    let le = both.0 in
    (omega arith, λ lower. let strict = both.1 lower in omega arith)
