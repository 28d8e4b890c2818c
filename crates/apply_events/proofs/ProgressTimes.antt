-- The progress times of a step, one by one.
use Rattle.std.proofs.Common.{◌≡◌, ℕ, zero, suc, ◌+◌, ◌-◌, ◌*◌, ◌/◌, ◌%◌, ◌<◌, ◌≤◌, nat_eq, nat_le, nat_lt, Bool, true, false, ◌&&◌, List, [], ◌∷◌, cond, filter, length, refl, ap, sym, subst, ◌∙◌, arith, zero-add, add-zero, ◌⊎◌, inl, inr, ⊎_elim, le-ltb, lt-ltb, if◌then◌else◌}
use Rattle.std.specs.List.{list_any, range_with_len}
use Rattle.std.proofs.lemmas.Bool.{cases_lt, le-leb, lt-leb}
use Rattle.std.proofs.lemmas.Bool.Decides.{eqb_tells}
use Rattle.std.proofs.lemmas.Map.Views.{any-filter_same}
use Rattle.apply_events.specs.ProgressTimes.{is_multiple_of_ten, progress_times}
use Rattle.apply_events.specs.Provisions.{times_within}
use Rattle.apply_events.proofs.Rising.{Rises}

not_zero : (n : ℕ) → (n ≡ 0 → ⊥) → nat_eq n 0 ≡ false
not_zero n h = ⊎_elim (λ e. absurd (h e.1)) (λ e. e.0) (eqb_tells n 0)

-- ---- the progress times within two numbers

and-true : (b : Bool) → (b && true) ≡ b
and-true true = refl
and-true false = refl

and-false : (b : Bool) → (b && false) ≡ false
and-false true = refl
and-false false = refl

-- a progress time within two numbers, as one test
abbrev is_within : (after until : ℕ) → ℕ → Bool
is_within after until p = is_multiple_of_ten p && (nat_lt after p && nat_le p until)

filter_twice : (p q : ℕ → Bool) (xs : List ℕ) → filter q (filter p xs) ≡ filter (λ x. p x && q x) xs
filter_twice p q [] = refl
filter_twice p q (x ∷ xs) =
    elim (p x) as (λ b. filter q (cond b (x ∷ filter p xs) (filter p xs)) ≡ cond (b && q x) (x ∷ filter (λ y. p y && q y) xs) (filter (λ y. p y && q y) xs)) [
      | true ↦ ap (λ ys. cond (q x) (x ∷ ys) ys) (filter_twice p q xs)
      | false ↦ filter_twice p q xs
    ]

as_one : (d a b : ℕ) → times_within d a b ≡ filter (is_within a b) (range_with_len 1 (d - 1))
as_one d a b = filter_twice is_multiple_of_ten (λ p. nat_lt a p && nat_le p b) (range_with_len 1 (d - 1))

-- numbers that do not pass are left out
skip : (test : ℕ → Bool) (a k n : ℕ) → ((i : ℕ) → i < k → test (a + i) ≡ false) → filter test (range_with_len a (k + n)) ≡ filter test (range_with_len (a + k) n)
skip test a zero n none = rw (zero-add n, add-zero a) refl
skip test a (suc k) n none =
    let here : test a ≡ false = ap test (sym (add-zero a)) ∙ none 0 (omega arith) in
    let count : suc k + n ≡ suc (k + n) = omega arith in
    let place : a + 1 + k ≡ a + suc k = omega arith in
    let later : (i : ℕ) → i < k → test (a + 1 + i) ≡ false = λ i below. let e : a + 1 + i ≡ a + suc i = omega arith in ap test e ∙ none (suc i) (omega arith) in
    ap (λ m. filter test (range_with_len a m)) count
    ∙ ap (λ b. cond b (a ∷ filter test (range_with_len (a + 1) (k + n))) (filter test (range_with_len (a + 1) (k + n)))) here
    ∙ skip test (a + 1) k n later
    ∙ ap (λ m. filter test (range_with_len m n)) place

-- tests that agree on the numbers leave the same
agreed : (t u : ℕ → Bool) (a n : ℕ) → ((i : ℕ) → i < n → t (a + i) ≡ u (a + i)) → filter t (range_with_len a n) ≡ filter u (range_with_len a n)
agreed t u a zero same = refl
agreed t u a (suc n) same =
    let here : t a ≡ u a = ap t (sym (add-zero a)) ∙ same 0 (omega arith) ∙ ap u (add-zero a) in
    let later : (i : ℕ) → i < n → t (a + 1 + i) ≡ u (a + 1 + i) = λ i below. let e : a + 1 + i ≡ a + suc i = omega arith in ap t e ∙ same (suc i) (omega arith) ∙ ap u (sym e) in
    ap (λ b. cond b (a ∷ filter t (range_with_len (a + 1) n)) (filter t (range_with_len (a + 1) n))) here
    ∙ ap (λ ys. cond (u a) (a ∷ ys) ys) (agreed t u (a + 1) n later)

too_early : (a b p : ℕ) → p ≤ a → is_within a b p ≡ false
too_early a b p le = ap (λ t. is_multiple_of_ten p && (t && nat_le p b)) (le-ltb a p le) ∙ and-false (is_multiple_of_ten p)

too_late : (a b p : ℕ) → b < p → is_within a b p ≡ false
too_late a b p lt =
    ap (λ t. is_multiple_of_ten p && (nat_lt a p && t)) (lt-leb p b lt)
    ∙ ap (λ t. is_multiple_of_ten p && t) (and-false (nat_lt a p))
    ∙ and-false (is_multiple_of_ten p)

-- the next multiple of ten after a number
abbrev pub next_ten : ℕ → ℕ
next_ten a = (a / 10 + 1) * 10

misses : (a b p : ℕ) → a < p → p < next_ten a → is_within a b p ≡ false
misses a b p above below = ap (λ t. t && (nat_lt a p && nat_le p b)) (not_zero (p % 10) (λ e. omega arith))

before_next : (a b p : ℕ) → p < next_ten a → is_within a b p ≡ false
before_next a b p below = ⊎_elim (λ (above : a < p). misses a b p above below) (λ (le : p ≤ a). too_early a b p le) (cases_lt a p)

hits : (a b : ℕ) → next_ten a ≤ b → is_within a b (next_ten a) ≡ true
hits a b le =
    let ten : next_ten a % 10 ≡ 0 = omega arith in
    let above : nat_lt a (next_ten a) ≡ true = lt-ltb a (next_ten a) (omega arith) in
    let low : nat_le (next_ten a) b ≡ true = le-leb (next_ten a) b le in
    ap (λ t. nat_eq t 0 && (nat_lt a (next_ten a) && nat_le (next_ten a) b)) ten
    ∙ ap (λ t. t && nat_le (next_ten a) b) above ∙ low

from_next : (d n b : ℕ) → 0 < n → n < d → times_within d n b ≡ filter (is_within n b) (range_with_len (n + 1) (d - 1 - n))
from_next d n b some below =
    let count : d - 1 ≡ n + (d - 1 - n) = omega arith in
    let place : 1 + n ≡ n + 1 = omega arith in
    as_one d n b
    ∙ ap (λ m. filter (is_within n b) (range_with_len 1 m)) count
    ∙ skip (is_within n b) 1 n (d - 1 - n) (λ i below. too_early n b (1 + i) (omega arith))
    ∙ ap (λ m. filter (is_within n b) (range_with_len m (d - 1 - n))) place

-- the next progress
pub next_time : (d a b : ℕ) → next_ten a ≤ b → next_ten a < d → times_within d a b ≡ next_ten a ∷ times_within d (next_ten a) b
next_time d a b low below =
    let n = next_ten a in
    let count : d - 1 ≡ (n - 1) + suc (d - 1 - n) = omega arith in
    let place : 1 + (n - 1) ≡ n = omega arith in
    as_one d a b
    ∙ ap (λ m. filter (is_within a b) (range_with_len 1 m)) count
    ∙ skip (is_within a b) 1 (n - 1) (suc (d - 1 - n)) (λ i less. before_next a b (1 + i) (omega arith))
    ∙ ap (λ m. filter (is_within a b) (range_with_len m (suc (d - 1 - n)))) place
    ∙ ap (λ t. cond t (n ∷ filter (is_within a b) (range_with_len (n + 1) (d - 1 - n))) (filter (is_within a b) (range_with_len (n + 1) (d - 1 - n)))) (hits a b low)
    ∙ ap (λ ys. n ∷ ys) (
    agreed (is_within a b) (is_within n b) (n + 1) (d - 1 - n) (λ i less.
    let p = n + 1 + i in
    ap (λ t. is_multiple_of_ten p && (t && nat_le p b)) (lt-ltb a p (omega arith) ∙ sym (lt-ltb n p (omega arith))))
    ∙ sym (from_next d n b (omega arith) below)
    )

-- no progress is left
pub no_time : (d a b : ℕ) → (b < next_ten a) ⊎ (d ≤ next_ten a) → times_within d a b ≡ []
no_time d a b out =
    as_one d a b
    ∙ ap (λ n. filter (is_within a b) (range_with_len 1 n)) (sym (add-zero (d - 1)))
    ∙ skip (is_within a b) 1 (d - 1) 0 (λ i less. ⊎_elim
    (λ (early : b < next_ten a). ⊎_elim (λ (lt : 1 + i < next_ten a). before_next a b (1 + i) lt) (λ (le : next_ten a ≤ 1 + i). too_late a b (1 + i) (omega arith)) (cases_lt (1 + i) (next_ten a)))
    (λ (short : d ≤ next_ten a). before_next a b (1 + i) (omega arith)) out)

-- so many at most, where those that count end by some number
few_times : (n d a b top : ℕ) → (b ≤ top) ⊎ (d ≤ top + 1) → top / 10 ≤ a / 10 + n → length (times_within d a b) ≤ n
few_times zero d a b top ends few =
    let none = ap length (no_time d a b (⊎_elim (λ (le : b ≤ top). inl (omega arith)) (λ (le : d ≤ top + 1). inr (omega arith)) ends)) in omega arith
few_times (suc n) d a b top ends few = ⊎_elim
    (λ (le : next_ten a < b + 1). ⊎_elim
    (λ (lt : next_ten a < d).
    let rest = few_times n d (next_ten a) b top ends (omega arith) in let one = ap length (next_time d a b (omega arith) lt) in omega arith)
    (λ (short : d ≤ next_ten a). let none = ap length (no_time d a b (inr short)) in omega arith)
    (cases_lt (next_ten a) d))
    (λ (early : b + 1 ≤ next_ten a). let none = ap length (no_time d a b (inl (omega arith))) in omega arith)
    (cases_lt (next_ten a) (b + 1))

-- how many progress times a step of d seconds has up to some seconds
pub times_up_to : (d seconds : ℕ) → ℕ
times_up_to d seconds = (if nat_lt seconds d then seconds else d - 1) / 10

up_to_early : (d seconds : ℕ) → seconds < d → times_up_to d seconds ≡ seconds / 10
unfolding times_up_to
up_to_early d seconds lt = ap (λ b. (if b then seconds else d - 1) / 10) (lt-ltb seconds d lt)

up_to_late : (d seconds : ℕ) → d ≤ seconds → times_up_to d seconds ≡ (d - 1) / 10
unfolding times_up_to
up_to_late d seconds le = ap (λ b. (if b then seconds else d - 1) / 10) (le-ltb seconds d le)

pub up_to_end : (d : ℕ) → times_up_to d d ≡ (d - 1) / 10
up_to_end d = up_to_late d d (omega arith)

pub few_within : (d a b : ℕ) → a ≤ b → length (times_within d a b) + times_up_to d a ≤ times_up_to d b
few_within d a b le = ⊎_elim
    (λ (early : b < d).
    let begin = up_to_early d a (omega arith) in let end = up_to_early d b early in
    let few = few_times (b / 10 - a / 10) d a b b (inl (omega arith)) (omega arith) in omega arith)
    (λ (over : d ≤ b).
    let end = up_to_late d b over in
    ⊎_elim
    (λ (lt : a < d).
    let begin = up_to_early d a lt in
    let few = few_times ((d - 1) / 10 - a / 10) d a b (d - 1) (inr (omega arith)) (omega arith) in omega arith)
    (λ (late : d ≤ a).
    let begin = up_to_late d a late in
    let few = few_times 0 d a b (d - 1) (inr (omega arith)) (omega arith) in omega arith)
    (cases_lt a d))
    (cases_lt b d)

-- they stand in order within the two numbers
after : (a b p : ℕ) → is_within a b p ≡ true → a < p
after a b p is = ⊎_elim (λ (lt : a < p). lt) (λ (le : p ≤ a). let no = too_early a b p le in absurd (cc)) (cases_lt a p)

until : (a b p : ℕ) → is_within a b p ≡ true → p ≤ b
until a b p is = ⊎_elim (λ (lt : b < p). let no = too_late a b p lt in absurd (cc)) (λ (le : p ≤ b). le) (cases_lt b p)

within_rises : (a b m low n : ℕ) → (m ≤ low) ⊎ (m ≤ a) → m ≤ b → Rises (λ x. x) m b (filter (is_within a b) (range_with_len low n))
within_rises a b m low zero from le = le
within_rises a b m low (suc n) from le =
    elim (is_within a b low) as (λ t. is_within a b low ≡ t → Rises (λ x. x) m b (cond t (low ∷ filter (is_within a b) (range_with_len (low + 1) n)) (filter (is_within a b) (range_with_len (low + 1) n)))) [
      | true ↦ λ is. (
        (let above = after a b low is in ⊎_elim (λ (x : m ≤ low). x) (λ (y : m ≤ a). omega arith) from),
        within_rises a b low (low + 1) n (inl (omega arith)) (until a b low is),
      )
      | false ↦ λ is. within_rises a b m (low + 1) n (⊎_elim (λ (x : m ≤ low). inl (omega arith)) (λ (y : m ≤ a). inr y) from) le
    ] refl

pub times_rise : (d a b : ℕ) → a ≤ b → Rises (λ x. x) a b (times_within d a b)
times_rise d a b le = subst (λ xs. Rises (λ x. x) a b xs) (sym (as_one d a b)) (within_rises a b a 1 (d - 1) (inr (omega arith)) le)

some_or_none : (a : ℕ) → (a < 1) ⊎ (0 < a)
some_or_none zero = inl (omega arith)
some_or_none (suc a) = inr (omega arith)

-- ---- which numbers are progress times

-- whether a number stands in a range
in_range : (a low n : ℕ) → low ≤ a → a < low + n → list_any (λ time. nat_eq time a) (range_with_len low n) ≡ true
in_range a low zero above below = absurd (omega arith)
in_range a low (suc n) above below =
    ⊎_elim
    (λ e. rw e.0 refl)
    (λ e. rw (e.0, in_range a (low + 1) n (let differs : low ≡ a → ⊥ = e.1 in omega arith) (omega arith)) refl)
    (eqb_tells low a)

out_of_range : (a low n : ℕ) → (a < low) ⊎ (low + n ≤ a) → list_any (λ time. nat_eq time a) (range_with_len low n) ≡ false
out_of_range a low zero out = refl
out_of_range a low (suc n) out =
    ⊎_elim
    (λ e. absurd (⊎_elim (λ below. omega arith) (λ above. omega arith) out))
    (λ e. rw (e.0, out_of_range a (low + 1) n (⊎_elim (λ below. inl (omega arith)) (λ above. inr (omega arith)) out)) refl)
    (eqb_tells low a)

same_test : (a k : ℕ) → nat_eq k a ≡ true → is_multiple_of_ten k ≡ is_multiple_of_ten a
same_test a k h = ap is_multiple_of_ten (⊎_elim (λ e. e.1) (λ e. absurd (cc)) (eqb_tells k a))

filtered : (a d : ℕ) → list_any (λ time. nat_eq time a) (progress_times d) ≡ (is_multiple_of_ten a && list_any (λ time. nat_eq time a) (range_with_len 1 (d - 1)))
filtered a d = any-filter_same (λ time. nat_eq time a) is_multiple_of_ten (is_multiple_of_ten a) (same_test a) (range_with_len 1 (d - 1))

pub within : (a d : ℕ) → 0 < a → a < d → is_multiple_of_ten a ≡ list_any (λ time. nat_eq time a) (progress_times d)
within a d above below = sym (filtered a d ∙ ap (λ b. is_multiple_of_ten a && b) (in_range a 1 (d - 1) (omega arith) (omega arith)) ∙ and-true (is_multiple_of_ten a))

pub outside : (a d : ℕ) → (a < 1) ⊎ (d ≤ a) → false ≡ list_any (λ time. nat_eq time a) (progress_times d)
outside a d out = sym (filtered a d ∙ ap (λ b. is_multiple_of_ten a && b) (out_of_range a 1 (d - 1) (⊎_elim (λ below. inl below) (λ above. ⊎_elim (λ z. inl (omega arith)) (λ p. inr (omega arith)) (some_or_none a)) out)) ∙ and-false (is_multiple_of_ten a))
