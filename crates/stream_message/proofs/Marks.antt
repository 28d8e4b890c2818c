-- Where in a line of a log a message begins and ends.
use Rattle.std.proofs.Common.{◌≡◌, ◌<◌, ◌≤◌, ℕ, zero, suc, ◌+◌, List, [], ◌∷◌, length, take, drop, get_or, true, false, Some, None, refl, ap, ◌∙◌, ⊎_elim, arith}
use Rattle.std.specs.Str.{bytes_eq}
use Rattle.std.proofs.lemmas.Bool.{cases_Bool}
use Rattle.std.proofs.lemmas.Slice.Eq.{bytes_eq-Decides}
use Rattle.memchr.specs.Find.{OccursAt, is_byte}
use Rattle.stream_message.specs.Located.{from_mark, mark, through_brace}

-- ---- the end

pub no_brace_in : (bs : List ℕ) → ((k : ℕ) → k < length bs → is_byte 125 (get_or bs k 0) ≡ true → ⊥) → through_brace bs ≡ None
no_brace_in [] none = refl
no_brace_in (b ∷ bs) none =
    let later = no_brace_in bs (λ k below is. none (suc k) (omega (arith, below)) is) in
    ⊎_elim
    (λ (yes : is_byte 125 b ≡ true). absurd (none zero (omega arith) yes))
    (λ (not : is_byte 125 b ≡ false). rw later (rw not refl))
    (cases_Bool (is_byte 125 b))

pub last_brace : (bs : List ℕ) (n : ℕ) → n < length bs → is_byte 125 (get_or bs n 0) ≡ true → ((k : ℕ) → n < k → k < length bs → is_byte 125 (get_or bs k 0) ≡ true → ⊥) → through_brace bs ≡ Some (take (suc n) bs)
last_brace [] n below at after = absurd (omega (arith, below))
last_brace (b ∷ bs) zero below at after =
    let later = no_brace_in bs (λ k under is. after (suc k) (omega arith) (omega (arith, under)) is) in
    rw later (rw at refl)
last_brace (b ∷ bs) (suc n) below at after =
    let later = last_brace bs n (omega (arith, below)) at (λ k over under is. after (suc k) (omega (arith, over)) (omega (arith, under)) is) in
    rw later refl

-- ---- the front

front_is : (needle hay : List ℕ) → length needle ≤ length hay → ((j : ℕ) → j < length needle → get_or hay j 0 ≡ get_or needle j 0) → take (length needle) hay ≡ needle
front_is [] hay fits reads = refl
front_is (n ∷ ns) [] fits reads = absurd (omega (arith, fits))
front_is (n ∷ ns) (h ∷ hs) fits reads =
    let first : h ≡ n = reads zero (omega arith) in
    let rest = front_is ns hs (omega (arith, fits)) (λ j below. reads (suc j) (omega (arith, below))) in
    cc

is_front : (needle hay : List ℕ) → take (length needle) hay ≡ needle → (length needle ≤ length hay) × ((j : ℕ) → j < length needle → get_or hay j 0 ≡ get_or needle j 0)
is_front [] hay e = (omega arith, λ j below. absurd (omega (arith, below)))
is_front (n ∷ ns) [] e = absurd cc
is_front (n ∷ ns) (h ∷ hs) e =
    let first : h ≡ n = cc in
    let tail : take (length ns) hs ≡ ns = cc in
    let rest = is_front ns hs tail in
    (omega (arith, rest.0), λ j. at first rest.1 j)
  where
    at : h ≡ n → ((j : ℕ) → j < length ns → get_or hs j 0 ≡ get_or ns j 0) → (j : ℕ) → j < length (n ∷ ns) → get_or (h ∷ hs) j 0 ≡ get_or (n ∷ ns) j 0
    at first rest zero below = first
    at first rest (suc j) below = rest j (omega (arith, below))

-- ---- the beginning

same_at : (bs : List ℕ) (k j : ℕ) → k ≡ j → get_or bs k 0 ≡ get_or bs j 0
same_at bs k j e = ap (λ (i : ℕ). get_or bs i 0) e

begins_here : (hay : List ℕ) → bytes_eq (take 9 hay) mark ≡ true → OccursAt hay mark 0
begins_here hay e =
    let front = is_front mark hay ((bytes_eq-Decides (take 9 hay) mark).0 e) in
    record { fits = omega (arith, front.0); reads = λ j below. same_at hay (0 + j) j (omega arith) ∙ front.1 j below }

here_begins : (hay : List ℕ) → OccursAt hay mark 0 → bytes_eq (take 9 hay) mark ≡ true
here_begins hay o =
    (bytes_eq-Decides (take 9 hay) mark).1 (front_is mark hay (omega (arith, o.fits)) (λ j below. same_at hay j (0 + j) (omega arith) ∙ o.reads j below))

one_on : (b : ℕ) (bs : List ℕ) (k : ℕ) → OccursAt bs mark k → OccursAt (b ∷ bs) mark (suc k)
one_on b bs k o = record { fits = omega (arith, o.fits); reads = λ j below. same_at (b ∷ bs) (suc k + j) (suc (k + j)) (omega arith) ∙ o.reads j below }

one_back : (b : ℕ) (bs : List ℕ) (k : ℕ) → OccursAt (b ∷ bs) mark (suc k) → OccursAt bs mark k
one_back b bs k o = record { fits = omega (arith, o.fits); reads = λ j below. same_at (b ∷ bs) (suc (k + j)) (suc k + j) (omega arith) ∙ o.reads j below }

not_here : (hay : List ℕ) → (OccursAt hay mark 0 → ⊥) → bytes_eq (take 9 hay) mark ≡ false
not_here hay none = ⊎_elim (λ (yes : bytes_eq (take 9 hay) mark ≡ true). absurd (none (begins_here hay yes))) (λ not. not) (cases_Bool (bytes_eq (take 9 hay) mark))

pub no_mark_in : (hay : List ℕ) → ((k : ℕ) → k < length hay + 1 → OccursAt hay mark k → ⊥) → from_mark hay ≡ None
no_mark_in [] none = refl
no_mark_in (b ∷ bs) none =
    let not = not_here (b ∷ bs) (none 0 (omega arith)) in
    let later = no_mark_in bs (λ k below o. none (suc k) (omega (arith, below)) (one_on b bs k o)) in
    rw not later

pub first_mark : (hay : List ℕ) (n : ℕ) → OccursAt hay mark n → ((k : ℕ) → k < n → OccursAt hay mark k → ⊥) → from_mark hay ≡ Some (drop n hay)
first_mark [] n o before = let fits = o.fits in absurd (omega (arith, fits))
first_mark (b ∷ bs) zero o before = rw (here_begins (b ∷ bs) o) refl
first_mark (b ∷ bs) (suc n) o before =
    let not = not_here (b ∷ bs) (before 0 (omega arith)) in
    let later = first_mark bs n (one_back b bs n o) (λ k below p. before (suc k) (omega (arith, below)) (one_on b bs k p)) in
    rw not later
