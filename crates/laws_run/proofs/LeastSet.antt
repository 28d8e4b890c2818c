-- The steps that begin within as many rounds as there are steps are all that could begin.
use Rattle.std.proofs.Common.{◌≡◌, ℕ, zero, suc, ◌*◌, ◌<◌, ◌≤◌, Bool, true, false, List, [], ◌∷◌, length, Some, refl, sym, ap, subst, ◌∙◌, arith, ◌⊎◌, ⊎_elim, inl, inr, count_by, cond}
use Rattle.std.specs.Prelude.{◌&&◌, slice_get, ◌↔◌}
use Rattle.std.specs.List.{AllByRecursion, list_all}
use Rattle.std.proofs.lemmas.Bool.{cases_lt}
use Rattle.std.proofs.lemmas.List.Sums.{count_by-le-length, sum_by-cons}
use Rattle.apply_model.specs.declared.script.wait.Wait.{Wait}
use Rattle.apply_model.specs.Script.OutcomeMap.{OutcomeMap}
use Rattle.apply_model.specs.Script.Waits as waits
use Rattle.apply_model.specs.Script.Waits.{begins_within, stated_waits}
use Rattle.laws_run.specs.Scripts.{CouldBegin, WaitsWithin, waits_could_begin}

both_true : (a b : Bool) → (a && b) ≡ true → (a ≡ true) × (b ≡ true)
both_true true b e = (refl, e)
both_true false b e = absurd cc

and_true : (a b : Bool) → a ≡ true → b ≡ true → (a && b) ≡ true
and_true a b one other = rw (one, other) refl

-- a test of all items, item by item
all_at : {X : Type 0} (p : X → Bool) (xs : List X) (i : ℕ) (x : X) → list_all p xs ≡ true → slice_get xs i ≡ Some x → p x ≡ true
all_at p [] i x all at = absurd cc
all_at p (y ∷ xs) zero x all at = let same : y ≡ x = cc in ap p (sym same) ∙ (both_true (p y) (list_all p xs) all).0
all_at p (y ∷ xs) (suc i) x all at = all_at p xs i x (both_true (p y) (list_all p xs) all).1 at

all_from : {X : Type 0} (p : X → Bool) (xs : List X) → ((i : ℕ) (x : X) → slice_get xs i ≡ Some x → p x ≡ true) → list_all p xs ≡ true
all_from p [] each = refl
all_from p (x ∷ xs) each = and_true (p x) (list_all p xs) (each 0 x refl) (all_from p xs (λ i y at. each (suc i) y at))

abbrev begins : OutcomeMap → ℕ → Wait → Bool
begins script rounds wait = begins_within script rounds wait.change wait.step

later : (script : OutcomeMap) (rounds c k : ℕ) → ((i : ℕ) (wait : Wait) → slice_get (stated_waits script c k) i ≡ Some wait → begins script rounds wait ≡ true) → begins_within script (suc rounds) c k ≡ true
unfolding begins_within
later script rounds c k each = all_from (begins script rounds) (stated_waits script c k) each

before : (script : OutcomeMap) (rounds c k i : ℕ) (wait : Wait) → begins_within script (suc rounds) c k ≡ true → slice_get (stated_waits script c k) i ≡ Some wait → begins script rounds wait ≡ true
unfolding begins_within
before script rounds c k i wait e at = all_at (begins script rounds) (stated_waits script c k) i wait e at

never : (script : OutcomeMap) (c k : ℕ) → begins_within script 0 c k ≡ true → ⊥
unfolding begins_within
never script c k e = absurd cc

-- what begins within some rounds could begin
could : (script : OutcomeMap) (rounds c k : ℕ) → begins_within script rounds c k ≡ true → CouldBegin script c k
could script zero c k e = absurd (never script c k e)
could script (suc rounds) c k e = waits_could_begin c k (λ i wait at. could script rounds wait.change wait.step (before script rounds c k i wait e at))

next_round : (script : OutcomeMap) (rounds c k : ℕ) → begins_within script rounds c k ≡ true → begins_within script (suc rounds) c k ≡ true
next_round script zero c k e = absurd (never script c k e)
next_round script (suc rounds) c k e = later script (suc rounds) c k (λ i wait at. next_round script rounds wait.change wait.step (before script rounds c k i wait e at))

-- ---- all steps

-- the two steps of each of so many changes
abbrev all_steps : ℕ → List Wait
all_steps zero = []
all_steps (suc n) = record { change = n; step = 0 } ∷ record { change = n; step = 1 } ∷ all_steps n

length-all_steps : (n : ℕ) → length (all_steps n) ≡ 2 * n
length-all_steps zero = refl
length-all_steps (suc n) = let rest = length-all_steps n in omega arith

last : (c n : ℕ) → c < suc n → (n ≡ c) ⊎ (c < n)
last c n below = grind arith

holds_at : (P : Wait → Type 0) (n c k : ℕ) → AllByRecursion P (all_steps n) → c < n → k < 2 → P (record { change = c; step = k })
holds_at P zero c k all below low = absurd (omega arith)
holds_at P (suc n) c zero all below low = ⊎_elim
    (λ (same : n ≡ c). subst (λ (m : ℕ). P (record { change = m; step = 0 })) same all.0)
    (λ (less : c < n). holds_at P n c zero all.1.1 less low)
    (last c n below)
holds_at P (suc n) c (suc zero) all below low = ⊎_elim
    (λ (same : n ≡ c). subst (λ (m : ℕ). P (record { change = m; step = 1 })) same all.1.0)
    (λ (less : c < n). holds_at P n c (suc zero) all.1.1 less low)
    (last c n below)
holds_at P (suc n) c (suc (suc k)) all below low = absurd (omega arith)

-- ---- how many begin

abbrev counted : OutcomeMap → ℕ → List Wait → ℕ
counted script rounds steps = count_by (begins script rounds) steps

abbrev one_where : Bool → ℕ
one_where b = cond b 1 0

at_least : (a b : Bool) → (a ≡ true → b ≡ true) → one_where a ≤ one_where b
at_least true b more = rw (more refl) (omega arith)
at_least false b more = omega arith

grows : (script : OutcomeMap) (rounds : ℕ) (steps : List Wait) → counted script rounds steps ≤ counted script (suc rounds) steps
grows script rounds [] = omega arith
grows script rounds (step ∷ steps) =
    omega (
      arith,
      sum_by-cons (λ (w : Wait). one_where (begins script rounds w)) step steps,
      sum_by-cons (λ (w : Wait). one_where (begins script (suc rounds) w)) step steps,
      at_least (begins script rounds step) (begins script (suc rounds) step) (next_round script rounds step.change step.step),
      grows script rounds steps,
    )

-- where no more begin, the same do
same_here : (a b : Bool) → one_where b ≤ one_where a → b ≡ true → a ≡ true
same_here true b less e = refl
same_here false true less e = absurd (omega arith)
same_here false false less e = e

same_steps : (script : OutcomeMap) (rounds : ℕ) (steps : List Wait) → counted script (suc rounds) steps ≤ counted script rounds steps → AllByRecursion (λ wait. begins script (suc rounds) wait ≡ true → begins script rounds wait ≡ true) steps
same_steps script rounds [] less = tt
same_steps script rounds (step ∷ steps) less =
    let first = sum_by-cons (λ (w : Wait). one_where (begins script rounds w)) step steps in
    let second = sum_by-cons (λ (w : Wait). one_where (begins script (suc rounds) w)) step steps in
    let more = at_least (begins script rounds step) (begins script (suc rounds) step) (next_round script rounds step.change step.step) in
    let rest = grows script rounds steps in
    (same_here (begins script rounds step) (begins script (suc rounds) step) (omega arith), same_steps script rounds steps (omega arith))

module _ (script : OutcomeMap) (within : WaitsWithin script) where
  -- in view of all steps, no more begin within another round
  abbrev IsSettled : ℕ → Type 0
  IsSettled rounds = counted script (suc rounds) (all_steps (length script)) ≤ counted script rounds (all_steps (length script))

  all_of : (P : Wait → Type 0) (n : ℕ) → ((c k : ℕ) → c < n → k < 2 → P (record { change = c; step = k })) → AllByRecursion P (all_steps n)
  all_of P zero each = tt
  all_of P (suc n) each = (each n 0 (omega arith) (omega arith), (each n 1 (omega arith) (omega arith), all_of P n (λ c k below low. each c k (omega arith) low)))

  no_more : (rounds : ℕ) (steps : List Wait) → AllByRecursion (λ wait. begins script (suc rounds) wait ≡ true → begins script rounds wait ≡ true) steps → counted script (suc rounds) steps ≤ counted script rounds steps
  no_more rounds [] same = omega arith
  no_more rounds (step ∷ steps) same =
      omega (
        arith,
        sum_by-cons (λ (w : Wait). one_where (begins script rounds w)) step steps,
        sum_by-cons (λ (w : Wait). one_where (begins script (suc rounds) w)) step steps,
        at_least (begins script (suc rounds) step) (begins script rounds step) same.0,
        no_more rounds steps same.1,
      )

  -- what begins in the next round begins now, for each step
  closed : (rounds : ℕ) → IsSettled rounds → (c k : ℕ) → c < length script → k < 2 → begins_within script (suc rounds) c k ≡ true → begins_within script rounds c k ≡ true
  closed rounds settled c k below low =
      holds_at (λ (w : Wait). begins script (suc rounds) w ≡ true → begins script rounds w ≡ true) (length script) c k (same_steps script rounds (all_steps (length script)) settled) below low

  -- where a round adds no step, no further round does
  settled_later : (rounds : ℕ) → IsSettled rounds → IsSettled (suc rounds)
  settled_later rounds settled =
      no_more (suc rounds) (all_steps (length script))
      (all_of (λ wait. begins script (suc (suc rounds)) wait ≡ true → begins script (suc rounds) wait ≡ true) (length script)
      (λ c k below low e. later script rounds c k (λ i wait at.
      let there = within c k i wait below low at in
      closed rounds settled wait.change wait.step there.0 there.1 (before script (suc rounds) c k i wait e at))))

  -- each round adds a step, or none does from there on
  settled_or : (rounds : ℕ) → IsSettled rounds ⊎ (suc rounds ≤ counted script (suc rounds) (all_steps (length script)))
  settled_or zero = ⊎_elim
      (λ (more : counted script 0 (all_steps (length script)) < counted script 1 (all_steps (length script))). inr (omega arith))
      (λ (none : counted script 1 (all_steps (length script)) ≤ counted script 0 (all_steps (length script))). inl none)
      (cases_lt (counted script 0 (all_steps (length script))) (counted script 1 (all_steps (length script))))
  settled_or (suc rounds) = ⊎_elim
      (λ (settled : IsSettled rounds). inl (settled_later rounds settled))
      (λ (many : suc rounds ≤ counted script (suc rounds) (all_steps (length script))). ⊎_elim
      (λ (more : counted script (suc rounds) (all_steps (length script)) < counted script (suc (suc rounds)) (all_steps (length script))). inr (omega arith))
      (λ (none : counted script (suc (suc rounds)) (all_steps (length script)) ≤ counted script (suc rounds) (all_steps (length script))). inl none)
      (cases_lt (counted script (suc rounds) (all_steps (length script))) (counted script (suc (suc rounds)) (all_steps (length script)))))
      (settled_or rounds)

  -- there are no more rounds that add a step than there are steps
  settled_then : IsSettled (2 * length script)
  settled_then = ⊎_elim
      (λ (settled : IsSettled (2 * length script)). settled)
      (λ (many : suc (2 * length script) ≤ counted script (suc (2 * length script)) (all_steps (length script))).
      absurd (omega (arith, count_by-le-length (begins script (suc (2 * length script))) (all_steps (length script)), length-all_steps (length script))))
      (settled_or (2 * length script))

  least : (c k : ℕ) → c < length script → k < 2 → CouldBegin script c k → waits.could_begin script c k ≡ true
  least c k below low (waits_could_begin _ _ each) =
      closed (2 * length script) settled_then c k below low (later script (2 * length script) c k (λ i wait at.
      let there = within c k i wait below low at in least wait.change wait.step there.0 there.1 (each i wait at)))

  pub least_set : (c k : ℕ) → c < length script → k < 2 → ((waits.could_begin script c k ≡ true) ↔ CouldBegin script c k)
  least_set c k below low = (could script (2 * length script) c k, least c k below low)
