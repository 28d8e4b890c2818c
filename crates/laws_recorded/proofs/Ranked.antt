-- Where each step has a higher rank than those that it waits for, each step could begin.
use Rattle.std.proofs.Common.{◌≡◌, ℕ, zero, suc, ◌+◌, ◌*◌, ◌<◌, ◌≤◌, Bool, true, false, List, [], ◌∷◌, length, map, cond, ltb, Some, refl, ap, ◌∙◌, arith, lt-ltb}
use Rattle.std.specs.Prelude.{slice_get}
use Rattle.std.specs.List.{count_by, list_all, range_with_len}
use Rattle.std.proofs.lemmas.Bool.{and_from, ltb-true}
use Rattle.std.proofs.lemmas.List.Sums.{count_by-le-length, sum_by-cons}
use Rattle.std.proofs.lemmas.List.FromFn.{length-map-range_with_len}
use Rattle.apply_model.specs.declared.script.wait.Wait.{Wait}
use Rattle.apply_model.specs.Script.OutcomeMap.{OutcomeMap}
use Rattle.apply_model.specs.Script.Waits.{could_begin, stated_waits}
use Rattle.apply_resolve.proofs.Rounds.{begins_at, one_round_more, within_more}

pub all_from : {X : Type 0} (p : X → Bool) (xs : List X) → ((i : ℕ) (x : X) → slice_get xs i ≡ Some x → p x ≡ true) → list_all p xs ≡ true
all_from p [] each = refl
all_from p (x ∷ xs) each = and_from (p x) (list_all p xs) (each 0 x refl) (all_from p xs (λ i y at. each (suc i) y at))

pub range_got : {A : Type 0} (f : ℕ → A) (first len k : ℕ) → k < len → slice_get (map f (range_with_len first len)) k ≡ Some (f (first + k))
range_got f first zero k less = absurd (omega arith)
range_got f first (suc len) zero less = let here : first ≡ first + 0 = omega arith in ap (λ n. Some (f n)) here
range_got f first (suc len) (suc k) less =
    let place : first + 1 + k ≡ first + suc k = omega arith in
    range_got f (first + 1) len k (omega arith) ∙ ap (λ n. Some (f n)) place

-- ---- how many ranks are lower

abbrev lower : List ℕ → ℕ → ℕ
lower ranks n = count_by (λ rank. ltb rank n) ranks

abbrev one_where : Bool → ℕ
one_where b = cond b 1 0

at_least : (a b : Bool) → (a ≡ true → b ≡ true) → one_where a ≤ one_where b
at_least true b more = rw (more refl) (omega arith)
at_least false b more = omega arith

first_lower : (rank n : ℕ) (ranks : List ℕ) → lower (rank ∷ ranks) n ≡ one_where (ltb rank n) + lower ranks n
first_lower rank n ranks = sum_by-cons (λ (r : ℕ). one_where (ltb r n)) rank ranks

also_lower : (rank m n : ℕ) → m ≤ n → one_where (ltb rank m) ≤ one_where (ltb rank n)
also_lower rank m n less = at_least (ltb rank m) (ltb rank n) (λ is. lt-ltb rank n (omega (arith, ltb-true rank m is)))

grows : (ranks : List ℕ) (m n : ℕ) → m ≤ n → lower ranks m ≤ lower ranks n
grows [] m n less = omega arith
grows (rank ∷ ranks) m n less = omega (arith, first_lower rank m ranks, first_lower rank n ranks, also_lower rank m n less, grows ranks m n less)

not_lower : (n : ℕ) → one_where (ltb n n) ≡ 0
not_lower n = grind arith

is_lower : (m n : ℕ) → m < n → one_where (ltb m n) ≡ 1
is_lower m n less = ap one_where (lt-ltb m n less)

more_lower : (ranks : List ℕ) (k m n : ℕ) → slice_get ranks k ≡ Some m → m < n → lower ranks m < lower ranks n
more_lower [] k m n at less = absurd cc
more_lower (rank ∷ ranks) zero m n at less =
    let same : rank ≡ m = cc in
    let here : one_where (ltb rank m) ≡ 0 = rw same (not_lower m) in
    let there : one_where (ltb rank n) ≡ 1 = rw same (is_lower m n less) in
    omega (arith, first_lower rank m ranks, first_lower rank n ranks, grows ranks m n (omega arith), here, there)
more_lower (rank ∷ ranks) (suc k) m n at less =
    omega (arith, first_lower rank m ranks, first_lower rank n ranks, also_lower rank m n (omega arith), more_lower ranks k m n at less)

-- ---- steps with ranks

-- each wait of the step at a place is of a step at a place of lower rank
abbrev pub WaitsLower : OutcomeMap → (planned : List Wait) → (rank : ℕ → ℕ) → (place : ℕ) → Wait → Type 0
WaitsLower script planned rank place step =
    (i : ℕ) (wait : Wait) → slice_get (stated_waits script step.change step.step) i ≡ Some wait
    → (other : ℕ) × (slice_get planned other ≡ Some wait) × (other < length planned) × (rank other < rank place)

module _ (script : OutcomeMap) (planned : List Wait) (rank : ℕ → ℕ)
    (waits_lower : (place : ℕ) (step : Wait) → slice_get planned place ≡ Some step → WaitsLower script planned rank place step) where
  abbrev ranks : List ℕ
  ranks = map rank (range_with_len 0 (length planned))

  rank_at : (place : ℕ) → place < length planned → slice_get ranks place ≡ Some (rank place)
  rank_at place below = let same : 0 + place ≡ place = omega arith in range_got rank 0 (length planned) place below ∙ ap (λ n. Some (rank n)) same

  begins : (rounds place : ℕ) (step : Wait) → slice_get planned place ≡ Some step → lower ranks (rank place) < rounds → begins_at script rounds step ≡ true
  begins zero place step at few = absurd (omega arith)
  begins (suc rounds) place step at few =
      one_round_more script rounds step (all_from (begins_at script rounds) (stated_waits script step.change step.step) (λ i wait found.
      let other = waits_lower place step at i wait found in
      let less = more_lower ranks other.0 (rank other.0) (rank place) (rank_at other.0 other.2) other.3 in
      begins rounds other.0 wait other.1 (omega (arith, less, few))))

  -- there are at most two steps for each change
  pub could : (place : ℕ) (step : Wait) → slice_get planned place ≡ Some step → place < length planned → length planned ≤ 2 * length script
      → could_begin script step.change step.step ≡ true
  could place step at below few =
      let less = more_lower ranks place (rank place) (suc (rank place)) (rank_at place below) (omega arith) in
      let most : lower ranks (suc (rank place)) ≤ length ranks = count_by-le-length (λ (r : ℕ). ltb r (suc (rank place))) ranks in
      let many : length ranks ≡ length planned = length-map-range_with_len rank 0 (length planned) in
      within_more script step (suc (lower ranks (rank place))) (2 * length script) (omega (arith, less, most, many, few))
      (begins (suc (lower ranks (rank place))) place step at (omega arith))
