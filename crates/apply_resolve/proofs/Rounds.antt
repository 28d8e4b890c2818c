-- Which steps could begin: rounds, and chains of steps each of which waits for the next.
use Rattle.std.proofs.Common.{◌≡◌, ℕ, zero, suc, ◌+◌, ◌-◌, ◌≤◌, Bool, true, false, List, [], ◌∷◌, ◌++◌, Some, refl, sym, ◌∙◌, arith, ⊎_elim}
use Rattle.std.specs.Prelude.{◌&&◌, ◌||◌, ◌==◌, slice_get}
use Rattle.std.specs.List.{AllByRecursion, list_all, list_any}
use Rattle.std.proofs.lemmas.Bool.{cases_Bool}
use Rattle.std.proofs.lemmas.Bool.Decides.{eqb_tells}
use Rattle.apply_model.specs.declared.script.wait.Wait.{Wait}
use Rattle.apply_model.specs.Script.OutcomeMap.{OutcomeMap}
use Rattle.apply_model.specs.Script.Waits.{begins_within, stated_waits}

-- ---- tests of all items

pub both_true : (a b : Bool) → (a && b) ≡ true → (a ≡ true) × (b ≡ true)
both_true true b e = (refl, e)
both_true false b e = absurd cc

and_true : (a b : Bool) → a ≡ true → b ≡ true → (a && b) ≡ true
and_true a b one other = rw (one, other) refl

one_false : (a b : Bool) → (b ≡ false) → (a && b) ≡ false
one_false true b none = none
one_false false b none = refl

all_more : {X : Type 0} (p q : X → Bool) → ((x : X) → p x ≡ true → q x ≡ true) → (xs : List X) → list_all p xs ≡ true → list_all q xs ≡ true
all_more p q more [] e = refl
all_more p q more (x ∷ xs) e = let both = both_true (p x) (list_all p xs) e in and_true (q x) (list_all q xs) (more x both.0) (all_more p q more xs both.1)

not_all : {X : Type 0} (p : X → Bool) (xs : List X) (k : ℕ) (x : X) → slice_get xs k ≡ Some x → p x ≡ false → list_all p xs ≡ false
not_all p [] k x at none = absurd cc
not_all p (y ∷ xs) zero x at none = let same : y ≡ x = cc in rw (same, none) refl
not_all p (y ∷ xs) (suc k) x at none = one_false (p y) (list_all p xs) (not_all p xs k x at none)

-- ---- rounds

abbrev pub begins_at : OutcomeMap → ℕ → Wait → Bool
begins_at script rounds wait = begins_within script rounds wait.change wait.step

-- a step begins where all that it waits for has begun in the rounds before
pub one_round_more : (script : OutcomeMap) (rounds : ℕ) (wait : Wait) → list_all (begins_at script rounds) (stated_waits script wait.change wait.step) ≡ true → begins_at script (suc rounds) wait ≡ true
unfolding begins_within
one_round_more script rounds wait all = all

waits_for_one : (script : OutcomeMap) (rounds : ℕ) (wait : Wait) (k : ℕ) (other : Wait) → slice_get (stated_waits script wait.change wait.step) k ≡ Some other → begins_at script rounds other ≡ false → begins_at script (suc rounds) wait ≡ false
unfolding begins_within
waits_for_one script rounds wait k other at none = not_all (begins_at script rounds) (stated_waits script wait.change wait.step) k other at none

never_at_first : (script : OutcomeMap) (wait : Wait) → begins_at script 0 wait ≡ false
unfolding begins_within
never_at_first script wait = refl

next_round : (script : OutcomeMap) (rounds : ℕ) (wait : Wait) → begins_at script rounds wait ≡ true → begins_at script (suc rounds) wait ≡ true
unfolding begins_within
next_round script zero wait e = absurd cc
next_round script (suc rounds) wait e = all_more (begins_at script rounds) (begins_at script (suc rounds)) (λ x begun. next_round script rounds x begun) (stated_waits script wait.change wait.step) e

-- what begins within some rounds begins within more
rounds_more : (script : OutcomeMap) (wait : Wait) (rounds more : ℕ) → begins_at script rounds wait ≡ true → begins_at script (more + rounds) wait ≡ true
rounds_more script wait rounds zero e = let same : 0 + rounds ≡ rounds = omega arith in rw same e
rounds_more script wait rounds (suc more) e =
    let next : suc more + rounds ≡ suc (more + rounds) = omega arith in
    rw next (next_round script (more + rounds) wait (rounds_more script wait rounds more e))

pub within_more : (script : OutcomeMap) (wait : Wait) (rounds more : ℕ) → rounds ≤ more → begins_at script rounds wait ≡ true → begins_at script more wait ≡ true
within_more script wait rounds more few e =
    let whole : more - rounds + rounds ≡ more = omega arith in
    let later = rounds_more script wait rounds (more - rounds) e in
    rw whole at later

-- ---- chains

-- the step is the other one
abbrev pub is_step : Wait → Wait → Bool
is_step one other = (one.change == other.change) && (one.step == other.step)

pub same_step : (one : Wait) → is_step one one ≡ true
same_step one = and_true (one.change == one.change) (one.step == one.step) (itself one.change) (itself one.step)
  where
    itself : (n : ℕ) → (n == n) ≡ true
    itself n = ⊎_elim (λ (yes : ((n == n) ≡ true) × (n ≡ n)). yes.0) (λ (no : ((n == n) ≡ false) × ((n ≡ n) → ⊥)). absurd (no.1 refl)) (eqb_tells n n)

equal_numbers : (a b : ℕ) → (a == b) ≡ true → a ≡ b
equal_numbers a b e = ⊎_elim (λ (yes : ((a == b) ≡ true) × (a ≡ b)). yes.1) (λ (no : ((a == b) ≡ false) × ((a ≡ b) → ⊥)). absurd cc) (eqb_tells a b)

pub steps_equal : (one other : Wait) → is_step one other ≡ true → (one.change ≡ other.change) × (one.step ≡ other.step)
steps_equal one other e =
    let both = both_true (one.change == other.change) (one.step == other.step) e in
    (equal_numbers one.change other.change both.0, equal_numbers one.step other.step both.1)

-- a step waits for another
abbrev pub WaitsFor : OutcomeMap → Wait → Wait → Type 0
WaitsFor script wait other = (k : ℕ) × (slice_get (stated_waits script wait.change wait.step) k ≡ Some other)

-- each step waits for the next
abbrev pub IsChain : OutcomeMap → List Wait → Type 0
IsChain script [] = Unit {0}
IsChain script (wait ∷ []) = Unit {0}
IsChain script (wait ∷ (other ∷ others)) = WaitsFor script wait other × IsChain script (other ∷ others)

pub chain_front : (script : OutcomeMap) (front : List Wait) (last : Wait) → IsChain script (front ++ last ∷ []) → IsChain script front
chain_front script [] last chain = tt
chain_front script (wait ∷ []) last chain = tt
chain_front script (wait ∷ (other ∷ others)) last chain = (chain.0, chain_front script (other ∷ others) last chain.1)

pub chain_more : (script : OutcomeMap) (front : List Wait) (last next : Wait) → IsChain script (front ++ last ∷ []) → WaitsFor script last next → IsChain script ((front ++ last ∷ []) ++ next ∷ [])
chain_more script [] last next chain waits = (waits, tt)
chain_more script (wait ∷ []) last next chain waits = (chain.0, (waits, tt))
chain_more script (wait ∷ (other ∷ others)) last next chain waits = (chain.0, chain_more script (other ∷ others) last next chain.1 waits)

-- none of the steps begins within so many rounds
abbrev NoneBegins : OutcomeMap → ℕ → List Wait → Type 0
NoneBegins script rounds waits = AllByRecursion (λ wait. begins_at script rounds wait ≡ false) waits

none_at_first : (script : OutcomeMap) (waits : List Wait) → NoneBegins script 0 waits
none_at_first script [] = tt
none_at_first script (wait ∷ waits) = (never_at_first script wait, none_at_first script waits)

-- nor within one more, where the last of them waits for one that does not
one_more : (script : OutcomeMap) (rounds : ℕ) (front : List Wait) (last other : Wait) → IsChain script (front ++ last ∷ []) → NoneBegins script rounds (front ++ last ∷ []) → WaitsFor script last other → begins_at script rounds other ≡ false
    → NoneBegins script (suc rounds) (front ++ last ∷ [])
one_more script rounds [] last other chain none waits not = (waits_for_one script rounds last waits.0 other waits.1 not, tt)
one_more script rounds (wait ∷ []) last other chain none waits not =
    (waits_for_one script rounds wait chain.0.0 last chain.0.1 none.1.0, one_more script rounds [] last other tt none.1 waits not)
one_more script rounds (wait ∷ (next ∷ rest)) last other chain none waits not =
    (waits_for_one script rounds wait chain.0.0 next chain.0.1 none.1.0, one_more script rounds (next ∷ rest) last other chain.1 none.1 waits not)

-- a step that waits for one that does not begin does not either, and so none on a chain to it
waits_for_none : (script : OutcomeMap) (rounds : ℕ) (wait other : Wait) → WaitsFor script wait other → begins_at script rounds other ≡ false → begins_at script rounds wait ≡ false
waits_for_none script rounds wait other waits none = ⊎_elim
    (λ (begun : begins_at script rounds wait ≡ true).
    let both : true ≡ false = sym (next_round script rounds wait begun) ∙ waits_for_one script rounds wait waits.0 other waits.1 none in absurd cc)
    (λ (not : begins_at script rounds wait ≡ false). not)
    (cases_Bool (begins_at script rounds wait))

none_to_unreachable : (script : OutcomeMap) (rounds : ℕ) (front : List Wait) (last other : Wait) → IsChain script (front ++ last ∷ []) → WaitsFor script last other → begins_at script rounds other ≡ false → NoneBegins script rounds (front ++ last ∷ [])
none_to_unreachable script rounds [] last other chain waits none = (waits_for_none script rounds last other waits none, tt)
none_to_unreachable script rounds (wait ∷ []) last other chain waits none =
    let rest = none_to_unreachable script rounds [] last other tt waits none in
    (waits_for_none script rounds wait last chain.0 rest.0, rest)
none_to_unreachable script rounds (wait ∷ (next ∷ rest)) last other chain waits none =
    let behind = none_to_unreachable script rounds (next ∷ rest) last other chain.1 waits none in
    (waits_for_none script rounds wait next chain.0 behind.0, behind)

or_either : (a b : Bool) → (a || b) ≡ true → (a ≡ false) → b ≡ true
or_either true b e none = absurd cc
or_either false b e none = e

among_none : (script : OutcomeMap) (rounds : ℕ) (waits : List Wait) (other : Wait) → NoneBegins script rounds waits → list_any (is_step other) waits ≡ true → begins_at script rounds other ≡ false
among_none script rounds [] other none among = absurd cc
among_none script rounds (wait ∷ waits) other none among = ⊎_elim
    (λ (same : is_step other wait ≡ true). let equal = steps_equal other wait same in rw (equal.0, equal.1) none.0)
    (λ (apart : is_step other wait ≡ false). among_none script rounds waits other none.1 (or_either (is_step other wait) (list_any (is_step other) waits) among apart))
    (cases_Bool (is_step other wait))

-- on a chain whose last step waits for one of it, no step ever begins
circle : (script : OutcomeMap) (rounds : ℕ) (front : List Wait) (last other : Wait) → IsChain script (front ++ last ∷ []) → WaitsFor script last other → list_any (is_step other) (front ++ last ∷ []) ≡ true
    → NoneBegins script rounds (front ++ last ∷ [])
circle script zero front last other chain waits among = none_at_first script (front ++ last ∷ [])
circle script (suc rounds) front last other chain waits among =
    let none = circle script rounds front last other chain waits among in
    one_more script rounds front last other chain none waits (among_none script rounds (front ++ last ∷ []) other none among)

pub none_of_circle : (script : OutcomeMap) (rounds : ℕ) (front : List Wait) (last other one : Wait) → IsChain script (front ++ last ∷ []) → WaitsFor script last other → list_any (is_step other) (front ++ last ∷ []) ≡ true
    → list_any (is_step one) (front ++ last ∷ []) ≡ true → begins_at script rounds one ≡ false
none_of_circle script rounds front last other one chain waits among here =
    among_none script rounds (front ++ last ∷ []) one (circle script rounds front last other chain waits among) here

pub none_of_unreachable : (script : OutcomeMap) (rounds : ℕ) (front : List Wait) (last other one : Wait) → IsChain script (front ++ last ∷ []) → WaitsFor script last other → begins_at script rounds other ≡ false
    → list_any (is_step one) (front ++ last ∷ []) ≡ true → begins_at script rounds one ≡ false
none_of_unreachable script rounds front last other one chain waits none here =
    among_none script rounds (front ++ last ∷ []) one (none_to_unreachable script rounds front last other chain waits none) here
