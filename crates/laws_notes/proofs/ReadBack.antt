-- An assignment states the diagnostics that steps were given one after another.
use Rattle.std.proofs.Common.{◌≡◌, ◌≢◌, ◌∙◌, ℕ, zero, suc, ◌+◌, ◌<◌, List, [], ◌∷◌, Contains, Bool, true, false, cond, not, length, map, replicate, slice_get, slice_set, Option, None, Some, refl, sym, ap, arith}
use Rattle.std.specs.Prelude.{option_and_then}
use Rattle.std.specs.List.{AllByRecursion}
use Rattle.std.specs.Option.{option_map_or}
use Rattle.std.proofs.lemmas.Option.{slice_get_within}
use Rattle.apply_model.specs.declared.details.note.Note.{Note}
use Rattle.stream_record_outcomes.specs.Assignment.{Assignment, Taker, give, is_left, left_from, note_of_step}
use Rattle.laws_notes.specs.Told.{AreDistinct}
use Rattle.laws_notes.proofs.Dealt.{dealt, giving, goes, undealt}

-- ---- lists

pub in_head : {X : Type 0} (x : X) (xs : List X) → Contains (x ∷ xs) x
in_head x xs = (0, omega arith, refl)

pub in_tail : {X : Type 0} (y : X) (xs : List X) (x : X) → Contains xs x → Contains (y ∷ xs) x
in_tail y xs x h = let lt = h.1 in (suc h.0, omega arith, h.2)

get_set_same : {X : Type 0} (xs : List X) (n : ℕ) (y : X) → n < length xs → slice_get (slice_set xs n y) n ≡ Some y
get_set_same [] n y below = absurd (omega arith)
get_set_same (x ∷ xs) zero y below = refl
get_set_same (x ∷ xs) (suc n) y below = get_set_same xs n y (omega arith)

get_set_other : {X : Type 0} (xs : List X) (n k : ℕ) (y : X) → n ≢ k → slice_get (slice_set xs n y) k ≡ slice_get xs k
get_set_other [] n k y other = refl
get_set_other (x ∷ xs) zero zero y other = absurd (other refl)
get_set_other (x ∷ xs) zero (suc k) y other = refl
get_set_other (x ∷ xs) (suc n) zero y other = refl
get_set_other (x ∷ xs) (suc n) (suc k) y other = get_set_other xs n k y (λ same. other (ap suc same))

pub get_replicated : {X : Type 0} (n k : ℕ) (x : X) → k < n → slice_get (replicate n x) k ≡ Some x
get_replicated zero k x below = absurd (omega arith)
get_replicated (suc n) zero x below = refl
get_replicated (suc n) (suc k) x below = get_replicated n k x (omega arith)

-- ---- what stays as it was

module _ (taker : ℕ → Option Taker) where
  other_steps : (notes : List Note) (number : ℕ) (places : List ℕ) (before : Assignment) (place : ℕ) → (Contains places place → ⊥)
      → slice_get (giving taker notes number places before).of_step place ≡ slice_get before.of_step place
  other_steps notes number [] before place out = refl
  other_steps [] number (first ∷ places) before place out =
      other_steps [] number places before place (λ there. out (in_tail first places place there))
  other_steps (note ∷ notes) number (first ∷ places) before place out =
      let other : first ≢ place = λ same. out (rw same (in_head place places)) in
      elim (goes (taker first) note) as (λ b.
      slice_get (cond b (giving taker notes (number + 1) places (give first number before)) (giving taker (note ∷ notes) number places before)).of_step place
      ≡ slice_get before.of_step place) [
        | true ↦
            other_steps notes (number + 1) places (give first number before) place (λ there. out (in_tail first places place there))
            ∙ get_set_other before.of_step first place (Some number) other
        | false ↦ other_steps (note ∷ notes) number places before place (λ there. out (in_tail first places place there))
      ]

  earlier_notes : (notes : List Note) (number : ℕ) (places : List ℕ) (before : Assignment) (k : ℕ) → k < number
      → slice_get (giving taker notes number places before).is_taken k ≡ slice_get before.is_taken k
  earlier_notes notes number [] before k below = refl
  earlier_notes [] number (first ∷ places) before k below = earlier_notes [] number places before k below
  earlier_notes (note ∷ notes) number (first ∷ places) before k below =
      let other : number ≢ k = omega arith in
      elim (goes (taker first) note) as (λ b.
      slice_get (cond b (giving taker notes (number + 1) places (give first number before)) (giving taker (note ∷ notes) number places before)).is_taken k
      ≡ slice_get before.is_taken k) [
        | true ↦
            earlier_notes notes (number + 1) places (give first number before) k (omega arith)
            ∙ get_set_other before.is_taken number k true other
        | false ↦ earlier_notes (note ∷ notes) number places before k below
      ]

-- ---- none has a diagnostic yet

abbrev IsFree : Assignment → (place : ℕ) → Type 0
IsFree before place = slice_get before.of_step place ≡ Some None

-- These diagnostics stand from the number on in all, and no step has one. The steps have none.
pub record AreReady (all notes : List Note) (number : ℕ) (places : List ℕ) (before : Assignment) : Type 0 where
  pub from : (k : ℕ) → slice_get all (number + k) ≡ slice_get notes k
  pub free : AllByRecursion (IsFree before) places
  pub fresh : (k : ℕ) → k < length notes → slice_get before.is_taken (number + k) ≡ Some false

still_free : (place number : ℕ) (before : Assignment) (places : List ℕ) → (Contains places place → ⊥)
    → AllByRecursion (IsFree before) places → AllByRecursion (IsFree (give place number before)) places
still_free place number before [] out free = tt
still_free place number before (first ∷ places) out free =
    let other : place ≢ first = λ same. out (rw same (in_head first places)) in (
      get_set_other before.of_step place first (Some number) other ∙ free.0,
      still_free place number before places (λ there. out (in_tail first places place there)) free.1,
    )

passed : (all notes : List Note) (number place : ℕ) (places : List ℕ) (before : Assignment)
    → AreReady all notes number (place ∷ places) before → AreReady all notes number places before
passed all notes number place places before ready = record { from = ready.from; free = ready.free.1; fresh = ready.fresh }

given : (all : List Note) (note : Note) (notes : List Note) (number place : ℕ) (places : List ℕ) (before : Assignment) → (Contains places place → ⊥)
    → AreReady all (note ∷ notes) number (place ∷ places) before → AreReady all notes (number + 1) places (give place number before)
given all note notes number place places before out ready = record {
  from = λ k.
      let next : number + 1 + k ≡ number + suc k = omega arith in
      ap (λ (n : ℕ). slice_get all n) next ∙ ready.from (suc k);
  free = still_free place number before places out ready.free.1;
  fresh = λ k below.
      let next : number + 1 + k ≡ number + suc k = omega arith in
      let other : number ≢ number + 1 + k = omega arith in
      get_set_other before.is_taken number (number + 1 + k) true other
      ∙ ap (λ (n : ℕ). slice_get before.is_taken n) next
      ∙ ready.fresh (suc k) (omega arith);
}

-- ---- the diagnostic of each step

step_has : (all : List Note) (after : Assignment) (place : ℕ) (number : Option ℕ) → slice_get after.of_step place ≡ Some number
    → note_of_step all after place ≡ option_and_then (λ n. slice_get all n) number
step_has all after place number is =
    ap (λ (found : Option (Option ℕ)). option_and_then (λ n. slice_get all n) (option_and_then (λ n. n) found)) is

taken_not_left : (after : Assignment) (number : ℕ) (b : Bool) → slice_get after.is_taken number ≡ Some b → is_left after number ≡ not b
taken_not_left after number b is = ap (λ (found : Option Bool). option_map_or not found false) is

all_left : (number : ℕ) (notes : List Note) (before : Assignment)
    → ((k : ℕ) → k < length notes → slice_get before.is_taken (number + k) ≡ Some false) → left_from number notes before ≡ notes
all_left number [] before fresh = refl
all_left number (note ∷ notes) before fresh =
    let here : number + 0 ≡ number = omega arith in
    let first = taken_not_left before number false (sym (ap (λ (n : ℕ). slice_get before.is_taken n) here) ∙ fresh 0 (omega arith)) in
    ap (λ (b : Bool). cond b (note ∷ left_from (number + 1) notes before) (left_from (number + 1) notes before)) first
    ∙ ap (λ (ns : List Note). note ∷ ns) (all_left (number + 1) notes before (λ k below.
    let next : number + 1 + k ≡ number + suc k = omega arith in
    ap (λ (n : ℕ). slice_get before.is_taken n) next ∙ fresh (suc k) (omega arith)))

module _ (taker : ℕ → Option Taker) (all : List Note) where
  -- the step at a place that took no diagnostic
  has_no_note : (notes : List Note) (number place : ℕ) (places : List ℕ) (before : Assignment) → (Contains places place → ⊥) → IsFree before place
      → note_of_step all (giving taker notes number places before) place ≡ None
  has_no_note notes number place places before out free =
      step_has all (giving taker notes number places before) place None (other_steps taker notes number places before place out ∙ free)

  has_note : (note : Note) (notes : List Note) (number place : ℕ) (places : List ℕ) (before : Assignment) → (Contains places place → ⊥)
      → AreReady all (note ∷ notes) number (place ∷ places) before
      → note_of_step all (giving taker notes (number + 1) places (give place number before)) place ≡ Some note
  has_note note notes number place places before out ready =
      let here : number ≡ number + 0 = omega arith in
      step_has all (giving taker notes (number + 1) places (give place number before)) place (Some number)
      (other_steps taker notes (number + 1) places (give place number before) place out
      ∙ get_set_same before.of_step place (Some number) (slice_get_within before.of_step place None ready.free.0))
      ∙ ap (λ (n : ℕ). slice_get all n) here
      ∙ ready.from 0

  pub read_back : (notes : List Note) (number : ℕ) (places : List ℕ) (before : Assignment) → AreDistinct places
      → AreReady all notes number places before
      → map (note_of_step all (giving taker notes number places before)) places ≡ dealt taker notes places
  read_back notes number [] before distinct ready = refl
  read_back [] number (place ∷ places) before distinct ready =
      let first = has_no_note [] number place places before distinct.0 ready.free.0 in
      ap (λ (n : Option Note). n ∷ map (note_of_step all (giving taker [] number places before)) places) first
      ∙ ap (λ (ns : List (Option Note)). None ∷ ns) (read_back [] number places before distinct.1 (passed all [] number place places before ready))
  read_back (note ∷ notes) number (place ∷ places) before distinct ready =
      elim (goes (taker place) note) as (λ b.
      map (note_of_step all (cond b (giving taker notes (number + 1) places (give place number before)) (giving taker (note ∷ notes) number places before))) (place ∷ places)
      ≡ cond b (Some note ∷ dealt taker notes places) (None ∷ dealt taker (note ∷ notes) places)) [
        | true ↦
            ap (λ (n : Option Note). n ∷ map (note_of_step all (giving taker notes (number + 1) places (give place number before))) places)
            (has_note note notes number place places before distinct.0 ready)
            ∙ ap (λ (ns : List (Option Note)). Some note ∷ ns)
            (read_back notes (number + 1) places (give place number before) distinct.1 (given all note notes number place places before distinct.0 ready))
        | false ↦
            ap (λ (n : Option Note). n ∷ map (note_of_step all (giving taker (note ∷ notes) number places before)) places)
            (has_no_note (note ∷ notes) number place places before distinct.0 ready.free.0)
            ∙ ap (λ (ns : List (Option Note)). None ∷ ns)
            (read_back (note ∷ notes) number places before distinct.1 (passed all (note ∷ notes) number place places before ready))
      ]

  -- ---- the diagnostics that are left

  first_is_taken : (note : Note) (notes : List Note) (number place : ℕ) (places : List ℕ) (before : Assignment)
      → AreReady all (note ∷ notes) number (place ∷ places) before
      → is_left (giving taker notes (number + 1) places (give place number before)) number ≡ false
  first_is_taken note notes number place places before ready =
      let here : number + 0 ≡ number = omega arith in
      let fresh = sym (ap (λ (n : ℕ). slice_get before.is_taken n) here) ∙ ready.fresh 0 (omega arith) in
      taken_not_left (giving taker notes (number + 1) places (give place number before)) number true
      (earlier_notes taker notes (number + 1) places (give place number before) number (omega arith)
      ∙ get_set_same before.is_taken number true (slice_get_within before.is_taken number false fresh))

  pub left_back : (notes : List Note) (number : ℕ) (places : List ℕ) (before : Assignment) → AreDistinct places
      → AreReady all notes number places before
      → left_from number notes (giving taker notes number places before) ≡ undealt taker notes places
  left_back notes number [] before distinct ready = all_left number notes before ready.fresh
  left_back [] number (place ∷ places) before distinct ready =
      left_back [] number places before distinct.1 (passed all [] number place places before ready)
  left_back (note ∷ notes) number (place ∷ places) before distinct ready =
      elim (goes (taker place) note) as (λ b.
      left_from number (note ∷ notes) (cond b (giving taker notes (number + 1) places (give place number before)) (giving taker (note ∷ notes) number places before))
      ≡ cond b (undealt taker notes places) (undealt taker (note ∷ notes) places)) [
        | true ↦
            let after = giving taker notes (number + 1) places (give place number before) in
            ap (λ (b : Bool). cond b (note ∷ left_from (number + 1) notes after) (left_from (number + 1) notes after))
            (first_is_taken note notes number place places before ready)
            ∙ left_back notes (number + 1) places (give place number before) distinct.1 (given all note notes number place places before distinct.0 ready)
        | false ↦ left_back (note ∷ notes) number places before distinct.1 (passed all (note ∷ notes) number place places before ready)
      ]
