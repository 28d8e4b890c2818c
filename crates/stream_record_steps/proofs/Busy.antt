-- How many steps are busy, after one slot changes.
use Rattle.std.proofs.Common.{◌≡◌, ◌+◌, ◌≤◌, ◌∙◌, ℕ, zero, suc, List, [], ◌∷◌, Option, Some, None, Result, Ok, Err, OnOk, OnErr, cond, ap, arith, refl, sym}
use Rattle.std.specs.Prelude.{option_map, slice_set}
use Rattle.std.proofs.lemmas.List.Sums.{sum_by-cons}
use Rattle.stream_record_steps.specs.declared.begun_step.BegunStep.{BegunStep}
use Rattle.stream_record_steps.specs.declared.step_facts.StepFact.{StepFact}
use Rattle.stream_record_steps.specs.Begun.{begun_at, busy_at, busy_count, is_busy}
use Rattle.stream_record_steps.specs.UnderWay.{plus_fact, with_fact}

counted : (x : Option BegunStep) (xs : List (Option BegunStep)) → busy_count (x ∷ xs) ≡ cond (is_busy x) 1 0 + busy_count xs
counted x xs = sum_by-cons (λ (slot : Option BegunStep). cond (is_busy slot) 1 0) x xs

here : (x : Option BegunStep) (xs : List (Option BegunStep)) → busy_at (x ∷ xs) 0 ≡ cond (is_busy x) 1 0
here x xs = refl

changed_first : (x slot : Option BegunStep) (xs : List (Option BegunStep))
    → busy_count (slot ∷ xs) + busy_at (x ∷ xs) 0 ≡ busy_count (x ∷ xs) + busy_at (slot ∷ xs) 0
changed_first x slot xs = omega (arith, counted x xs, counted slot xs, here x xs, here slot xs)

changed_later : (x : Option BegunStep) (xs ys : List (Option BegunStep)) (was now : ℕ) → busy_count ys + was ≡ busy_count xs + now
    → busy_count (x ∷ ys) + was ≡ busy_count (x ∷ xs) + now
changed_later x xs ys was now same = omega (arith, counted x xs, counted x ys, same)

pub busy_changed : (slots : List (Option BegunStep)) (place : ℕ) (slot : Option BegunStep)
    → busy_count (slice_set slots place slot) + busy_at slots place ≡ busy_count slots + busy_at (slice_set slots place slot) place
busy_changed [] place slot = refl
busy_changed (x ∷ xs) zero slot = changed_first x slot xs
busy_changed (x ∷ xs) (suc n) slot =
    changed_later x xs (slice_set xs n slot) (busy_at xs n) (busy_at (slice_set xs n slot) n) (busy_changed xs n slot)

later_within : (x : Option BegunStep) (xs : List (Option BegunStep)) (was : ℕ) → was ≤ busy_count xs → was ≤ busy_count (x ∷ xs)
later_within x xs was below = omega (arith, counted x xs, below)

pub busy_within : (slots : List (Option BegunStep)) (place : ℕ) → busy_at slots place ≤ busy_count slots
busy_within [] place = omega arith
busy_within (x ∷ xs) zero = omega (arith, counted x xs, here x xs)
busy_within (x ∷ xs) (suc n) = later_within x xs (busy_at xs n) (busy_within xs n)

-- a fact leaves a step as busy as it was
still_busy : (slots : List (Option BegunStep)) (place : ℕ) (fact : StepFact) → busy_at (with_fact place fact slots) place ≡ busy_at slots place
still_busy [] place fact = refl
still_busy (None ∷ xs) zero fact = refl
still_busy (Some step ∷ xs) zero fact = refl
still_busy (x ∷ xs) (suc n) fact = still_busy xs n fact

pub busy_after_fact : (slots : List (Option BegunStep)) (place : ℕ) (fact : StepFact) → busy_count (with_fact place fact slots) ≡ busy_count slots
busy_after_fact slots place fact =
    omega (arith, busy_changed slots place (option_map (plus_fact fact) (begun_at slots place)), still_busy slots place fact)

-- whether the fact was added or not
pub busy_whatever : {T E : Type 0} (r : Result T E) (old new : List (Option BegunStep)) (place : ℕ) (fact : StepFact) (busy : ℕ) → busy ≡ busy_count old
    → OnOk r (new ≡ with_fact place fact old) → OnErr r (new ≡ old) → busy ≡ busy_count new
busy_whatever (Ok x) old new place fact busy was added unchanged = was ∙ sym (ap busy_count added ∙ busy_after_fact old place fact)
busy_whatever (Err e) old new place fact busy was added unchanged = was ∙ sym (ap busy_count unchanged)
