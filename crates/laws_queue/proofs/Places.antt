-- Places of steps in the plan's order.
use Rattle.std.proofs.Common.{◌≡◌, ◌+◌, ◌-◌, ◌<◌, ◌≤◌, ℕ, zero, suc, length, arith, ⊎_elim, subst}
use Rattle.std.proofs.lemmas.Bool.{cases_eq, cases_lt}
use Rattle.apply_model.specs.Plan.SavedPlan.{SavedPlan}
use Rattle.apply_events.specs.Step.{kinds_of}
use Rattle.laws_queue.specs.OfLanes.{place_of}

module _ (plan : SavedPlan) where
  -- the steps of a later change stand behind those of a change
  pub place_later : (c d : ℕ) → c < d → place_of plan c + length (kinds_of plan c) ≤ place_of plan d
  place_later c zero lt = absurd (omega arith)
  place_later c (suc d) lt = ⊎_elim
      (λ (same : c ≡ d). subst (λ x. place_of plan c + length (kinds_of plan c) ≤ place_of plan (suc x)) same (let le : place_of plan c + length (kinds_of plan c) ≤ place_of plan (suc c) = omega arith in le))
      (λ (other : c ≡ d → ⊥). let rest = place_later c d (omega arith) in omega arith)
      (cases_eq c d)

  -- the step at a place
  pub record Located (count place : ℕ) : Type 0 where
    pub c : ℕ
    pub k : ℕ
    pub known : c < count
    pub has : k < length (kinds_of plan c)
    pub is : place ≡ place_of plan c + k

  pub located : (count place : ℕ) → place < place_of plan count → Located count place
  located zero place lt = absurd (omega arith)
  located (suc count) place lt = ⊎_elim
      (λ (low : place < place_of plan count).
      let rest = located count place low in
      let known = rest.known in record { c = rest.c; k = rest.k; known = omega arith; has = rest.has; is = rest.is })
      (λ (high : place_of plan count ≤ place). record { c = count; k = place - place_of plan count; known = omega arith; has = omega arith; is = omega arith })
      (cases_lt place (place_of plan count))
