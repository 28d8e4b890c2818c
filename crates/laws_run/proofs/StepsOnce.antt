-- A step stands once among the steps of a plan, and a change once among its changes.
use Rattle.std.proofs.Common.{◌≡◌, ◌≢◌, ℕ, zero, suc, ◌+◌, ◌<◌, ◌≤◌, nat_eq, Bool, ◌&&◌, List, [], ◌∷◌, length, map, sum_by, sym, refl, ap, ◌∙◌, ⊎_elim, arith, ne_eqb}
use Rattle.std.specs.List.{flat_map, range_with_len}
use Rattle.std.proofs.Math.Bool.{and-false}
use Rattle.std.proofs.lemmas.Bool.Decides.{eqb_tells}
use Rattle.std.proofs.lemmas.List.Sums.{sum_by-append, sum_by-cons}
use Rattle.apply_model.specs.declared.script.wait.Wait.{Wait}
use Rattle.apply_model.specs.Plan.SavedPlan.{SavedPlan}
use Rattle.apply_events.specs.Step.{kinds_of}
use Rattle.laws_run.specs.StepsUnderWay.{steps_of_change, steps_of_plan}
use Rattle.laws_run.proofs.OpenInLanes.{bit, bit_le}

none_above : (f : ℕ → ℕ) (c a m : ℕ) → c < a → ((x : ℕ) → x ≢ c → f x ≡ 0) → sum_by f (range_with_len a m) ≡ 0
none_above f c a zero lt others = refl
none_above f c a (suc m) lt others =
    let here = others a (λ is. omega arith) in let rest = none_above f c (a + 1) m (omega arith) others in
    sum_by-cons f a (range_with_len (a + 1) m) ∙ omega arith

one_counts : (f : ℕ → ℕ) (c a m : ℕ) → ((x : ℕ) → f x ≤ 1) → ((x : ℕ) → x ≢ c → f x ≡ 0) → sum_by f (range_with_len a m) ≤ 1
one_counts f c a zero few others = omega arith
one_counts f c a (suc m) few others =
    let both = sum_by-cons f a (range_with_len (a + 1) m) in
    ⊎_elim
    (λ (d : _ × (a ≡ c)). let is = d.1 in let here = few a in let rest = none_above f c (a + 1) m (omega arith) others in omega arith)
    (λ (d : _ × (a ≢ c)). let here = others a d.1 in let rest = one_counts f c (a + 1) m few others in omega arith)
    (eqb_tells a c)

-- ---- changes

-- number x is the number of the change
abbrev pub is_change : (x c k : ℕ) → Bool
is_change x c k = nat_eq c x

pub each_change_once : (m c k : ℕ) → sum_by (λ x. bit (is_change x c k)) (range_with_len 0 m) ≤ 1
each_change_once m c k = one_counts (λ x. bit (is_change x c k)) c 0 m (λ x. bit_le (is_change x c k)) (λ x other. ap bit (ne_eqb c x (λ is. other (sym is))))

-- ---- steps

-- the step is step k of change c
abbrev pub is_step : Wait → (c k : ℕ) → Bool
is_step name c k = nat_eq c name.change && nat_eq k name.step

mapped : {X Y : Type 0} (f : Y → ℕ) (g : X → Y) (xs : List X) → sum_by f (map g xs) ≡ sum_by (λ x. f (g x)) xs
mapped f g [] = refl
mapped f g (x ∷ xs) =
    let all = sum_by-cons f (g x) (map g xs) in let here = sum_by-cons (λ x. f (g x)) x xs in let rest = mapped f g xs in omega arith

flat : {X Y : Type 0} (f : Y → ℕ) (g : X → List Y) (xs : List X) → sum_by f (flat_map g xs) ≡ sum_by (λ x. sum_by f (g x)) xs
flat f g [] = refl
flat f g (x ∷ xs) =
    let all = sum_by-append f (g x) (flat_map g xs) in let here = sum_by-cons (λ x. sum_by f (g x)) x xs in let rest = flat f g xs in omega arith

abbrev step_at : (c k : ℕ) → Wait
step_at c k = record { change = c; step = k }

module _ (plan : SavedPlan) (c k : ℕ) where
  abbrev counted : Wait → ℕ
  counted name = bit (is_step name c k)

  one_in_change : (d : ℕ) → sum_by counted (steps_of_change plan d) ≤ 1
  one_in_change d =
      let count = length (kinds_of plan d) in
      let sum = mapped counted (step_at d) (range_with_len 0 count) in
      let few = one_counts (λ j. counted (step_at d j)) k 0 count (λ j. bit_le (is_step (step_at d j) c k))
      (λ j other. ap (λ t. bit (nat_eq c d && t)) (ne_eqb k j (λ is. other (sym is))) ∙ ap bit (and-false (nat_eq c d))) in
      omega arith

  none_in_other : (d : ℕ) → d ≢ c → sum_by counted (steps_of_change plan d) ≡ 0
  none_in_other d other =
      mapped counted (step_at d) (range_with_len 0 (length (kinds_of plan d)))
      ∙ nothing (range_with_len 0 (length (kinds_of plan d)))
    where
      nothing : (ks : List ℕ) → sum_by (λ j. counted (step_at d j)) ks ≡ 0
      nothing [] = refl
      nothing (j ∷ ks) =
          let here : counted (step_at d j) ≡ 0 = ap (λ t. bit (t && nat_eq k j)) (ne_eqb c d (λ is. other (sym is))) in
          let rest = nothing ks in
          sum_by-cons (λ j. counted (step_at d j)) j ks ∙ omega arith

  pub each_step_once : sum_by counted (steps_of_plan plan) ≤ 1
  each_step_once =
      let all = flat counted (steps_of_change plan) (range_with_len 0 (length plan.changes)) in
      let few = one_counts (λ d. sum_by counted (steps_of_change plan d)) c 0 (length plan.changes) one_in_change none_in_other in
      omega arith
