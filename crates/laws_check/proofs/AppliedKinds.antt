-- A step that is applied is a step of the plan.
use Rattle.std.proofs.Common.{◌≡◌, ℕ, zero, suc, List, [], ◌∷◌, Option, Some, None, slice_get, take}
use Rattle.std.specs.Option.{option_map_or}
use Rattle.apply_model.specs.declared.plan.step_kind.StepKind.{StepKind}
use Rattle.apply_model.specs.Script.OutcomeMap.{OutcomeMap, first_skipped}
use Rattle.apply_plan.specs.Plan.SavedPlan.{SavedPlan}
use Rattle.apply_events.specs.Step.{kinds_applied, kinds_of}

taken_is : {X : Type 0} (n : ℕ) (xs : List X) (i : ℕ) (x : X) → slice_get (take n xs) i ≡ Some x → slice_get xs i ≡ Some x
taken_is zero xs i x e = absurd cc
taken_is (suc n) [] i x e = absurd cc
taken_is (suc n) (y ∷ ys) zero x e = e
taken_is (suc n) (y ∷ ys) (suc i) x e = taken_is n ys i x e

pub applied_is_planned : (plan : SavedPlan) (script : OutcomeMap) (c i : ℕ) (kind : StepKind) → slice_get (kinds_applied plan script c) i ≡ Some kind → slice_get (kinds_of plan c) i ≡ Some kind
applied_is_planned plan script c i kind e = of_first (first_skipped script c) e
  where
    of_first : (first : Option ℕ) → slice_get (option_map_or (λ skipped. take skipped (kinds_of plan c)) first (kinds_of plan c)) i ≡ Some kind → slice_get (kinds_of plan c) i ≡ Some kind
    of_first None e = e
    of_first (Some skipped) e = taken_is skipped (kinds_of plan c) i kind e
