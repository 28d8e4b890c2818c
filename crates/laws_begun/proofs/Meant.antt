-- The step that a line means, by its address and its kind.
use Rattle.std.proofs.Common.{◌≡◌, ◌∙◌, ◌<◌, ℕ, zero, suc, true, List, [], length, Some, None, refl, sym, ap, arith, subst}
use Rattle.std.specs.Prelude.{◌≢◌, slice_get}
use Rattle.std.specs.Option.{option_map_or}
use Rattle.std.proofs.lemmas.Option.{same_Some, slice_get_within}
use Rattle.apply_model.specs.declared.plan.step_kind.StepKind.{StepKind}
use Rattle.apply_model.specs.declared.plan.step_kind.StepKind.TheVariants.{Create, Update, Delete, Read}
use Rattle.apply_model.specs.Plan.ResourceChange.{ResourceChange}
use Rattle.apply_model.specs.Plan.SavedPlan.{SavedPlan}
use Rattle.apply_model.specs.Plan.StepKind.{is_kind}
use Rattle.apply_events.specs.Step.{kinds_of}
use Rattle.stream_record_steps.specs.Steps.{PlannedStep}
use Rattle.laws_begun.specs.Followed.{AreApart}
use Rattle.laws_begun.proofs.Places.{IsPlanned, same_place}

-- ---- kinds

pub same_kind : (kind : StepKind) → is_kind kind kind ≡ true
same_kind Create = refl
same_kind Update = refl
same_kind Delete = refl
same_kind Read = refl

pub kinds_are : (one other : StepKind) → is_kind one other ≡ true → one ≡ other
kinds_are Create Create is = refl
kinds_are Update Update is = refl
kinds_are Delete Delete is = refl
kinds_are Read Read is = refl
kinds_are _ _ is = absurd cc

-- of at most two kinds that differ, one stands at one place
apart_at : (kinds : List StepKind) (n m : ℕ) (kind : StepKind) → length kinds < 3 → (slice_get kinds 0 ≡ Some kind → slice_get kinds 1 ≡ Some kind → ⊥)
    → slice_get kinds n ≡ Some kind → slice_get kinds m ≡ Some kind → n ≡ m
apart_at kinds zero zero kind few apart one other = refl
apart_at kinds zero (suc zero) kind few apart one other = absurd (apart one other)
apart_at kinds (suc zero) zero kind few apart one other = absurd (apart other one)
apart_at kinds (suc zero) (suc zero) kind few apart one other = refl
apart_at kinds (suc (suc n)) m kind few apart one other = let less = slice_get_within kinds (suc (suc n)) kind one in absurd (omega (arith, less, few))
apart_at kinds n (suc (suc m)) kind few apart one other = let less = slice_get_within kinds (suc (suc m)) kind other in absurd (omega (arith, less, few))

pub kinds_at : (plan : SavedPlan) (c : ℕ) (change : ResourceChange) → slice_get plan.changes c ≡ Some change → kinds_of plan c ≡ change.steps
kinds_at plan c change at = ap (λ o. option_map_or (λ (ch : ResourceChange). ch.steps) o []) at

-- ---- steps at one address

module _ (plan : SavedPlan) (apart : AreApart plan) where
  has_steps : (step : PlannedStep) → IsPlanned plan.changes step → step.change.steps ≢ []
  has_steps step planned none = let both : None ≡ Some step.kind = ap (λ kinds. slice_get kinds step.number) (sym none) ∙ planned.kind_at in absurd cc

  -- they are of one change
  pub one_change : (own step : PlannedStep) → IsPlanned plan.changes own → IsPlanned plan.changes step → own.change.address ≡ step.change.address → own.change_number ≡ step.change_number
  one_change own step here there same =
      apart.addresses own.change_number step.change_number own.change step.change here.change_at there.change_at (has_steps own here) (has_steps step there) same

  change_same : (own step : PlannedStep) → IsPlanned plan.changes own → IsPlanned plan.changes step → own.change_number ≡ step.change_number → own.change ≡ step.change
  change_same own step here there same = same_Some own.change step.change (sym here.change_at ∙ ap (slice_get plan.changes) same ∙ there.change_at)

  pub few_steps : (step : PlannedStep) → IsPlanned plan.changes step → length step.change.steps < 3
  few_steps step planned = subst (λ kinds. length kinds < 3) (kinds_at plan step.change_number step.change planned.change_at) (apart.few step.change_number)

  pub below_two : (step : PlannedStep) → IsPlanned plan.changes step → step.number < 2
  below_two step planned =
      let few = few_steps step planned in
      let less = slice_get_within step.change.steps step.number step.kind planned.kind_at in
      omega (arith, few, less)

  -- and of that kind there is one
  pub one_step : (own step : PlannedStep) → IsPlanned plan.changes own → IsPlanned plan.changes step → own.change.address ≡ step.change.address → own.kind ≡ step.kind → step.place ≡ own.place
  one_step own step here there same kind =
      let change = one_change own step here there same in
      let kinds = kinds_at plan own.change_number own.change here.change_at in
      let number = apart_at own.change.steps own.number step.number own.kind (few_steps own here)
      (λ first second. apart.kinds own.change_number own.kind (ap (λ ks. slice_get ks 0) kinds ∙ first) (ap (λ ks. slice_get ks 1) kinds ∙ second))
      here.kind_at
      (ap (λ (ch : ResourceChange). slice_get ch.steps step.number) (change_same own step here there change) ∙ there.kind_at ∙ ap Some (sym kind)) in
      sym (same_place plan.changes own step here there change number)
