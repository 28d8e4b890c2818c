-- Plans and scripts that were read can be followed.
use Rattle.std.proofs.Common.{◌≡◌, ◌∙◌, ◌<◌, ℕ, Bool, true, false, List, [], ◌∷◌, length, Option, Some, None, refl, sym, arith, ⊎_elim}
use Rattle.std.specs.Prelude.{◌&&◌, All, is_some, slice_get}
use Rattle.std.specs.Option.{option_map_or}
use Rattle.std.proofs.lemmas.Bool.{and_parts, cases_Bool, or_cases, or_left, or_right}
use Rattle.apply_model.specs.declared.plan.step_kind.StepKind.{StepKind}
use Rattle.apply_model.specs.declared.plan.step_kind.StepKind.TheVariants.{Create, Delete}
use Rattle.apply_model.specs.Plan.ResourceChange.{ResourceChange}
use Rattle.apply_model.specs.Plan.SavedPlan.{SavedPlan}
use Rattle.apply_model.specs.Plan.StepKind.{is_kind}
use Rattle.apply_plan.specs.Script.Refusals.{takes_provisioners}
use Rattle.apply_events.specs.declared.event.Event.{Event}
use Rattle.apply_events.specs.Step.{Work, kinds_of}
use Rattle.apply_run.specs.Bytes.{Inputs, IsRead}
use Rattle.laws_check.specs.Plans.{AreStepsOfOne}
use Rattle.laws_check.proofs.Given.{held_at, is_given}
use Rattle.laws_check.proofs.PlanTexts.{IsReadable}
use Rattle.laws_check.proofs.WhatWasRead.{provisions, the_plan}
use Rattle.laws_begun.specs.Followed.{AreApart, HasAddressesApart, may_be_provisioned}
use Rattle.laws_begun.specs.Runs.{HasEnd, IsFollowable, ProvisionsFew}

-- ---- the steps of a change

few_of_one : (kinds : List StepKind) → AreStepsOfOne kinds → length kinds < 3
few_of_one [] one = omega arith
few_of_one (kind ∷ []) one = omega arith
few_of_one (Create ∷ Delete ∷ []) one = omega arith
few_of_one (Delete ∷ Create ∷ []) one = omega arith
few_of_one _ one = absurd one

kinds_of_one : (kinds : List StepKind) (kind : StepKind) → AreStepsOfOne kinds → slice_get kinds 0 ≡ Some kind → slice_get kinds 1 ≡ Some kind → ⊥
kinds_of_one [] kind one first second = cc
kinds_of_one (only ∷ []) kind one first second = cc
kinds_of_one (Create ∷ Delete ∷ []) kind one first second = let both : Some Create ≡ Some Delete = first ∙ sym second in cc
kinds_of_one (Delete ∷ Create ∷ []) kind one first second = let both : Some Delete ≡ Some Create = first ∙ sym second in cc
kinds_of_one _ kind one first second = one

-- a change that the plan has, or none
of_change : (plan : SavedPlan) (c : ℕ) (found : Option ResourceChange) → slice_get plan.changes c ≡ found
    → ((change : ResourceChange) → slice_get plan.changes c ≡ Some change → AreStepsOfOne change.steps) → AreStepsOfOne (option_map_or (λ (ch : ResourceChange). ch.steps) found [])
of_change plan c None at one = tt
of_change plan c (Some change) at one = one change at

change_of : (found : Option ResourceChange) (k : ℕ) (kind : StepKind) → slice_get (option_map_or (λ (ch : ResourceChange). ch.steps) found []) k ≡ Some kind
    → (change : ResourceChange) × (found ≡ Some change) × (slice_get change.steps k ≡ Some kind)
change_of None k kind at = absurd cc
change_of (Some change) k kind at = (change, refl, at)

may_take : (deposed : Bool) (k : ℕ) (kind : StepKind) → takes_provisioners deposed (k, kind) ≡ true → may_be_provisioned kind ≡ true
may_take deposed k kind takes = ⊎_elim
    (λ (create : is_kind Create kind ≡ true). or_left (is_kind Create kind) (is_kind Delete kind) create)
    (λ (delete : (is_kind Delete kind && _) ≡ true). or_right (is_kind Create kind) (is_kind Delete kind) (and_parts (is_kind Delete kind) _ delete).0)
    (or_cases (is_kind Create kind) _ takes)

module _ (given : Inputs) (work : Work) (read : IsRead given work.plan work.script) where
  steps_of_one : (c : ℕ) → AreStepsOfOne (kinds_of work.plan c)
  steps_of_one c = of_change work.plan c (slice_get work.plan.changes c) refl (λ change at.
      (is_given IsReadable (slice_get work.plan.changes c) change
      (held_at IsReadable work.plan.changes c (the_plan given work.plan work.script read).changes) at).of_one)

  pub are_apart : HasAddressesApart work.plan → AreApart work.plan
  are_apart addresses = record {
    addresses = addresses;
    few = λ c. few_of_one (kinds_of work.plan c) (steps_of_one c);
    kinds = λ c kind first second. kinds_of_one (kinds_of work.plan c) kind (steps_of_one c) first second;
  }

  provisions_few : ProvisionsFew work
  provisions_few c k kind at some =
      let there = change_of (slice_get work.plan.changes c) k kind at in
      let change = there.0 in ⊎_elim
      (λ (takes : takes_provisioners (is_some change.deposed) (k, kind) ≡ true). may_take (is_some change.deposed) k kind takes)
      (λ (bare : takes_provisioners (is_some change.deposed) (k, kind) ≡ false). absurd (some (provisions given work.plan work.script read c k change kind there.1 there.2 bare)))
      (cases_Bool (takes_provisioners (is_some change.deposed) (k, kind)))

  pub is_followable : (events : List Event) → work.hooks ≡ [] → HasAddressesApart work.plan → All (λ event. HasEnd work event.change event.step) events → IsFollowable work events
  is_followable events hooks addresses ends = record {
    hooks = hooks;
    apart = are_apart addresses;
    ends = ends;
    provisioners = provisions_few;
  }
