-- What changes of one address may do in a plan as Terraform makes it.
use Rattle.std.proofs.Common.{◌≡◌, ◌≢◌, ℕ, zero, suc, List, [], ◌∷◌, ◌++◌, length, true, false, Option, Some, None, refl, sym, ap, ◌∙◌, subst, ⊎_elim, is_some, slice_get}
use Rattle.std.specs.List.{AllByRecursion}
use Rattle.std.specs.Option.{option_map_or}
use Rattle.std.proofs.lemmas.Bool.{cases_Bool}
use Rattle.std.proofs.lemmas.Option.{get_or_from_slice_get, same_Some, slice_get_within}
use Rattle.apply_model.specs.declared.plan.step_kind.StepKind.{StepKind}
use Rattle.apply_model.specs.declared.plan.step_kind.StepKind.TheVariants as kind
use Rattle.laws_run.specs.Plans.{NamesEachObjectOnce}
use Rattle.apply_plan.specs.Plan.ResourceChange.{ResourceChange}
use Rattle.apply_plan.specs.Plan.SavedPlan.{SavedPlan}
use Rattle.stream_check.specs.declared.messages.action.Action.{Action}
use Rattle.stream_check.specs.declared.messages.action.Action.TheVariants.{Delete}
use Rattle.apply_events.specs.declared.event.Event.{Event}
use Rattle.apply_events.specs.Step.{address_of, kinds_of}
use Rattle.laws_check.specs.Plans.{IsChange, IsOrdinary}
use Rattle.laws_check.specs.ReadBack.{action_of}
use Rattle.laws_check.proofs.Deeds.{all_deeds, deed}
use Rattle.laws_check.proofs.Moves.{Apart, Sole}
use Rattle.laws_check.proofs.Turning.{AllKnown}

-- one of the steps of change c does so
abbrev pub Does : SavedPlan → ℕ → Action → Type 0
Does plan c k = (n : ℕ) × (step : StepKind) × (slice_get (kinds_of plan c) n ≡ Some step) × (k ≡ action_of step)

-- a change may have provisioners: its object is not deposed
abbrev pub Provides : SavedPlan → ℕ → Type 0
Provides plan c = (change : ResourceChange) × IsChange plan c change × (is_some change.deposed ≡ false)

-- the change whose step it is
abbrev pub Found : Option ResourceChange → ℕ → StepKind → Type 0
Found o n step = (change : ResourceChange) × (o ≡ Some change) × (slice_get change.steps n ≡ Some step)

pub located : (o : Option ResourceChange) (n : ℕ) (step : StepKind) → slice_get (option_map_or (λ (change : ResourceChange). change.steps) o []) n ≡ Some step → Found o n step
located None n step e = absurd cc
located (Some change) n step e = (change, refl, e)

pub address_is : (plan : SavedPlan) (c : ℕ) (change : ResourceChange) → IsChange plan c change → address_of plan c ≡ change.address
address_is plan c change e = ap (λ (o : Option ResourceChange). option_map_or (λ (change : ResourceChange). change.address) o []) e

not_some : {X : Type 0} (o : Option X) → is_some o ≡ false → o ≡ None
not_some None e = refl
not_some (Some x) e = absurd cc

-- ---- one object, one change

holds_at : (P : ResourceChange → Type 0) (changes : List ResourceChange) (c : ℕ) (change : ResourceChange) → AllByRecursion P changes → slice_get changes c ≡ Some change → P change
holds_at P [] c change h e = absurd cc
holds_at P (x ∷ changes) zero change h e = subst P (same_Some x change e) h.0
holds_at P (x ∷ changes) (suc c) change h e = holds_at P changes c change h.1 e

one_change : (changes : List ResourceChange) → NamesEachObjectOnce changes → (b c : ℕ) (one other : ResourceChange) → slice_get changes b ≡ Some one → slice_get changes c ≡ Some other
    → one.address ≡ other.address → one.deposed ≡ other.deposed → b ≡ c
one_change [] once b c one other e f address deposed = absurd cc
one_change (x ∷ changes) once zero zero one other e f address deposed = refl
one_change (x ∷ changes) once zero (suc c) one other e f address deposed =
    let is = same_Some x one e in
    absurd (holds_at _ changes c other once.0 f (sym address ∙ ap (λ (r : ResourceChange). r.address) (sym is), sym deposed ∙ ap (λ (r : ResourceChange). r.deposed) (sym is)))
one_change (x ∷ changes) once (suc b) zero one other e f address deposed =
    let is = same_Some x other f in
    absurd (holds_at _ changes b one once.0 e (address ∙ ap (λ (r : ResourceChange). r.address) (sym is), deposed ∙ ap (λ (r : ResourceChange). r.deposed) (sym is)))
one_change (x ∷ changes) once (suc b) (suc c) one other e f address deposed = ap suc (one_change changes once.1 b c one other e f address deposed)

module _ (plan : SavedPlan) (ordinary : IsOrdinary plan) where
  -- a deposed object's step is a delete
  pub deleted : (c n : ℕ) (step : StepKind) (change : ResourceChange) → IsChange plan c change → slice_get change.steps n ≡ Some step → is_some change.deposed ≡ true → step ≡ kind.Delete
  deleted c n step change is e deposed =
      subst (λ (x : StepKind). x ≡ kind.Delete) (get_or_from_slice_get change.steps n step step e) (ordinary.deleted c change is deposed n step (slice_get_within change.steps n step e))

  same_change : (b c : ℕ) (one other : ResourceChange) → IsChange plan b one → IsChange plan c other → address_of plan b ≡ address_of plan c → is_some one.deposed ≡ false → is_some other.deposed ≡ false → b ≡ c
  same_change b c one other is other_is same first second =
      one_change plan.changes ordinary.once b c one other is other_is (sym (address_is plan b one is) ∙ same ∙ address_is plan c other other_is) (not_some one.deposed first ∙ sym (not_some other.deposed second))

  sole : (b c : ℕ) (k : Action) → address_of plan b ≡ address_of plan c → Does plan b k → Does plan c k → b ≢ c → k ≡ Delete
  sole b c k same does also apart =
      let one = located (slice_get plan.changes b) does.0 does.1 does.2 in
      let other = located (slice_get plan.changes c) also.0 also.1 also.2 in
      ⊎_elim
      (λ yes. does.3 ∙ ap action_of (deleted b does.0 does.1 one.0 one.1 one.2 yes))
      (λ first. ⊎_elim
      (λ yes. also.3 ∙ ap action_of (deleted c also.0 also.1 other.0 other.1 other.2 yes))
      (λ second. absurd (apart (same_change b c one.0 other.0 one.1 other.1 same first second)))
      (cases_Bool (is_some other.0.deposed)))
      (cases_Bool (is_some one.0.deposed))

  pub apart : Apart (address_of plan) (Does plan)
  apart = sole

  pub only : Sole (address_of plan) (Provides plan)
  only b c same one other = same_change b c one.0 other.0 one.1 other.1 same one.2 other.2

-- ---- what happens is of the plan

abbrev pub Anywhere : List ℕ → Type 0
Anywhere a = Unit {0}

pub known : (plan : SavedPlan) (es : List Event) → AllKnown (length plan.changes) (address_of plan) Anywhere (Does plan) (Provides plan) (all_deeds plan es)
known plan [] = tt
known plan (e ∷ es) = one_known (slice_get (kinds_of plan e.change) e.step) refl (known plan es)
  where
    one_known : (o : Option StepKind) → slice_get (kinds_of plan e.change) e.step ≡ o → AllKnown (length plan.changes) (address_of plan) Anywhere (Does plan) (Provides plan) (all_deeds plan es)
        → AllKnown (length plan.changes) (address_of plan) Anywhere (Does plan) (Provides plan) (option_map_or (λ kind. deed e kind ∷ []) o [] ++ all_deeds plan es)
    one_known None lookup rest = rest
    one_known (Some step) lookup rest =
        let change = located (slice_get plan.changes e.change) e.step step lookup in
        ((slice_get_within plan.changes e.change change.0 change.1, tt, (e.step, step, lookup, refl)), rest)
