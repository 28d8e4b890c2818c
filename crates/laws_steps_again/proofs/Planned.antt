-- Where the steps of a plan stand.
use Rattle.std.proofs.Common.{◌≡◌, ◌∙◌, ℕ, Bool, true, false, ◌&&◌, cond, eqb, eq-eqb, List, [], ◌∷◌, Some, refl, sym, ap, ⊎_elim}
use Rattle.std.specs.Prelude.{slice_get}
use Rattle.std.specs.List.{Contains, find}
use Rattle.std.proofs.lemmas.Bool.{and_parts, eqb-true}
use Rattle.apply_model.specs.declared.plan.step_kind.StepKind.{StepKind}
use Rattle.apply_model.specs.Plan.ResourceChange.{ResourceChange}
use Rattle.apply_model.specs.Plan.SavedPlan.{SavedPlan}
use Rattle.apply_events.specs.Step.{kinds_of}
use Rattle.apply_events.proofs.Waits.Members.{in_cases, in_head, in_tail, not_in_none}
use Rattle.stream_record_steps.specs.Steps.{PlannedStep, planned_steps}
use Rattle.laws_begun.specs.Followed.{is_numbered}
use Rattle.laws_begun.proofs.Places as begun
use Rattle.laws_begun.proofs.Places.{IsOfChange, base, contains_at, is_planned, planned_at, same_change}
use Rattle.laws_waits.specs.Places.{place_of}
use Rattle.laws_waits.proofs.ChangeSteps.{change_of_kind}
use Rattle.laws_waits.proofs.StepPlaces.{in_stream}
use Rattle.laws_steps_again.specs.Places.{step_of_plan}

-- Step k of change c, which is of this kind, and where it stands.
pub record IsInPlan (plan : SavedPlan) (c k : ℕ) (kind : StepKind) : Type 0 where
  pub change : ResourceChange
  pub change_at : slice_get plan.changes c ≡ Some change
  pub kind_at : slice_get change.steps k ≡ Some kind
  pub planned_at : slice_get (planned_steps plan.changes) (place_of plan.changes c k) ≡ Some (step_of_plan plan.changes change c k kind)
  pub among : Contains (planned_steps plan.changes) (step_of_plan plan.changes change c k kind)

pub in_plan : (plan : SavedPlan) (c k : ℕ) (kind : StepKind) → slice_get (kinds_of plan c) k ≡ Some kind → IsInPlan plan c k kind
in_plan plan c k kind at =
    let own = change_of_kind (slice_get plan.changes c) k kind at in
    let there = in_stream plan.changes c k own.0 kind own.1 own.2 in record {
      change = own.0;
      change_at = own.1;
      kind_at = own.2;
      planned_at = there;
      among = contains_at (planned_steps plan.changes) (place_of plan.changes c k) (step_of_plan plan.changes own.0 c k kind) there;
    }

-- Steps at the same place are the same.
pub one_place : (plan : SavedPlan) (c k d j : ℕ) (kind other : StepKind) → IsInPlan plan c k kind → IsInPlan plan d j other → place_of plan.changes c k ≡ place_of plan.changes d j
    → (c ≡ d) × (k ≡ j)
one_place plan c k d j kind other one two same =
    let steps = same_change plan.changes (step_of_plan plan.changes one.change c k kind) (step_of_plan plan.changes two.change d j other) one.among two.among same in
    (ap (λ (s : PlannedStep). s.change_number) steps, ap (λ (s : PlannedStep). s.number) steps)

-- ---- a step by its numbers

find_only : {X : Type 0} (p : X → Bool) (xs : List X) (x : X) → Contains xs x → p x ≡ true → ((y : X) → Contains xs y → p y ≡ true → y ≡ x) → find p xs ≡ Some x
find_only p [] x has is only = absurd (not_in_none x has)
find_only p (y ∷ xs) x has is only = either (p y) refl (λ later. find_only p xs x later is (λ z there. only z (in_tail y xs z there)))
  where
    either : (t : Bool) → p y ≡ t → (Contains xs x → find p xs ≡ Some x) → cond t (Some y) (find p xs) ≡ Some x
    either true meets rest = ap Some (only y (in_head y xs) meets)
    either false fails rest = ⊎_elim
        (λ (first : y ≡ x). let both : true ≡ false = sym is ∙ ap p (sym first) ∙ fails in cc)
        (λ (later : Contains xs x). rest later)
        (in_cases y xs x has)

pub numbered_is : (plan : SavedPlan) (c k : ℕ) (kind : StepKind) (own : IsInPlan plan c k kind)
    → find (is_numbered c k) (planned_steps plan.changes) ≡ Some (step_of_plan plan.changes own.change c k kind)
numbered_is plan c k kind own =
    let mine = step_of_plan plan.changes own.change c k kind in
    let own_numbers : (eqb c c && eqb k k) ≡ true = ap (λ t. t && eqb k k) (eq-eqb c c refl) ∙ eq-eqb k k refl in
    find_only (is_numbered c k) (planned_steps plan.changes) mine own.among own_numbers
    (λ other among numbered.
    let both = and_parts (eqb other.change_number c) (eqb other.number k) numbered in
    same_change plan.changes other mine among own.among
    (begun.same_place plan.changes other mine (is_planned plan.changes other among) (is_planned plan.changes mine own.among)
    (eqb-true other.change_number c both.0) (eqb-true other.number k both.1)))
