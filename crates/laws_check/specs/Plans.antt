-- Plans as Terraform makes them, and scripts as they are read for such plans. A deposed object may
-- stand next to the current object of its address, and is only deleted. Only steps that may have
-- provisioners have some, and only reads only warn.
use Rattle.std.specs.Prelude.{◌≡◌, ◌≤◌, ◌+◌, ℕ, All, List, [], ◌∷◌, ⊤, Some, is_some, slice_get, false, true, length}
use Rattle.apply_model.specs.declared.plan.step_kind.StepKind.{StepKind}
use Rattle.apply_model.specs.declared.plan.step_kind.StepKind.TheVariants.{Create, Delete, Read}
use Rattle.apply_model.specs.Script.Outcome.{is_warned}
use Rattle.laws_run.specs.Plans.{NamesEachObjectOnce}
use Rattle.apply_plan.specs.Plan.ResourceChange.{ResourceChange}
use Rattle.apply_plan.specs.Plan.SavedPlan.{SavedPlan, max_changes}
use Rattle.apply_plan.specs.Script.OutcomeMap.{OutcomeMap, outcome_of}
use Rattle.apply_plan.specs.Script.Refusals.{takes_provisioners}

-- the plan has the change with that number
abbrev pub IsChange : SavedPlan → ℕ → ResourceChange → Type 0
IsChange plan c change = slice_get plan.changes c ≡ Some change

-- a deposed object is only deleted
abbrev pub DeletesDeposed : SavedPlan → Type 0
DeletesDeposed plan =
    (c : ℕ) (change : ResourceChange) → IsChange plan c change → is_some change.deposed ≡ true
    → All (λ kind. kind ≡ Delete) change.steps

-- no object is changed twice, and a deposed object is only deleted
pub record IsOrdinary (plan : SavedPlan) : Type 0 where
  pub few : length plan.changes ≤ max_changes
  pub once : NamesEachObjectOnce plan.changes
  pub deleted : DeletesDeposed plan

-- A step that may have no provisioners has none. A create may have some, and so may a delete that
-- is the first step of a change of an object that is not deposed.
abbrev pub ProvisionsCreates : SavedPlan → OutcomeMap → Type 0
ProvisionsCreates plan script =
    (c k : ℕ) (change : ResourceChange) (kind : StepKind) → IsChange plan c change → slice_get change.steps k ≡ Some kind
    → takes_provisioners (is_some change.deposed) (k, kind) ≡ false → (outcome_of script c k).provisioners ≡ []

-- A step whose failure only warns is a read, and the last step of its change. The stream has no end
-- of that step, and no later message about its object.
abbrev pub WarnsOfReads : SavedPlan → OutcomeMap → Type 0
WarnsOfReads plan script =
    (c k : ℕ) (change : ResourceChange) (kind : StepKind) → IsChange plan c change → slice_get change.steps k ≡ Some kind
    → is_warned (outcome_of script c k).result ≡ true → (kind ≡ Read) × (length change.steps ≡ k + 1)

-- a read is the last step of its change, as in each plan that was read
abbrev pub ReadsComeLast : SavedPlan → Type 0
ReadsComeLast plan =
    (c k : ℕ) (change : ResourceChange) → IsChange plan c change → slice_get change.steps k ≡ Some Read
    → length change.steps ≡ k + 1

-- nothing is done to an object, or one thing, or the object is replaced: a create and a delete in
-- either order
abbrev pub AreStepsOfOne : List StepKind → Type 0
AreStepsOfOne [] = ⊤
AreStepsOfOne (kind ∷ []) = ⊤
AreStepsOfOne (Create ∷ Delete ∷ []) = ⊤
AreStepsOfOne (Delete ∷ Create ∷ []) = ⊤
AreStepsOfOne _ = ⊥

-- each change has such steps, as in each plan that was read
abbrev pub ChangesAreWhole : SavedPlan → Type 0
ChangesAreWhole plan = (c : ℕ) (change : ResourceChange) → IsChange plan c change → AreStepsOfOne change.steps
