-- Where the steps of a plan stand among all its steps.
use Rattle.std.specs.Prelude.{◌≡◌, ℕ, zero, suc, ◌+◌, List, [], ◌∷◌, length, slice_get, Some}
use Rattle.apply_model.specs.declared.plan.step_kind.StepKind.{StepKind}
use Rattle.apply_model.specs.declared.script.wait.Wait.{Wait}
use Rattle.apply_model.specs.Plan.ResourceChange.{ResourceChange}
use Rattle.stream_record_steps.specs.Steps.{PlannedStep}

-- How many steps the changes before change c have.
abbrev pub steps_before : List ResourceChange → (c : ℕ) → ℕ
steps_before [] c = 0
steps_before (change ∷ changes) zero = 0
steps_before (change ∷ changes) (suc c) = length change.steps + steps_before changes c

-- The place of step k of change c: its number over the steps of all changes.
abbrev pub place_of : List ResourceChange → (c k : ℕ) → ℕ
place_of changes c k = steps_before changes c + k

-- The step as a script names it.
abbrev pub name_of : PlannedStep → Wait
name_of step = record { change = step.change_number; step = step.number }

-- The plan has the step of that name, and the step stands at the place.
pub record StandsAt (changes : List ResourceChange) (place : ℕ) (name : Wait) : Type 0 where
  pub change : ResourceChange
  pub change_at : slice_get changes name.change ≡ Some change
  pub kind : StepKind
  pub kind_at : slice_get change.steps name.step ≡ Some kind
  pub place_is : place ≡ place_of changes name.change name.step
