-- The steps of a plan.
use Rattle.std.specs.Prelude.{ℕ, ◌+◌, ◌==◌, List, [], ◌∷◌, ◌++◌, filter, length, Bool}
use Rattle.std.specs.Str.{bytes_eq}
use Rattle.apply_model.specs.declared.plan.step_kind.StepKind.{StepKind}
use Rattle.apply_model.specs.Plan.ResourceChange.{ResourceChange}

-- A step of a plan: its change, with the number of the change in the plan; its number in the
-- change; its place, the number over the steps of all changes. All count from 0.
pub record PlannedStep : Type 0 where
  pub change : ResourceChange
  pub change_number : ℕ
  pub number : ℕ
  pub place : ℕ
  pub kind : StepKind

-- The step is the first of its change, and the last.
abbrev pub is_first_step : PlannedStep → Bool
is_first_step step = step.number == 0

abbrev pub is_last_step : PlannedStep → Bool
is_last_step step = step.number + 1 == length step.change.steps

-- The steps of these kinds, of which the first has this number in the change and this place.
abbrev pub steps_from : ResourceChange → (change_number number place : ℕ) → List StepKind → List PlannedStep
steps_from change change_number number place [] = []
steps_from change change_number number place (kind ∷ kinds) =
    record { change = change; change_number = change_number; number = number; place = place; kind = kind }
    ∷ steps_from change change_number (number + 1) (place + 1) kinds

-- The steps of these changes, of which the first has this number, and its first step this place.
abbrev pub planned_from : (change_number place : ℕ) → List ResourceChange → List PlannedStep
planned_from change_number place [] = []
planned_from change_number place (change ∷ changes) =
    steps_from change change_number 0 place change.steps ++ planned_from (change_number + 1) (place + length change.steps) changes

-- The steps of all changes, in the plan's order.
abbrev pub planned_steps : List ResourceChange → List PlannedStep
planned_steps changes = planned_from 0 0 changes

-- The steps at an address, in the plan's order.
abbrev pub steps_at : List PlannedStep → (address : List ℕ) → List PlannedStep
steps_at steps address = filter (λ step. bytes_eq address step.change.address) steps
