-- The script in which each step of a plan takes a second.
use Rattle.std.specs.Prelude.{ℕ, ◌+◌, List, [], ◌∷◌, ◌++◌, length, filter_map, Some, None, unwrap_or, slice_get}
use Rattle.apply_model.specs.declared.plan.step_kind.StepKind.{StepKind}
use Rattle.apply_model.specs.declared.script.ending.Ending.TheVariants.{Done}
use Rattle.apply_model.specs.declared.script.script_step.ScriptStep.{ScriptStep}
use Rattle.apply_model.specs.declared.script.script_step.ScriptStep.TheVariants.{Answered}
use Rattle.apply_model.specs.declared.script.wait.Wait.{Wait}
use Rattle.apply_model.specs.Plan.ResourceChange.{ResourceChange}
use Rattle.apply_model.specs.Script.OutcomeMap.{OutcomeMap}

-- ---- the steps of a plan

-- The steps of these kinds, of which the first has the number `step` in the change.
abbrev pub steps_from : (change step : ℕ) → List StepKind → List Wait
steps_from change step [] = []
steps_from change step (kind ∷ kinds) = record { change = change; step = step } ∷ steps_from change (step + 1) kinds

-- The steps of these changes, of which the first has this number.
abbrev pub planned_from : (number : ℕ) → List ResourceChange → List Wait
planned_from number [] = []
planned_from number (change ∷ changes) = steps_from number 0 change.steps ++ planned_from (number + 1) changes

-- The steps of all changes, in the plan's order.
abbrev pub planned_steps : List ResourceChange → List Wait
planned_steps changes = planned_from 0 changes

-- ---- their outcomes

-- The numbers of the steps that the step of this number waits for.
abbrev pub waits_at : (waits : List (List ℕ)) → (step : ℕ) → List ℕ
waits_at waits step = unwrap_or (slice_get waits step) []

-- The steps with these numbers. Numbers of no step are ignored.
abbrev pub steps_at : (planned : List Wait) → (numbers : List ℕ) → List Wait
steps_at planned numbers = filter_map (slice_get planned) numbers

-- A step that takes a second and waits for these steps.
abbrev pub even_step : List Wait → ScriptStep
even_step after = Answered (record { seconds = 1; provisioners = []; result = Done None None; after = after })

-- As many steps as there are kinds, of which the first has the number `first` in the plan.
abbrev pub even_steps : (planned : List Wait) → (waits : List (List ℕ)) → (first : ℕ) → List StepKind → List ScriptStep
even_steps planned waits first [] = []
even_steps planned waits first (kind ∷ kinds) =
    even_step (steps_at planned (waits_at waits first)) ∷ even_steps planned waits (first + 1) kinds

-- The steps of changes, of which the first step has the number `first` in the plan.
abbrev pub even_changes : (planned : List Wait) → (waits : List (List ℕ)) → (first : ℕ) → List ResourceChange → OutcomeMap
even_changes planned waits first [] = []
even_changes planned waits first (change ∷ changes) =
    Some (even_steps planned waits first change.steps) ∷ even_changes planned waits (first + length change.steps) changes

-- The script in which each step takes a second. The list `waits` has for each step of the plan, in
-- order, the numbers of the steps that it waits for.
abbrev pub even_script : List ResourceChange → (waits : List (List ℕ)) → OutcomeMap
even_script changes waits = even_changes (planned_steps changes) waits 0 changes
