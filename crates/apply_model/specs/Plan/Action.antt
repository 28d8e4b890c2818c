-- The steps of an action, in the order in which they are applied.
use Rattle.std.specs.Prelude.{List, [], ◌∷◌}
use Rattle.apply_model.specs.declared.plan.action.Action.{Action}
use Rattle.apply_model.specs.declared.plan.action.Action.TheVariants as action
use Rattle.apply_model.specs.declared.plan.step_kind.StepKind.{StepKind}
use Rattle.apply_model.specs.declared.plan.step_kind.StepKind.TheVariants.{Create, Update, Delete, Read}

-- The steps of an action.
abbrev pub steps_of_action : Action → List StepKind
steps_of_action action.NoOp = []
steps_of_action action.Create = Create ∷ []
steps_of_action action.Read = Read ∷ []
steps_of_action action.Update = Update ∷ []
steps_of_action action.Delete = Delete ∷ []
steps_of_action action.DeleteThenCreate = Delete ∷ Create ∷ []
steps_of_action action.CreateThenDelete = Create ∷ Delete ∷ []
steps_of_action action.Forget = []
