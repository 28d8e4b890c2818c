-- Planned changes of outputs (JSON Output Format, "Plan Representation", `output_changes`).
use Rattle.std.specs.Prelude.{ℕ, List, [], codes, Option, Some, None, option_map}
use Rattle.std.specs.List.{cons_option}
use Rattle.std.specs.Option.{option_map_or}
use Rattle.serde_json.specs.Data.{Data, Members, no_members, member}
use Rattle.serde_json.specs.Find.{as_object}
use Rattle.apply_json.specs.Tree.{◌>>=◌, member_of}
use Rattle.apply_model.specs.declared.plan.action.Action.{Action}
use Rattle.apply_model.specs.declared.plan.action.Action.TheVariants as action
use Rattle.apply_plan.specs.Plan.Element.{is_true}
use Rattle.apply_prior.specs.declared.planned_output.OutputAction.{OutputAction}
use Rattle.apply_prior.specs.declared.planned_output.OutputAction.TheVariants.{NoOp, Create, Read, Update, Delete, Replace}
use Rattle.apply_prior.specs.declared.planned_output.PlannedOutput.{PlannedOutput}
use Rattle.apply_prior.specs.Elements.{action_of}

-- what an action does to an output; none if no output has that action
abbrev pub output_action : Action → Option OutputAction
output_action action.NoOp = Some NoOp
output_action action.Create = Some Create
output_action action.Read = Some Read
output_action action.Update = Some Update
output_action action.Delete = Some Delete
output_action action.DeleteThenCreate = Some Replace
output_action action.CreateThenDelete = Some Replace
output_action action.Forget = None

-- what a planned change does to an output; none if its actions are invalid
abbrev pub output_action_of : Data → Option OutputAction
output_action_of d = action_of d >>= output_action

-- the planned change of an output; none if its actions are invalid
abbrev pub output_of : (name : List ℕ) → Data → Option PlannedOutput
output_of name d =
    option_map (λ action. record { name = name; action = action; sensitive = is_true (member_of (codes "after_sensitive") d) }) (output_action_of d)

-- the planned changes of outputs, in the byte order of names
abbrev pub outputs_in : Members → List PlannedOutput
outputs_in no_members = []
outputs_in (member name d ms) = cons_option (output_of name d) (outputs_in ms)

-- the object `output_changes`
abbrev pub changes_of : Data → Option Members
changes_of plan = member_of (codes "output_changes") plan >>= as_object

abbrev pub planned_outputs_of : Data → List PlannedOutput
planned_outputs_of plan = option_map_or outputs_in (changes_of plan) []
