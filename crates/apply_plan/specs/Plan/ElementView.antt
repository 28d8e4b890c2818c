-- Contracts see an element with its steps in place of its actions, for private types.
use Rattle.std.specs.Prelude.{ℕ, List, Option, option_map}
use Rattle.std.specs.Option.{option_copied}
use Rattle.apply_plan.specs.declared.plan.element.Element as read
use Rattle.apply_plan.specs.declared.plan.element.IndexKey.{IndexKey}
use Rattle.apply_plan.specs.declared.plan.element.IndexKey.TheVariants as index
use Rattle.apply_plan.specs.declared.plan.planned_change.PlannedChange.{PlannedChange}
use Rattle.apply_model.specs.declared.plan.key.Key.{Key}
use Rattle.apply_model.specs.declared.plan.key.Key.TheVariants as key
use Rattle.apply_model.specs.declared.plan.mode.Mode.{Mode}
use Rattle.apply_model.specs.declared.plan.step_kind.StepKind.{StepKind}
use Rattle.apply_model.specs.Plan.Action.{steps_of_action}
use Rattle.apply_model.specs.Plan.ResourceChange.{ResourceChange}
use Rattle.apply_plan.specs.Plan.Element.{Element}
use Rattle.apply_plan.specs.Plan.Steps.{steps_of_actions}

-- an element with the steps of its actions; no steps if the action list is invalid
pub record ReadElement : Type 0 where
  pub address : List ℕ
  pub mode : Mode
  pub kind_name : List ℕ
  pub name : List ℕ
  pub module_address : List ℕ
  pub key : Key
  pub deposed : Option (List ℕ)
  pub steps : Option (List StepKind)
  pub prior_id : Option (List ℕ)

abbrev pub with_steps : Element → ReadElement
with_steps e = record {
  address = e.address;
  mode = e.mode;
  kind_name = e.kind_name;
  name = e.name;
  module_address = e.module_address;
  key = e.key;
  deposed = e.deposed;
  steps = steps_of_actions e.actions;
  prior_id = e.prior_id;
}

-- the change of an element, with these steps
abbrev pub change_with_steps : ReadElement → List StepKind → ResourceChange
change_with_steps e steps = record {
  address = e.address;
  module_address = e.module_address;
  mode = e.mode;
  kind_name = e.kind_name;
  name = e.name;
  key = e.key;
  deposed = e.deposed;
  prior_id = e.prior_id;
  steps = steps;
}

abbrev pub key_view : IndexKey → Key
key_view index.None = key.None
key_view (index.Number z) = key.Number z
key_view (index.Name s) = key.Name s.now

abbrev pub planned_change_view : PlannedChange → Option (List StepKind) × Option (List ℕ)
planned_change_view change = (option_map steps_of_action change.action, option_copied change.prior_id)

abbrev pub element_view : read.Element → ReadElement
element_view e = record {
  address = e.address.now;
  mode = e.mode;
  kind_name = e.kind_name.now;
  name = e.name.now;
  module_address = e.module_address.now;
  key = key_view e.key;
  deposed = option_copied e.deposed;
  steps = option_map steps_of_action e.action;
  prior_id = option_copied e.prior_id;
}
