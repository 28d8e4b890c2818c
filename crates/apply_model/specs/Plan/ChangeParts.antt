-- The change that some parts make.
use Rattle.apply_model.specs.declared.plan.change_parts.ChangeParts.{ChangeParts}
use Rattle.apply_model.specs.Plan.Action.{steps_of_action}
use Rattle.apply_model.specs.Plan.ResourceChange.{ResourceChange}

-- The change with these parts.
abbrev pub change_of_parts : ChangeParts → ResourceChange
change_of_parts parts = record {
  address = parts.address;
  module_address = parts.module_address;
  mode = parts.mode;
  kind_name = parts.kind_name;
  name = parts.name;
  key = parts.key;
  deposed = parts.deposed;
  prior_id = parts.prior_id;
  steps = steps_of_action parts.action;
}
