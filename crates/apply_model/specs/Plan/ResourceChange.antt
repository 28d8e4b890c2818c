-- A planned change of one object (JSON Output Format, "Plan Representation", `resource_changes`).
use Rattle.std.specs.Prelude.{ℕ, ◌+◌, List, length, drop, if◌then◌else◌, Option}
use Rattle.apply_model.specs.declared.plan.key.Key.{Key}
use Rattle.apply_model.specs.declared.plan.mode.Mode.{Mode}
use Rattle.apply_model.specs.declared.plan.step_kind.StepKind.{StepKind}
use Rattle.apply_model.specs.Plan.Address.{is_empty}

-- A planned change of one object.
pub record ResourceChange : Type 0 where
  pub address : List ℕ
  -- The address of the module, empty in the root module.
  pub module_address : List ℕ
  pub mode : Mode
  pub kind_name : List ℕ
  pub name : List ℕ
  pub key : Key
  -- The key of a deposed object, which exists next to the current object at the address.
  pub deposed : Option (List ℕ)
  -- The id that the object had before the change; none where it had none or the id is sensitive.
  pub prior_id : Option (List ℕ)
  pub steps : List StepKind

-- the address within its module
abbrev pub resource_of : ResourceChange → List ℕ
resource_of change =
    if is_empty change.module_address then change.address else drop (length change.module_address + 1) change.address
