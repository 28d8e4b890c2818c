-- The parts of an address.
use Rattle.std.specs.Prelude.{ℕ, List}
use Rattle.apply_model.specs.declared.plan.key.Key.{Key}
use Rattle.apply_address.specs.declared.address_parts.AddressParts.{AddressParts}

-- The parts of an address.
pub record Parts : Type 0 where
  -- The address of the module, empty for the root module.
  pub module_address : List ℕ
  -- The address within the module.
  pub resource : List ℕ
  pub kind_name : List ℕ
  pub name : List ℕ
  pub key : Key

-- Borrowed parts, by their texts.
abbrev pub parts_view : AddressParts → Parts
parts_view parts = record {
  module_address = parts.module_address.now;
  resource = parts.resource.now;
  kind_name = parts.kind_name.now;
  name = parts.name.now;
  key = parts.key;
}
