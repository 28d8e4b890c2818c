-- Addresses of resources in the syntax that Terraform writes: any number of `module.NAME KEY? .`,
-- then `data.` for a data source, then `TYPE . NAME KEY?`. The text from `data.` or the type on is
-- the last part.
use Rattle.std.specs.Prelude.{ℕ, ◌-◌, List, [], ◌++◌, codes, length, take, Bool, if◌then◌else◌}
use Rattle.std.specs.List.{AllByRecursion, flat_map}
use Rattle.apply_address.specs.Keys.{IsKey, WrittenKey, meant_key, written_key}
use Rattle.apply_address.specs.Names.{IsName}
use Rattle.apply_address.specs.Parts.{Parts}

-- A name with a key, where there is one.
pub record Named : Type 0 where
  pub name : List ℕ
  pub key : WrittenKey

-- The parts of an address as they are written.
pub record Address : Type 0 where
  -- The modules, from the root module on.
  pub modules : List Named
  pub is_data : Bool
  pub kind_name : List ℕ
  pub named : Named

-- The name and the key are valid.
pub record IsNamed (named : Named) : Type 0 where
  pub name : IsName named.name
  pub key : IsKey named.key

-- All parts of the address are valid.
pub record IsAddress (address : Address) : Type 0 where
  pub modules : AllByRecursion IsNamed address.modules
  pub kind_name : IsName address.kind_name
  pub named : IsNamed address.named

-- The text of a name with its key.
abbrev pub written_named : Named → List ℕ
written_named named = named.name ++ written_key named.key

-- The text of a module, with its dot.
abbrev pub written_module : Named → List ℕ
written_module named = codes "module." ++ written_named named ++ codes "."

-- The text of all modules.
abbrev pub written_modules : Address → List ℕ
written_modules address = flat_map written_module address.modules

-- The last part.
abbrev pub written_resource : Address → List ℕ
written_resource address =
    (if address.is_data then codes "data." else []) ++ address.kind_name ++ codes "." ++ written_named address.named

-- The text of an address.
abbrev pub written : Address → List ℕ
written address = written_modules address ++ written_resource address

-- The parts of an address. The module is the text before the dot in front of the last part.
abbrev pub parts_of : Address → Parts
parts_of address = record {
  module_address = take (length (written_modules address) - 1) (written_modules address);
  resource = written_resource address;
  kind_name = address.kind_name;
  name = address.named.name;
  key = meant_key address.named.key;
}
