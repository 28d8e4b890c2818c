-- Names of objects, as other objects depend on them.
use Rattle.std.specs.Prelude.{ℕ, List, [], ◌++◌, codes}
use Rattle.apply_address.specs.Modules.{module_prefix}
use Rattle.apply_model.specs.declared.plan.mode.Mode.{Mode}
use Rattle.apply_model.specs.declared.plan.mode.Mode.TheVariants.{DataSource, Managed}
use Rattle.apply_model.specs.Plan.ResourceChange.{ResourceChange}

-- what stands before the type of a resource of this mode
abbrev pub mode_prefix : Mode → List ℕ
mode_prefix Managed = []
mode_prefix DataSource = codes "data."

-- the name of an object: the address of its module without instance keys, `data.` of a data source,
-- its type and its name
abbrev pub name_of : ResourceChange → List ℕ
name_of object = module_prefix object.module_address ++ mode_prefix object.mode ++ object.kind_name ++ codes "." ++ object.name
