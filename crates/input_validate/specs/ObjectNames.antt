-- The name of an object, as contracts see it.
use Rattle.std.specs.Prelude.{ℕ, List, Option}
use Rattle.std.specs.Option.{option_copied}
use Rattle.input_validate.specs.declared.plan.object_name.ObjectName.{ObjectName}

-- an address, and the key of a deposed object; `None` is the object that is not deposed
abbrev pub Named : Type 0
Named = List ℕ × Option (List ℕ)

abbrev pub name_view : ObjectName → Named
name_view name = (name.address.now, option_copied name.deposed)
