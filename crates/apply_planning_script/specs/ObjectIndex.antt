-- Numbers by object, for the type that stores them.
use Rattle.std.specs.Prelude.{ℕ, Option}
use Rattle.std.specs.Map.{lookup}
use Rattle.std.specs.Option.{option_copied}
use Rattle.apply_resolve.specs.declared.object_id.ObjectId.{ObjectId}
use Rattle.apply_resolve.specs.ObjectIds.{is_same_id}
use Rattle.apply_planning_script.specs.declared.object_index.ObjectIndex.{ObjectIndex}
use Rattle.apply_planning_script.specs.Objects.{ObjectName}

-- the object that an id names
abbrev pub name_of_id : ObjectId → ObjectName
name_of_id id = record { address = id.address.now; deposed = option_copied id.deposed }

-- the number of the object's first value
abbrev pub number_of : ObjectIndex → ObjectId → Option ℕ
number_of index id = lookup (is_same_id id) index.numbers.entries
