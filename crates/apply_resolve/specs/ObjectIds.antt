-- Objects as plans and scripts name them, for the types that compare them.
use Rattle.std.specs.Prelude.{Bool}
use Rattle.std.specs.Option.{option_copied}
use Rattle.apply_resolve.specs.declared.object_id.ObjectId.{ObjectId}
use Rattle.apply_resolve.specs.ObjectName.{name_one_object}
use Rattle.apply_model.specs.Plan.ResourceChange.{ResourceChange}

-- Both names are of the same object.
abbrev pub is_same_id : ObjectId → ObjectId → Bool
is_same_id one other =
    name_one_object one.address.now (option_copied one.deposed) other.address.now (option_copied other.deposed)

-- The change is of that object.
abbrev pub is_of : ObjectId → ResourceChange → Bool
is_of id change = name_one_object change.address change.deposed id.address.now (option_copied id.deposed)
