-- The objects that were never done, for the type that stores them.
use Rattle.std.specs.Prelude.{◌≡◌, ◌&&◌, Bool, false, is_some, Option}
use Rattle.std.specs.Map.{lookup}
use Rattle.std.specs.Option.{option_copied, option_map_or}
use Rattle.apply_resolve.specs.declared.object_id.ObjectId.{ObjectId}
use Rattle.apply_resolve.specs.ObjectIds.{is_same_id}
use Rattle.apply_planning_failures.specs.declared.lost_objects.LostObjects.{LostObjects}
use Rattle.apply_planning_failures.specs.Planning.{Planning, is_lost}

-- the object is among them
abbrev pub has_object : LostObjects → ObjectId → Bool
has_object lost id = is_some (lookup (is_same_id id) lost.ids.entries)

-- these are the objects that were never done, where the planning failed; else there are none
abbrev pub HasLost : (failed : Bool) → Planning → Option LostObjects → Type 0
HasLost failed planning lost = (id : ObjectId)
    → option_map_or (λ objects. has_object objects id) lost false ≡ (failed && is_lost planning id.address.now (option_copied id.deposed))
