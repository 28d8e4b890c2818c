-- A set of objects, for the type that stores one.
use Rattle.std.specs.Prelude.{Bool}
use Rattle.std.specs.List.{list_any}
use Rattle.apply_resolve.specs.declared.object_id.ObjectId.{ObjectId}
use Rattle.apply_resolve.specs.declared.object_set.ObjectSet.{ObjectSet}
use Rattle.apply_resolve.specs.HashedId.{hashed, is_same}

-- The object is in the set.
abbrev pub has_object : ObjectSet → ObjectId → Bool
has_object objects id = list_any (is_same (hashed id)) objects.ids.keys
