-- The set of the objects of earlier changes, for private clauses.
use Rattle.std.specs.Prelude.{◌≡◌, List}
use Rattle.std.specs.List.{list_any}
use Rattle.apply_resolve.specs.declared.object_id.ObjectId.{ObjectId}
use Rattle.apply_resolve.specs.declared.object_set.ObjectSet.{ObjectSet}
use Rattle.apply_resolve.specs.ObjectIds.{is_of}
use Rattle.apply_resolve.specs.ObjectSet.{has_object}
use Rattle.apply_model.specs.Plan.ResourceChange.{ResourceChange}

-- the set has the objects of these changes and no others
abbrev pub HaveBeenSeen : ObjectSet → List ResourceChange → Type 0
HaveBeenSeen seen changes = (id : ObjectId) → has_object seen id ≡ list_any (is_of id) changes
