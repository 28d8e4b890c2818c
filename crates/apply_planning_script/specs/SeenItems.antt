-- The objects of items that were checked, for private clauses.
use Rattle.std.specs.Prelude.{◌≡◌, List}
use Rattle.std.specs.List.{list_any}
use Rattle.apply_resolve.specs.declared.object_id.ObjectId.{ObjectId}
use Rattle.apply_resolve.specs.declared.object_set.ObjectSet.{ObjectSet}
use Rattle.apply_resolve.specs.ObjectSet.{has_object}
use Rattle.apply_planning_script.specs.Items.{Item, object_of_item}
use Rattle.apply_planning_script.specs.ObjectIndex.{name_of_id}
use Rattle.apply_planning_script.specs.Objects.{is_same_name}

-- the set has the objects of these items
abbrev pub HaveSeen : ObjectSet → List Item → Type 0
HaveSeen seen items = (id : ObjectId) → has_object seen id ≡ list_any (λ item. is_same_name (object_of_item item) (name_of_id id)) items
