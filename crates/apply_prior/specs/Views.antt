-- What private types stand for.
use Rattle.std.specs.Prelude.{◌≡◌, ℕ, List, [], codes, map, Option}
use Rattle.std.specs.Map.{lookup}
use Rattle.std.specs.Option.{option_copied, option_map_or}
use Rattle.serde_json.specs.Data.{Data}
use Rattle.serde_json.specs.View.{view}
use Rattle.apply_json.specs.Tree.{◌>>=◌, member_of, text_or, unless_empty}
use Rattle.apply_model.specs.declared.plan.key.Key.{Key}
use Rattle.apply_model.specs.declared.plan.key.Key.TheVariants as key
use Rattle.apply_model.specs.Plan.Action.{steps_of_action}
use Rattle.apply_model.specs.Plan.ResourceChange.{ResourceChange}
use Rattle.apply_plan.specs.Plan.SeenSet.{HaveBeenSeen}
use Rattle.apply_resolve.specs.declared.object_id.ObjectId.{ObjectId}
use Rattle.apply_resolve.specs.ObjectIds.{is_same_id}
use Rattle.apply_prior.specs.declared.element.Element as code
use Rattle.apply_prior.specs.declared.index.Index.{Index}
use Rattle.apply_prior.specs.declared.index.Index.TheVariants as index
use Rattle.apply_prior.specs.declared.last_ids.LastIds.{LastIds}
use Rattle.apply_prior.specs.declared.names.Names as code_names
use Rattle.apply_prior.specs.declared.objects.Objects as code_objects
use Rattle.apply_prior.specs.declared.placed.Placed.{Placed}
use Rattle.apply_prior.specs.declared.drift.Drift.{Drift}
use Rattle.apply_prior.specs.Elements.{Names, action_of, id_of, in_its_module, names_of}
use Rattle.apply_prior.specs.Objects.{ObjectOfPlan, last_id}
use Rattle.apply_prior.specs.Prior.{object_view}

abbrev pub index_view : Index → Key
index_view index.None = key.None
index_view (index.Number z) = key.Number z
index_view (index.Name s) = key.Name s.now

abbrev pub names_view : code_names.Names → Names
names_view names = record { address = names.address.now; mode = names.mode; kind_name = names.kind_name.now; name = names.name.now; key = index_view names.key }

abbrev pub element_view : code.Element → ResourceChange
element_view e = record {
  address = e.names.address.now;
  module_address = e.module_address.now;
  mode = e.names.mode;
  kind_name = e.names.kind_name.now;
  name = e.names.name.now;
  key = index_view e.names.key;
  deposed = option_copied e.deposed;
  prior_id = option_copied e.prior_id;
  steps = steps_of_action e.action;
}

-- the change of an element of `resource_drift`, member by member in the order in which they are read
abbrev pub drifted : Data → Option ResourceChange
drifted d = do
  names ← names_of d
  module_address ← text_or [] (member_of (codes "module_address") d)
  deposed ← text_or [] (member_of (codes "deposed") d)
  change ← member_of (codes "change") d
  action ← action_of change
  in_its_module (record {
    address = names.address;
    module_address = module_address;
    mode = names.mode;
    kind_name = names.kind_name;
    name = names.name;
    key = names.key;
    deposed = unless_empty deposed;
    prior_id = id_of (member_of (codes "before") change) (member_of (codes "before_sensitive") change);
    steps = steps_of_action action;
  })

-- an element and the address of its module
abbrev pub placed_view : Placed → List ℕ × Data
placed_view placed = (placed.module_address.now, view placed.element.now)

-- the id before the last drift of an object; `id` if it has no drift
abbrev pub id_in : LastIds → ObjectId → (id : Option (List ℕ)) → Option (List ℕ)
id_in ids object id = option_map_or option_copied (lookup (is_same_id object) ids.ids.entries) id

-- these are the ids before the last drifts of each object
abbrev pub AreLast : LastIds → List Drift → Type 0
AreLast ids drifts = (object : ObjectId) → (id : Option (List ℕ)) → id_in ids object id ≡ last_id drifts object.address.now (option_copied object.deposed) id

-- the value has these objects, and looks up ids before these drifts
pub record Holds (objects : code_objects.Objects) (drifts : List Drift) (seen : List ObjectOfPlan) : Type 0 where
  pub stored : map object_view objects.objects.items ≡ seen
  pub set : HaveBeenSeen objects.seen (map (λ prior. prior.object) seen)
  pub ids : AreLast objects.ids drifts
