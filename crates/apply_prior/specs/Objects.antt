-- The objects that Terraform knows before it plans (JSON Output Format, "State Representation", and
-- "Plan Representation", `resource_drift`).
use Rattle.std.specs.Prelude.{ℕ, zero, suc, List, [], ◌∷◌, ◌++◌, codes, map, if◌then◌else◌, Option, None, option_map}
use Rattle.std.specs.List.{filter_map, flat_map, list_any}
use Rattle.std.specs.Option.{option_map_or}
use Rattle.serde_json.specs.Data.{Data}
use Rattle.serde_json.specs.Find.{as_str}
use Rattle.apply_json.specs.Tree.{◌>>=◌, member_of, non_empty_text_of}
use Rattle.apply_model.specs.declared.plan.mode.Mode.{Mode}
use Rattle.apply_model.specs.declared.plan.mode.Mode.TheVariants.{Managed, DataSource}
use Rattle.apply_model.specs.Plan.ResourceChange.{ResourceChange}
use Rattle.apply_resolve.specs.ObjectName.{is_same_object, name_one_object}
use Rattle.apply_prior.specs.declared.drift.Drift.{Drift}
use Rattle.apply_prior.specs.Drifts.{drifts_of}
use Rattle.apply_prior.specs.Elements.{id_of, in_its_module, items_at, names_of}

-- an object that is refreshed or read while Terraform plans
pub record ObjectOfPlan : Type 0 where
  -- the object, as a change without steps
  pub object : ResourceChange
  -- the names of resources that it depends on
  pub depends_on : List (List ℕ)
  -- the id that it had before it was refreshed
  pub id_before : Option (List ℕ)

-- ---- elements of the prior state, each with the address of its module

-- more levels of modules than any text has whose values nest at most 127 deep
abbrev pub max_modules : ℕ
max_modules = 127

-- the elements of a module, then those of each of its modules; so many levels are read, and a module
-- without an address is passed over
unfoldable pub placed_in : (levels : ℕ) → (module_address : List ℕ) → Data → List (List ℕ × Data)
placed_in zero module_address d = []
placed_in (suc levels) module_address d =
    map (λ e. (module_address, e)) (items_at (codes "resources") d)
    ++ flat_map (λ child. option_map_or (λ address. placed_in levels address child) (non_empty_text_of (codes "address") child) []) (items_at (codes "child_modules") d)

-- the elements of a module in another
abbrev pub placed_child : (levels : ℕ) → Data → List (List ℕ × Data)
placed_child levels child = option_map_or (λ address. placed_in levels address child) (non_empty_text_of (codes "address") child) []

-- the root module
abbrev pub root_module : Data → Option Data
root_module plan = do
  state ← member_of (codes "prior_state") plan
  values ← member_of (codes "values") state
  member_of (codes "root_module") values

-- the elements of the prior state, in their order
abbrev pub placed_of : Data → List (List ℕ × Data)
placed_of plan = option_map_or (placed_in max_modules []) (root_module plan) []

-- ---- ids before

-- the id before the last drift of an object; `id` if it has no drift
abbrev pub last_id : List Drift → (address : List ℕ) (deposed : Option (List ℕ)) (id : Option (List ℕ)) → Option (List ℕ)
last_id [] address deposed id = id
last_id (drift ∷ drifts) address deposed id =
    last_id drifts address deposed (if name_one_object drift.change.address drift.change.deposed address deposed then drift.change.prior_id else id)

-- the id of an object before it was refreshed; a data source has no other id than its own
abbrev pub id_by_mode : Mode → List Drift → ResourceChange → Option (List ℕ)
id_by_mode Managed drifts object = last_id drifts object.address object.deposed object.prior_id
id_by_mode DataSource drifts object = object.prior_id

abbrev pub prior_object : List Drift → (object : ResourceChange) (depends_on : List (List ℕ)) → ObjectOfPlan
prior_object drifts object depends_on = record { object = object; depends_on = depends_on; id_before = id_by_mode object.mode drifts object }

-- ---- objects

-- the object of an element in that module; none if a member is invalid or missing
abbrev pub state_object : (module_address : List ℕ) → Data → Option ResourceChange
state_object module_address d = do
  names ← names_of d
  in_its_module (record {
    address = names.address;
    module_address = module_address;
    mode = names.mode;
    kind_name = names.kind_name;
    name = names.name;
    key = names.key;
    deposed = non_empty_text_of (codes "deposed_key") d;
    prior_id = id_of (member_of (codes "values") d) (member_of (codes "sensitive_values") d);
    steps = [];
  })

abbrev pub placed_object : List Drift → (List ℕ × Data) → Option ObjectOfPlan
placed_object drifts placed =
    option_map (λ object. prior_object drifts object (filter_map as_str (items_at (codes "depends_on") placed.1))) (state_object placed.0 placed.1)

-- the object of a drift, as one that has vanished; none if it is a data source
abbrev pub vanished_by_mode : Mode → ResourceChange → Option ResourceChange
vanished_by_mode Managed change = in_its_module (record change { prior_id = None; steps = [] })
vanished_by_mode DataSource change = None

abbrev pub vanished_object : List Drift → Drift → Option ObjectOfPlan
vanished_object drifts drift = option_map (λ object. prior_object drifts object []) (vanished_by_mode drift.change.mode drift.change)

-- the objects with one more, unless one of its address and deposed key is there
abbrev pub with_object : (objects : List ObjectOfPlan) → ObjectOfPlan → List ObjectOfPlan
with_object objects more = if list_any (is_same_object more.object) (map (λ prior. prior.object) objects) then objects else objects ++ more ∷ []

abbrev pub with_objects : (objects : List ObjectOfPlan) → List ObjectOfPlan → List ObjectOfPlan
with_objects objects [] = objects
with_objects objects (more ∷ others) = with_objects (with_object objects more) others

-- the objects of the prior state, then each object of a drift that is not yet there
abbrev pub objects_with : List Drift → Data → List ObjectOfPlan
objects_with drifts plan = with_objects (with_objects [] (filter_map (placed_object drifts) (placed_of plan))) (filter_map (vanished_object drifts) drifts)

abbrev pub objects_of : Data → List ObjectOfPlan
objects_of plan = objects_with (drifts_of plan) plan
