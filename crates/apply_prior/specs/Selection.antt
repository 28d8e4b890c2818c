-- Which members of a plan are read of the time before its apply, for private clauses.
use Rattle.std.specs.Prelude.{ℕ, List, ◌||◌, codes, if◌then◌else◌, Option, Some, None}
use Rattle.std.specs.Str.{bytes_eq}
use Rattle.apply_json_tree.specs.Trimmed.{Selection}
use Rattle.apply_prior.specs.declared.shape.PriorShape.{PriorShape}
use Rattle.apply_prior.specs.declared.shape.PriorShape.TheVariants.{Scalar, Plan, State, Values, Module, Modules, Resources, Resource, Drifts, Drift, Change, Actions, WithId, Names, Outputs, Output}

-- the shape of a member that names an object
abbrev pub names_shape : List ℕ → Option PriorShape
names_shape name =
    if bytes_eq name (codes "address") || bytes_eq name (codes "mode") then Some Scalar
    else if bytes_eq name (codes "type") || bytes_eq name (codes "name") then Some Scalar
    else if bytes_eq name (codes "index") then Some Scalar
    else None

-- the shape of a member of a change that has an id
abbrev pub id_shape : List ℕ → Option PriorShape
id_shape name =
    if bytes_eq name (codes "before") || bytes_eq name (codes "before_sensitive") then Some WithId
    else if bytes_eq name (codes "after") || bytes_eq name (codes "after_sensitive") then Some WithId
    else if bytes_eq name (codes "importing") then Some WithId
    else None

-- the shape of the member with that name; nothing where it is skipped
abbrev pub member_shape : PriorShape → List ℕ → Option PriorShape
member_shape Plan name =
    if bytes_eq name (codes "prior_state") then Some State
    else if bytes_eq name (codes "resource_drift") then Some Drifts
    else if bytes_eq name (codes "output_changes") then Some Outputs
    else None
member_shape State name = if bytes_eq name (codes "values") then Some Values else None
member_shape Values name = if bytes_eq name (codes "root_module") then Some Module else None
member_shape Module name =
    if bytes_eq name (codes "resources") then Some Resources
    else if bytes_eq name (codes "child_modules") then Some Modules
    else if bytes_eq name (codes "address") then Some Scalar
    else None
member_shape Resource name =
    if bytes_eq name (codes "values") || bytes_eq name (codes "sensitive_values") then Some WithId
    else if bytes_eq name (codes "depends_on") then Some Names
    else if bytes_eq name (codes "deposed_key") then Some Scalar
    else names_shape name
member_shape Drift name =
    if bytes_eq name (codes "change") then Some Change
    else if bytes_eq name (codes "module_address") || bytes_eq name (codes "deposed") then Some Scalar
    else if bytes_eq name (codes "action_reason") || bytes_eq name (codes "previous_address") then Some Scalar
    else names_shape name
member_shape Change name =
    if bytes_eq name (codes "actions") then Some Actions
    else if bytes_eq name (codes "generated_config") then Some Scalar
    else id_shape name
member_shape WithId name = if bytes_eq name (codes "id") then Some Scalar else None
member_shape Outputs name = Some Output
member_shape Output name =
    if bytes_eq name (codes "actions") then Some Actions
    else if bytes_eq name (codes "after_sensitive") then Some Scalar
    else None
member_shape _ name = None

-- the shape of an item
abbrev pub item_shape : PriorShape → PriorShape
item_shape Resources = Resource
item_shape Modules = Module
item_shape Drifts = Drift
item_shape _ = Scalar

-- how many items are read
abbrev pub item_limit : PriorShape → Option ℕ
item_limit Resources = None
item_limit Modules = None
item_limit Drifts = None
item_limit Names = None
item_limit Actions = Some 3
item_limit _ = Some 0

abbrev pub prior_selection : Selection PriorShape
prior_selection = record { member_shape = member_shape; item_shape = item_shape; item_limit = item_limit }
