-- Which members of a plan are read for Terraform's form, for private clauses.
use Rattle.std.specs.Prelude.{ℕ, List, ◌||◌, codes, if◌then◌else◌, Option, Some, None}
use Rattle.std.specs.Str.{bytes_eq}
use Rattle.apply_json_tree.specs.Trimmed.{Selection}
use Rattle.apply_plan_terraform.specs.declared.details_shape.DetailsShape.{DetailsShape}
use Rattle.apply_plan_terraform.specs.declared.details_shape.DetailsShape.TheVariants.{Scalar, Plan, Changes, Element, Change, Actions, Importing, After}

-- the shape of the member with that name; nothing where it is skipped
abbrev pub member_shape : DetailsShape → List ℕ → Option DetailsShape
member_shape Plan name =
    if bytes_eq name (codes "resource_changes") then Some Changes
    else if bytes_eq name (codes "errored") || bytes_eq name (codes "complete") then Some Scalar
    else None
member_shape Element name =
    if bytes_eq name (codes "change") then Some Change
    else if bytes_eq name (codes "action_reason") || bytes_eq name (codes "previous_address") then Some Scalar
    else None
member_shape Change name =
    if bytes_eq name (codes "actions") then Some Actions
    else if bytes_eq name (codes "importing") then Some Importing
    else if bytes_eq name (codes "generated_config") then Some Scalar
    else if bytes_eq name (codes "after") || bytes_eq name (codes "after_sensitive") then Some After
    else None
member_shape Importing name = if bytes_eq name (codes "id") then Some Scalar else None
member_shape After name = if bytes_eq name (codes "id") then Some Scalar else None
member_shape _ name = None

abbrev pub item_shape : DetailsShape → DetailsShape
item_shape Changes = Element
item_shape _ = Scalar

-- how many items are read; no limit for the elements
abbrev pub item_limit : DetailsShape → Option ℕ
item_limit Changes = None
item_limit Actions = Some 2
item_limit _ = Some 0

abbrev pub details_selection : Selection DetailsShape
details_selection = record { member_shape = member_shape; item_shape = item_shape; item_limit = item_limit }
