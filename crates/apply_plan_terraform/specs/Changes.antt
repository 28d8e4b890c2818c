-- The details of a plan's changes, for Terraform's form only.
use Rattle.std.specs.Prelude.{List, [], codes, map, Option}
use Rattle.std.specs.Option.{option_map_or}
use Rattle.serde_json.specs.Data.{Data, Items}
use Rattle.serde_json.specs.Find.{as_array}
use Rattle.apply_json.specs.Tree.{◌>>=◌, list_of, member_of}
use Rattle.apply_model.specs.declared.details.change_details.ChangeDetails.{ChangeDetails}
use Rattle.apply_plan_terraform.specs.Details.{element_details}

-- the array `resource_changes`
abbrev pub array_in : Data → Option Items
array_in plan = member_of (codes "resource_changes") plan >>= as_array

-- the elements of `resource_changes`; none where there is no such array
abbrev pub elements_of : Data → List Data
elements_of plan = option_map_or list_of (array_in plan) []

-- the details of each element, in their order
abbrev pub changes_of : Data → List ChangeDetails
changes_of plan = map element_details (elements_of plan)
