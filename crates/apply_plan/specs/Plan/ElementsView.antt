-- What a reader has stored of the elements and of the top level, for private types.
use Rattle.std.specs.Prelude.{◌≡◌, ◌≢◌, ℕ, List, [], codes, length, min, nat_eq, nat_lt, Bool, true, false, if◌then◌else◌, Option, Some, None, Result, Err}
use Rattle.std.specs.List.{starts_with}
use Rattle.serde_json.specs.Data.{Data, Items, Members, no_items}
use Rattle.serde_json.specs.Find.{get_member}
use Rattle.apply_json.specs.declared.array_presence.ArrayPresence.{ArrayPresence}
use Rattle.apply_json.specs.declared.array_presence.ArrayPresence.TheVariants as kind
use Rattle.apply_json.specs.ShallowView.{items_in, array_presence, shallow_view, shallow_of, shallow_text, shallow_text_or}
use Rattle.apply_json.specs.Tree.{◌>>=◌, list_of}
use Rattle.apply_model.specs.Plan.ResourceChange.{ResourceChange}
use Rattle.apply_model.specs.Plan.SavedPlan.{max_changes}
use Rattle.apply_plan.specs.declared.plan.elements.Elements.{Elements}
use Rattle.apply_plan.specs.declared.plan.plan_error.PlanError.{PlanError}
use Rattle.apply_plan.specs.declared.plan.plan_error.PlanError.TheVariants.{Memory, TooMany}
use Rattle.apply_plan.specs.declared.plan.plan_slots.PlanSlots.{PlanSlots}
use Rattle.apply_plan.specs.ListReading.{items_of, made_after}
use Rattle.apply_plan.specs.Plan.NextChange.{change_after}
use Rattle.apply_plan.specs.Plan.SeenSet.{HaveBeenSeen}
use Rattle.apply_plan.specs.Results.{unless_refused}

-- the changes of the elements, or the first fault; too many elements come first
abbrev pub changes_within : List Data → Result (List ResourceChange) PlanError
changes_within ds = if nat_lt max_changes (length ds) then Err TooMany else made_after change_after [] (items_of ds)

-- `elements` has the changes of these elements, up to the first fault; after `Memory` nothing is
-- stated of the changes
pub record HoldsElements (elements : Elements) (ds : List Data) : Type 0 where
  pub counted : elements.count ≡ min (length ds) max_changes
  pub made : elements.fault ≡ None → length elements.changes.items ≡ length ds
  pub seen : elements.fault ≡ None → HaveBeenSeen elements.seen elements.changes.items
  pub so_far : elements.fault ≢ Some Memory → changes_within ds ≡ unless_refused elements.fault elements.changes.items

-- ---- the top level

-- whether the member `resource_changes` is an array
abbrev pub kind_of : Option Data → ArrayPresence
kind_of None = kind.Absent
kind_of (Some d) = array_presence d

abbrev pub items_at : Option Data → Items
items_at None = no_items
items_at (Some d) = items_in d

pub record HoldsPlan (slots : PlanSlots) (ms : Members) : Type 0 where
  pub format_version : shallow_view slots.format_version ≡ shallow_of (get_member (codes "format_version") ms)
  pub terraform_version : shallow_view slots.terraform_version ≡ shallow_of (get_member (codes "terraform_version") ms)
  pub resource_changes : slots.resource_changes ≡ kind_of (get_member (codes "resource_changes") ms)
  pub elements : HoldsElements slots.elements (list_of (items_at (get_member (codes "resource_changes") ms)))

-- an array, or absent
abbrev pub may_list : ArrayPresence → Bool
may_list kind.Absent = true
may_list kind.List = true
may_list kind.Other = false

-- the version of Terraform; none if a member is invalid, or the format is not 1.x
abbrev pub version_read : PlanSlots → Option (List ℕ)
version_read slots = do
  format ← shallow_text (shallow_view slots.format_version)
  version ← shallow_text_or (codes "0.0.0") (shallow_view slots.terraform_version)
  if may_list slots.resource_changes then if starts_with nat_eq format (codes "1.") then Some version else None else None
