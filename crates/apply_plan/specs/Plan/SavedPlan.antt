-- The plan that bytes state, or the first fault (JSON Output Format, "Plan Representation").
use Rattle.std.specs.Prelude.{ℕ, List, length, Bool, false, nat_lt, if◌then◌else◌, Result, Ok, Err}
use Rattle.std.specs.List.{list_any}
use Rattle.std.specs.Option.{option_map_or}
use Rattle.serde_json.specs.Data.{Data}
use Rattle.serde_json.specs.Events.{items_len}
use Rattle.apply_plan.specs.declared.plan.plan_error.PlanError.{PlanError}
use Rattle.apply_plan.specs.declared.plan.plan_error.PlanError.TheVariants.{TooLarge, NotJson, NotAPlan, TooMany, BadChange, BadActions, BadAddress, Duplicate}
use Rattle.apply_model.specs.declared.plan.step_kind.StepKind.{StepKind}
use Rattle.apply_model.specs.Plan.Address.{relative_address}
use Rattle.apply_plan.specs.Plan.Element.{Element, element_of}
use Rattle.apply_plan.specs.Plan.Header.{header_of}
use Rattle.apply_resolve.specs.ObjectName.{name_one_object}
use Rattle.apply_model.specs.Plan.ResourceChange.{ResourceChange}
pub use Rattle.apply_model.specs.Plan.SavedPlan.{SavedPlan, max_changes}
use Rattle.apply_plan.specs.Plan.Steps.{steps_of_actions}
use Rattle.apply_plan.specs.Results.{◌>>=◌, all_or_first, each_with_earlier, or_refuse}
use Rattle.apply_json.specs.Tree.{list_of}
use Rattle.apply_plan.specs.Bytes.{of_bytes}

-- the change of an element, with its steps
abbrev pub change_of : Element → List StepKind → ResourceChange
change_of e steps = record {
  address = e.address;
  module_address = e.module_address;
  mode = e.mode;
  kind_name = e.kind_name;
  name = e.name;
  key = e.key;
  deposed = e.deposed;
  prior_id = e.prior_id;
  steps = steps;
}

-- the change of element n, or the first fault of the element by itself
unfoldable pub planned_at : ℕ → Data → Result ResourceChange PlanError
planned_at n d = do
  e ← or_refuse (BadChange n) (element_of d)
  steps ← or_refuse (BadActions n) (steps_of_actions e.actions)
  relative ← or_refuse (BadAddress n) (relative_address e.module_address e.address)
  Ok (change_of e steps)

-- whether an element has the address and the deposed key of the change
abbrev pub names_object_of : ResourceChange → Data → Bool
names_object_of change d =
    option_map_or
    (λ e. name_one_object e.address e.deposed change.address change.deposed)
    (element_of d) false

-- the change of an element, or its first fault; it is compared with each element before it
unfoldable pub change_at : List Data → Data → Result ResourceChange PlanError
change_at before d = do
  change ← planned_at (length before) d
  if list_any (names_object_of change) before then Err (Duplicate (length before)) else Ok change

-- the changes of the elements, or the fault of the first faulty element
unfoldable pub changes_of : List Data → Result (List ResourceChange) PlanError
changes_of elements = all_or_first (each_with_earlier change_at elements)

unfoldable pub plan_of_tree : Data → Result SavedPlan PlanError
plan_of_tree d = do
  header ← or_refuse NotAPlan (header_of d)
  if nat_lt max_changes (items_len header.elements) then Err TooMany else do
    changes ← changes_of (list_of header.elements)
    Ok (record { version = header.version; changes = changes })

-- the plan that the bytes state, or the first fault
unfoldable pub plan_of : List ℕ → Result SavedPlan PlanError
plan_of bytes = of_bytes TooLarge NotJson plan_of_tree bytes
