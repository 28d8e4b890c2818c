-- The change of the next element, for private clauses: it is compared with earlier changes.
use Rattle.std.specs.Prelude.{List, length, if◌then◌else◌, Result, Ok, Err}
use Rattle.std.specs.List.{list_any}
use Rattle.serde_json.specs.Data.{Data}
use Rattle.apply_plan.specs.declared.plan.plan_error.PlanError.{PlanError}
use Rattle.apply_plan.specs.declared.plan.plan_error.PlanError.TheVariants.{Duplicate}
use Rattle.apply_model.specs.Plan.ResourceChange.{ResourceChange}
use Rattle.apply_resolve.specs.ObjectName.{is_same_object}
use Rattle.apply_plan.specs.Plan.SavedPlan.{planned_at}
use Rattle.apply_plan.specs.Results.{◌>>=◌}

-- the change of the element after `earlier`, or its first fault
unfoldable pub change_after : List ResourceChange → Data → Result ResourceChange PlanError
change_after earlier d = do
  change ← planned_at (length earlier) d
  if list_any (is_same_object change) earlier then Err (Duplicate (length earlier)) else Ok change
