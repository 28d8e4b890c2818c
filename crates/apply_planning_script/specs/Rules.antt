-- Which objects a stream tells of while a plan is made, where no script says anything of them.
use Rattle.std.specs.Prelude.{List, Bool, false, not, ◌&&◌, ◌||◌, slice_get}
use Rattle.std.specs.Option.{option_and_then, option_map_or}
use Rattle.apply_model.specs.declared.details.change_details.ChangeDetails.{ChangeDetails}
use Rattle.apply_model.specs.declared.plan.mode.Mode.{Mode}
use Rattle.apply_model.specs.declared.plan.mode.Mode.TheVariants.{DataSource, Managed}
use Rattle.apply_model.specs.Plan.ResourceChange.{ResourceChange}
use Rattle.apply_prior.specs.declared.drift.Drift.{Drift}
use Rattle.apply_planning_script.specs.declared.rules.PlanningRules.{PlanningRules}
use Rattle.apply_planning_script.specs.Objects.{ObjectName, is_among, number_in, object_of}

-- what the plan says of objects: its changes, their details, and the drifts
pub record PlannedObjects : Type 0 where
  pub changes : List ResourceChange
  pub details : List ChangeDetails
  pub drifts : List Drift

-- the object of a drift
abbrev pub object_of_drift : Drift → ObjectName
object_of_drift drift = object_of drift.change

-- the plan changes the object, or leaves it as it is
abbrev pub is_planned : PlannedObjects → ObjectName → Bool
is_planned plan object = is_among object_of plan.changes object

-- the plan forgets the object
abbrev pub is_forgotten : PlannedObjects → ObjectName → Bool
is_forgotten plan object =
    option_map_or (λ details. details.forgets)
    (option_and_then (slice_get plan.details) (number_in object_of plan.changes object)) false

-- the object has changed outside of Terraform
abbrev pub has_drifted : PlannedObjects → ObjectName → Bool
has_drifted plan object = is_among object_of_drift plan.drifts object

-- data sources are read: not without a refresh where the command destroys, and not for a partial
-- plan
abbrev pub is_read : PlanningRules → Bool
is_read rules = (rules.refreshes || not rules.destroys) && not rules.is_partial

-- a managed resource is refreshed: not without a refresh, and not where the plan forgets it; for a
-- partial plan only where the plan names it or it has changed outside of Terraform
abbrev pub is_refreshed : PlanningRules → PlannedObjects → ObjectName → Bool
is_refreshed rules plan object =
    rules.refreshes && not (is_forgotten plan object)
    && (not rules.is_partial || (is_planned plan object || has_drifted plan object))

abbrev pub is_expected_by : Mode → PlanningRules → PlannedObjects → ObjectName → Bool
is_expected_by DataSource rules plan object = is_read rules
is_expected_by Managed rules plan object = is_refreshed rules plan object

-- a stream tells of the object, where no script says anything of it
abbrev pub is_expected : PlanningRules → PlannedObjects → ResourceChange → Bool
is_expected rules plan object = is_expected_by object.mode rules plan (object_of object)
