-- What decides of the objects of a planning, for the type that stores it.
use Rattle.std.specs.Prelude.{◌≡◌}
use Rattle.apply_resolve.specs.declared.object_id.ObjectId.{ObjectId}
use Rattle.apply_resolve.specs.ChangeNumbers.{number_of as change_number}
use Rattle.apply_planning_script.specs.declared.expected.Expected.{Expected}
use Rattle.apply_planning_script.specs.ObjectIndex.{name_of_id, number_of}
use Rattle.apply_planning_script.specs.Objects.{number_in, object_of}
use Rattle.apply_planning_script.specs.Rules.{PlannedObjects, object_of_drift}

-- it has the changes, the details and the drifts
pub record HasPlanned (expected : Expected) (plan : PlannedObjects) : Type 0 where
  pub changes : (id : ObjectId) → change_number expected.changes id ≡ number_in object_of plan.changes (name_of_id id)
  pub details : expected.details.now ≡ plan.details
  pub drifts : (id : ObjectId) → number_of expected.drifts id ≡ number_in object_of_drift plan.drifts (name_of_id id)
