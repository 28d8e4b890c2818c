-- What a plan's JSON says of the time before its apply.
use Rattle.std.specs.Prelude.{ℕ, List, map, Option, Some}
use Rattle.serde_json.specs.Data.{Data}
use Rattle.apply_json.specs.Tree.{◌>>=◌, tree_of}
use Rattle.apply_prior.specs.declared.drift.Drift.{Drift}
use Rattle.apply_prior.specs.declared.planned_output.PlannedOutput.{PlannedOutput}
use Rattle.apply_prior.specs.declared.prior.Prior.{Prior}
use Rattle.apply_prior.specs.declared.prior_object.PriorObject.{PriorObject}
use Rattle.apply_prior.specs.Drifts.{drifts_of}
use Rattle.apply_prior.specs.Objects.{ObjectOfPlan, objects_of}
use Rattle.apply_prior.specs.Outputs.{planned_outputs_of}

-- the objects, the drifts and the planned changes of outputs
pub record PriorOfPlan : Type 0 where
  pub objects : List ObjectOfPlan
  pub drifts : List Drift
  pub outputs : List PlannedOutput

abbrev pub prior_in : Data → PriorOfPlan
prior_in plan = record { objects = objects_of plan; drifts = drifts_of plan; outputs = planned_outputs_of plan }

-- what the bytes of a plan give; none where they are no JSON
abbrev pub prior_of : List ℕ → Option PriorOfPlan
prior_of bytes = tree_of bytes >>= λ plan. Some (prior_in plan)

-- what the code's values of these stand for
abbrev pub object_view : PriorObject → ObjectOfPlan
object_view prior = record { object = prior.object; depends_on = prior.depends_on.items; id_before = prior.id_before }

abbrev pub prior_view : Prior → PriorOfPlan
prior_view prior = record { objects = map object_view prior.objects.items; drifts = prior.drifts.items; outputs = prior.outputs.items }
