-- Drifts (JSON Output Format, "Plan Representation", `resource_drift`).
use Rattle.std.specs.Prelude.{◌==◌, ◌&&◌, List, codes, length, Bool, not, if◌then◌else◌, Option, Some, None}
use Rattle.std.specs.List.{filter_map}
use Rattle.std.specs.Option.{is_none}
use Rattle.serde_json.specs.Data.{Data}
use Rattle.apply_json.specs.Tree.{◌>>=◌}
use Rattle.apply_model.specs.declared.details.change_details.ChangeDetails.{ChangeDetails}
use Rattle.apply_model.specs.Plan.Address.{relative_address}
use Rattle.apply_model.specs.Plan.ResourceChange.{ResourceChange}
use Rattle.apply_plan.specs.Plan.Element.{element_of}
use Rattle.apply_plan.specs.Plan.SavedPlan.{change_of}
use Rattle.apply_plan.specs.Plan.Steps.{steps_of_actions}
use Rattle.apply_plan_terraform.specs.Details.{element_details}
use Rattle.apply_prior.specs.declared.drift.Drift.{Drift}
use Rattle.apply_prior.specs.Elements.{items_at}

-- the change of an element, by the rules of `resource_changes`; none if it breaks one
abbrev pub drifted_of : Data → Option ResourceChange
drifted_of d = do
  e ← element_of d
  steps ← steps_of_actions e.actions
  relative ← relative_address e.module_address e.address
  Some (change_of e steps)

-- the object neither changed nor moved: its actions are `["no-op"]`, and it has no previous address
abbrev pub is_still : ResourceChange → ChangeDetails → Bool
is_still change details = (length change.steps == 0) && (not details.forgets && is_none details.previous)

-- the drift, unless its object is still
abbrev pub unless_still : ResourceChange → ChangeDetails → Option Drift
unless_still change details = if is_still change details then None else Some (record { change = change; details = details })

-- the drift that an element states
abbrev pub drift_of : Data → Option Drift
drift_of d = drifted_of d >>= λ change. unless_still change (element_details d)

-- the drifts of a plan, in their order
abbrev pub drifts_of : Data → List Drift
drifts_of plan = filter_map drift_of (items_at (codes "resource_drift") plan)
