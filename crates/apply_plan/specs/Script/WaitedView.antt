-- The resolved items of one `after` list, for the private type `Waited`.
use Rattle.std.specs.Prelude.{List, if◌then◌else◌, Option, Some, None}
use Rattle.std.specs.List.{filter_map, list_any}
use Rattle.apply_model.specs.Plan.ResourceChange.{ResourceChange}
use Rattle.apply_plan.specs.declared.script.waited.Waited.{Waited}
use Rattle.apply_plan.specs.Script.Entry.{WaitName}
use Rattle.apply_plan.specs.Script.Refusals.{is_unknown, lacks_step}
use Rattle.apply_plan.specs.Script.WaitedStep.{step_waited}

-- the resolved items; none if an item names no change
abbrev pub waited_by : List ResourceChange → List WaitName → Option Waited
waited_by changes names =
    if list_any (is_unknown changes) names then None
    else Some (record { waits = filter_map (step_waited changes) names; lacks_step = list_any (lacks_step changes) names })
