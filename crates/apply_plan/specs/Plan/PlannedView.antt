-- Contracts see a valid element as its change, for the private type `Planned`.
use Rattle.apply_plan.specs.declared.plan.planned.Planned.{Planned}
use Rattle.apply_model.specs.Plan.Action.{steps_of_action}
use Rattle.apply_plan.specs.Plan.ElementView.{change_with_steps, element_view}
use Rattle.apply_model.specs.Plan.ResourceChange.{ResourceChange}

abbrev pub planned_view : Planned → ResourceChange
planned_view p = change_with_steps (element_view p.element) (steps_of_action p.action)
