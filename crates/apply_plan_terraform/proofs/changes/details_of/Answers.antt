use Rattle.apply_plan_terraform.specs.Details.{element_details}
use Rattle.apply_plan_terraform.proofs.ElementLists.{of_all}
use Rattle.apply_plan_terraform.proofs.changes.details_of.Goals as goal

pub returns : goal.returns
returns c = of_all element_details c.loop-element.changes.items c.args.elements.now c.loop-element.element-index c.loop-element-test.false c.loop-element.invariant
