use Rattle.std.proofs.Common.{◌≡◌, map, take}
use Rattle.serde_json.specs.View.{view}
use Rattle.apply_plan_terraform.specs.Details.{element_details}
use Rattle.apply_plan_terraform.proofs.changes.details_of.Given as goal

abbrev pub invariant-loop-element : goal.invariant-loop-element
invariant-loop-element l = l.changes.items ≡ map (λ value. element_details (view value)) (take l.element-index l.elements)
