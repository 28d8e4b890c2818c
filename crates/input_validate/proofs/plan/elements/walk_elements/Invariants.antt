use Rattle.std.proofs.Common.{◌≡◌, [], map, take}
use Rattle.serde_json.specs.View.{items_view}
use Rattle.apply_json.specs.Tree.{list_of}
use Rattle.input_validate.specs.Findings.{reported}
use Rattle.input_validate.specs.FirstNamed.{AreFirst}
use Rattle.input_validate.specs.PlanFindings.{in_element, name_of}
use Rattle.input_validate.specs.Rules.{items_after}
use Rattle.input_validate.proofs.plan.elements.walk_elements.Given as goal

abbrev pub invariant-loop-number : goal.invariant-loop-number
invariant-loop-number l = record {
  findings : l.all ≡ reported (items_after in_element [] (list_of (items_view (take l.number l.elements))));
  named : AreFirst l.names (map name_of (list_of (items_view (take l.number l.elements))));
}
