use Rattle.std.proofs.Common.{◌≡◌, None, take}
use Rattle.serde_json.specs.View.{items_view}
use Rattle.apply_json.specs.Tree.{list_of}
use Rattle.input_validate.specs.Findings.{reported}
use Rattle.input_validate.specs.ScriptFindings.{outputs_after}
use Rattle.input_validate.proofs.OutputsSoFar.{last_after}
use Rattle.input_validate.proofs.script.output.walk_items.Given as goal

abbrev pub invariant-loop-number : goal.invariant-loop-number
invariant-loop-number l = record {
  findings : l.all ≡ reported (outputs_after l.seconds None 0 (list_of (items_view (take l.number l.items))));
  before : l.before ≡ last_after l.seconds None (list_of (items_view (take l.number l.items)));
}
