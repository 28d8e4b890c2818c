use Rattle.std.proofs.Common.{◌≡◌, take}
use Rattle.serde_json.specs.View.{items_view}
use Rattle.apply_json.specs.Tree.{list_of}
use Rattle.input_validate.specs.Findings.{reported}
use Rattle.input_validate.specs.Rules.{items_from}
use Rattle.input_validate.proofs.rules.walk.walk_items.Given as goal

abbrev pub invariant-loop-number : goal.invariant-loop-number
invariant-loop-number g l = l.all ≡ reported (items_from (g.W.Walk.findings l.walk) 0 (list_of (items_view (take l.number l.items))))
