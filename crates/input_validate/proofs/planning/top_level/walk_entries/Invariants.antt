use Rattle.std.proofs.Common.{◌≡◌, [], map, take}
use Rattle.std.specs.Option.{option_copied}
use Rattle.serde_json.specs.View.{items_view}
use Rattle.apply_json.specs.Tree.{list_of}
use Rattle.input_validate.specs.Findings.{reported}
use Rattle.input_validate.specs.FirstNamed.{AreFirst}
use Rattle.input_validate.specs.Planning.{in_planned_after, planned_name}
use Rattle.input_validate.specs.Rules.{items_after}
use Rattle.input_validate.proofs.planning.top_level.walk_entries.Given as goal

abbrev pub invariant-loop-number : goal.invariant-loop-number
invariant-loop-number l = record {
  findings : l.all ≡ reported (items_after (in_planned_after (option_copied l.known)) [] (list_of (items_view (take l.number l.entries))));
  named : AreFirst l.named (map planned_name (list_of (items_view (take l.number l.entries))));
}
