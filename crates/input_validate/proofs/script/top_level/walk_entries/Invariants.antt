use Rattle.std.proofs.Common.{◌≡◌, [], map, take}
use Rattle.std.specs.List.{sum_by}
use Rattle.std.specs.Option.{option_copied}
use Rattle.serde_json.specs.View.{items_view}
use Rattle.apply_json.specs.Tree.{list_of}
use Rattle.input_validate.specs.AgainstPlan.{waits_in_all, waits_left}
use Rattle.input_validate.specs.Findings.{reported}
use Rattle.input_validate.specs.FirstNamed.{AreFirst}
use Rattle.input_validate.specs.PlanFindings.{name_read}
use Rattle.input_validate.specs.ScriptFindings.{in_entry_after}
use Rattle.input_validate.specs.Rules.{items_after}
use Rattle.input_validate.proofs.script.top_level.walk_entries.Given as goal

abbrev pub invariant-loop-number : goal.invariant-loop-number
invariant-loop-number l = record {
  findings : l.all ≡ reported (items_after (in_entry_after (option_copied l.planned)) [] (list_of (items_view (take l.number l.entries))));
  named : AreFirst l.named (map name_read (list_of (items_view (take l.number l.entries))));
  room : l.left ≡ waits_left (sum_by waits_in_all (list_of (items_view (take l.number l.entries))));
}
