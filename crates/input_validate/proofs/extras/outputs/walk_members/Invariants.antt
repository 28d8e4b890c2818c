use Rattle.std.proofs.Common.{◌≡◌, ◌-◌, ◌≤◌, ◌++◌, List, length, option_map}
use Rattle.std.specs.Option.{option_copied}
use Rattle.serde_json.specs.View.{members_view}
use Rattle.apply_plan_terraform.specs.Outputs.{outputs_view}
use Rattle.input_validate.specs.declared.findings.finding.Finding.{Finding}
use Rattle.input_validate.specs.Extras.{in_plan_output, members_from}
use Rattle.input_validate.specs.Findings.{reported}
use Rattle.input_validate.proofs.extras.outputs.walk_members.Given as goal

abbrev pub invariant-loop-name : goal.invariant-loop-name
invariant-loop-name l =
    (xs : List Finding) × (l.all ≡ reported xs) × (l.left ≡ length l.name-iterator) × (l.left ≤ l.count)
    × (xs ++ members_from (in_plan_output (option_map outputs_view (option_copied l.planned))) (l.count - l.left) (members_view l.name-iterator)
    ≡ members_from (in_plan_output (option_map outputs_view (option_copied l.planned))) 0 (members_view l.outputs.entries))
