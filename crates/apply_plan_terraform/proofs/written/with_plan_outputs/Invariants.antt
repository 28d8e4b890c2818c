use Rattle.std.proofs.Common.{◌≡◌, length, option_map}
use Rattle.serde_json.specs.View.{view}
use Rattle.apply_plan_terraform.specs.StoredOutputs.{members_view}
use Rattle.apply_plan_terraform.specs.Outputs.{with_plan_outputs}
use Rattle.apply_plan_terraform.proofs.written.with_plan_outputs.Given as goal

abbrev pub invariant-loop-name : goal.invariant-loop-name
invariant-loop-name l =
    let changes = option_map (λ value. view value.now) l.changes in
    with_plan_outputs changes (members_view l.initial.known.entries) (members_view l.initial.collected.entries) ≡ with_plan_outputs changes (members_view l.known.entries) (members_view l.collected.entries)

abbrev pub decreases-loop-name : goal.decreases-loop-name
decreases-loop-name l = length l.known.entries
