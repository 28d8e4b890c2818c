use Rattle.std.proofs.Common.{◌≡◌, Result, Ok, Err, [], ap, option_map, rules}
use Rattle.std.specs.Result.{IfOk}
use Rattle.serde_json.specs.View.{view}
use Rattle.apply_plan_terraform.specs.InOrder.{IsAscending, outputs_written}
use Rattle.apply_plan_terraform.specs.StoredOutputs.{members_view}
use Rattle.apply_plan_terraform.proofs.InOrder.{no_entries, written_in_order}
use Rattle.apply_plan_terraform.proofs.written.written_outputs.Goals as goal

if_ok : {T E : Type 0} {P Q : T → Type 0} (r : Result T E) → ((x : T) → P x → Q x) → IfOk r P → IfOk r Q
if_ok (Ok x) f p = f x p
if_ok (Err e) f p = tt

pub returns-then-is_ascending : goal.returns-then-is_ascending
returns-then-is_ascending c =
    let known = c.args.plan.known.items in
    let changes = option_map view c.args.plan.changes in
    let script = c.args.script.outputs.entries in
    let empty : script ≡ [] = no_entries script (c.is_empty.ensures.0 c.if-is_empty.true) in
    let ascends : IsAscending known = search rules in
    if_ok c.in_order.result (λ outputs (are : outputs.items ≡ outputs_written changes known). written_in_order changes known (members_view script) outputs.items (ap members_view empty) ascends are) (search rules)
