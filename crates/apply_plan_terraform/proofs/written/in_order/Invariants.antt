use Rattle.std.proofs.Common.{◌≡◌, ◌++◌, length, option_map}
use Rattle.std.specs.Vec.Iter.{into_iter_items, into_iter_len}
use Rattle.serde_json.specs.View.{view}
use Rattle.apply_plan_terraform.specs.InOrder.{outputs_written}
use Rattle.apply_plan_terraform.proofs.written.in_order.Given as goal

abbrev pub invariant-loop-name : goal.invariant-loop-name
invariant-loop-name l =
    let changes = option_map (λ value. view value.now) l.changes in
    (outputs_written changes l.fn.known.items ≡ l.outputs.items ++ outputs_written changes (into_iter_items l.name-iterator))
    × (into_iter_len l.name-iterator ≡ length (into_iter_items l.name-iterator))
