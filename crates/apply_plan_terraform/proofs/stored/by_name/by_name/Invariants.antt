use Rattle.std.proofs.Common.{◌≡◌, length}
use Rattle.std.specs.Vec.Iter.{into_iter_items, into_iter_len}
use Rattle.serde_json.specs.Data.{no_members}
use Rattle.apply_plan_terraform.specs.StoredOutputs.{members_view, put_all}
use Rattle.apply_plan_terraform.proofs.stored.by_name.by_name.Given as goal

abbrev pub invariant-loop-name : goal.invariant-loop-name
invariant-loop-name l =
    (put_all l.fn.outputs.items no_members ≡ put_all (into_iter_items l.name-iterator) (members_view l.collected.entries))
    × (into_iter_len l.name-iterator ≡ length (into_iter_items l.name-iterator))
