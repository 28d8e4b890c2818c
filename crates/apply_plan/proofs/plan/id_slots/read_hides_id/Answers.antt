use Rattle.std.proofs.Common.{rules}
use Rattle.apply_json.proofs.VerbatimValues.{as_whole}
use Rattle.apply_plan.proofs.plan.id_slots.read_hides_id.Goals as goal

pub returns-then-is_true-clause-ok : goal.returns-then-is_true-clause-ok
returns-then-is_true-clause-ok c =
    let done = c.in_ok-value.ensures.ok in
    let read = as_whole c.args.depth c.args.reader.now done.0 _ done.1 in
    search (rules, read)

pub returns-else-is_true-clause-ok : goal.returns-else-is_true-clause-ok
returns-else-is_true-clause-ok c =
    let done = c.in_ok-value.ensures.ok in
    let read = as_whole c.args.depth c.args.reader.now done.0 _ done.1 in
    search (rules, read)
