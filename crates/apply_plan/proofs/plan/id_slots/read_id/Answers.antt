use Rattle.std.proofs.Common.{rules}
use Rattle.apply_json.proofs.VerbatimValues.{as_whole}
use Rattle.apply_plan.proofs.plan.id_slots.read_id.Goals as goal

pub returns-in-Ok-clause-ok : goal.returns-in-Ok-clause-ok
returns-in-Ok-clause-ok c =
    let done = c.in-Ok.ensures.ok in
    let read = as_whole c.args.depth c.args.reader.now done.0 _ done.1 in
    search (rules, read)
