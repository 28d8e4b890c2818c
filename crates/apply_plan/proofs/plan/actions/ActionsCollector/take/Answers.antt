use Rattle.std.proofs.Common.{rules}
use Rattle.apply_json.proofs.VerbatimValues.{as_item}
use Rattle.apply_plan.proofs.plan.actions.ActionsCollector.take.Goals as goal

pub returns-clause-ok : goal.returns-clause-ok
returns-clause-ok c =
    let done = c.in_ok-read_shallow.ensures.ok in
    let read = as_item c.args.depth c.args.reader.now done.0 _ done.1 in
    search (rules, read)
