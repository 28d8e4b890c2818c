use Rattle.std.proofs.Common.{rules}
use Rattle.apply_json.proofs.VerbatimValues.{as_whole}
use Rattle.apply_plan.proofs.plan.actions.read_actions.Goals as goal

pub returns-in-List-clause-ok : goal.returns-in-List-clause-ok
returns-in-List-clause-ok c =
    let done = c.in_ok-read_list.ensures.ok in
    let read = as_whole c.args.depth c.args.reader.now done.0 _ done.1 in
    search (rules, read)

pub returns-in-Absent : goal.returns-in-Absent
returns-in-Absent c =
    let done = c.in_ok-read_list.ensures.ok in
    let read = as_whole c.args.depth c.args.reader.now done.0 _ done.1 in
    search (rules, read)
