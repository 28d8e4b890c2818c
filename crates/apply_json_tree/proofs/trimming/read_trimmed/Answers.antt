use Rattle.std.proofs.Common.{arith}
use Rattle.serde_json.specs.Read.{of_json}
use Rattle.apply_json_tree.proofs.Made.{made_if, made_refused}
use Rattle.apply_json.proofs.Whole.{read_alone, read_more, read_none}
use Rattle.apply_json_tree.proofs.trimming.read_trimmed.Goals as goal

pub returns-clause-ok : goal.returns-clause-ok
returns-clause-ok g c =
    let done = c.in_ok-tree.ensures.ok in
    made_if _ c.end.result c.made.result c.in_ok-tree.tree c.made.ensures
    (λ over. (done.0, read_alone c.args.text.now c.in_ok-reader.reader c.in_ok-reader.ensures.ok of_json done.0 c.read.new.reader done.1 over, done.2))
    c.end.ensures.ok

pub returns-clause-err : goal.returns-clause-err
returns-clause-err g c refused =
    let done = c.in_ok-tree.ensures.ok in
    let more = made_refused c.end.result c.made.result c.in_ok-tree.tree c.made.ensures refused in
    read_more c.args.text.now c.in_ok-reader.reader c.in_ok-reader.ensures.ok of_json of_json done.0 c.read.new.reader done.1 (rw more at c.end.ensures.err)

pub returns-in_err-tree-clause-err : goal.returns-in_err-tree-clause-err
returns-in_err-tree-clause-err g c refused = read_none c.args.text.now c.in_ok-reader.reader c.in_ok-reader.ensures.ok of_json (c.read.ensures.err (grind arith))
