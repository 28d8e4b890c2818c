use Rattle.std.proofs.Common.{arith}
use Rattle.serde_json.specs.Read.{of_json}
use Rattle.apply_json.specs.Verbatim.{mixed_tree}
use Rattle.apply_json.proofs.Copied.{if_ok}
use Rattle.apply_json.proofs.Whole.{read_alone, read_more, read_none}
use Rattle.apply_json.proofs.parsing.read_whole.Goals as goal

pub returns-clause-ok : goal.returns-clause-ok
returns-clause-ok g c =
    let done = c.in_ok-read_object.ensures.ok in
    if_ok c.end.result (λ over. (done.0, read_alone c.args.text.now c.in_ok-reader.reader c.in_ok-reader.ensures.ok (mixed_tree g.S.Slots.is_verbatim) done.0 c.read_object.new.reader done.1 over, done.3)) c.end.ensures.ok

pub returns-clause-err : goal.returns-clause-err
returns-clause-err g c refused =
    let done = c.in_ok-read_object.ensures.ok in
    read_more c.args.text.now c.in_ok-reader.reader c.in_ok-reader.ensures.ok (mixed_tree g.S.Slots.is_verbatim) of_json done.0 c.read_object.new.reader done.1 (rw refused at c.end.ensures.err)

pub returns-in_err-read_object-clause-err : goal.returns-in_err-read_object-clause-err
returns-in_err-read_object-clause-err g c refused = read_none c.args.text.now c.in_ok-reader.reader c.in_ok-reader.ensures.ok of_json (c.read_object.ensures.err (grind arith))
