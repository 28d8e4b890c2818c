use Rattle.std.proofs.Common.{◌≡◌, [], arith}
use Rattle.apply_json.proofs.FirstToken.{first_token}
use Rattle.apply_json.specs.declared.read_fault.ReadFault.TheVariants.{NotJson}
use Rattle.stream_record_lines.specs.OutputSlots.{entries_view}
use Rattle.stream_record_lines.proofs.OutputTexts.{of_members, of_more, of_no_members, of_nothing, of_other}
use Rattle.stream_record_lines.proofs.outputs.each.read_text.Goals as goal

pub returns-in_err-token-clause-err : goal.returns-in_err-token-clause-err
returns-in_err-token-clause-err c refused =
    let empty : c.in_ok-reader.reader ≡ [] = grind arith in
    of_nothing c.args.text.now c.in_ok-reader.reader c.in_ok-reader.ensures.ok empty

pub returns-in_err-found-in-BeginObject-clause-err : goal.returns-in_err-found-in-BeginObject-clause-err
returns-in_err-found-in-BeginObject-clause-err c refused =
    let first = first_token c.next.result c.in_ok-token.token NotJson c.in_ok-reader.reader c.next.new.self c.in_ok-token.ensures.value c.next.ensures.value in
    of_no_members c.args.text.now c.in_ok-reader.reader c.in_ok-reader.ensures.ok c.in_ok-token.token c.next.new.self first c.in-BeginObject.is (c.read_members.ensures.err (grind arith))

pub returns-in_err-end-in-BeginObject-clause-err : goal.returns-in_err-end-in-BeginObject-clause-err
returns-in_err-end-in-BeginObject-clause-err c refused =
    let first = first_token c.next.result c.in_ok-token.token NotJson c.in_ok-reader.reader c.next.new.self c.in_ok-token.ensures.value c.next.ensures.value in
    of_more c.args.text.now c.in_ok-reader.reader c.in_ok-reader.ensures.ok c.in_ok-token.token c.next.new.self first c.in-BeginObject.is
    (entries_view c.in_ok-found-in-BeginObject.found.entries) c.read_members.new.reader c.in_ok-found-in-BeginObject.ensures.ok c.in_err-end-in-BeginObject.ensures.err

pub returns-in_ok-end-in-BeginObject-clause-ok : goal.returns-in_ok-end-in-BeginObject-clause-ok
returns-in_ok-end-in-BeginObject-clause-ok c =
    let first = first_token c.next.result c.in_ok-token.token NotJson c.in_ok-reader.reader c.next.new.self c.in_ok-token.ensures.value c.next.ensures.value in
    of_members c.args.text.now c.in_ok-reader.reader c.in_ok-reader.ensures.ok c.in_ok-token.token c.next.new.self first c.in-BeginObject.is
    (entries_view c.in_ok-found-in-BeginObject.found.entries) c.read_members.new.reader c.in_ok-found-in-BeginObject.ensures.ok c.in_ok-end-in-BeginObject.ensures.ok

pub returns-in_default-clause-err : goal.returns-in_default-clause-err
returns-in_default-clause-err c refused =
    let first = first_token c.next.result c.in_ok-token.token NotJson c.in_ok-reader.reader c.next.new.self c.in_ok-token.ensures.value c.next.ensures.value in
    of_other c.args.text.now c.in_ok-reader.reader c.in_ok-reader.ensures.ok c.in_ok-token.token c.next.new.self first c.in_default.not-BeginObject
