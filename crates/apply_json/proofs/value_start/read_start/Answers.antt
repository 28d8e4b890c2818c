use Rattle.std.proofs.Common.{◌≡◌, None, Result, Ok, Err, [], ap, ◌∙◌, arith}
use Rattle.std.specs.Prelude.{OnErr}
use Rattle.json.specs.Json.{value}
use Rattle.json.proofs.Grammar.{value_is}
use Rattle.serde_json.specs.Read.{of_json, converted}
use Rattle.apply_json.proofs.FirstToken.{begun_there, first_token, none_there, opened_there, shorter_there}
use Rattle.apply_json.proofs.value_start.read_start.Goals as goal

abbrev held : {T E Q : Type 0} (r : Result T E) → Q → OnErr r Q
held (Ok x) q = tt
held (Err e) q = q

pub returns-in_err-token-clause-err : goal.returns-in_err-token-clause-err
returns-in_err-token-clause-err c =
    let empty : c.args.reader.now ≡ [] = grind arith in
    let none : converted of_json (value c.args.depth c.args.reader.now) ≡ None = ap (converted of_json) (ap (value c.args.depth) empty ∙ value_is c.args.depth []) in
    held c.from_residual.result none

pub returns-clause-ok : goal.returns-clause-ok
returns-clause-ok c =
    let first = first_token c.next.result c.in_ok-token.token record {} c.args.reader.now c.next.new.self c.in_ok-token.ensures.value c.next.ensures.value in
    begun_there c.args.depth c.args.reader.now c.next.new.self c.in_ok-token.token first c.start_of_token.result c.start_of_token.ensures.ok

pub returns-clause-opened : goal.returns-clause-opened
returns-clause-opened c =
    let first = first_token c.next.result c.in_ok-token.token record {} c.args.reader.now c.next.new.self c.in_ok-token.ensures.value c.next.ensures.value in
    opened_there c.args.depth c.args.reader.now c.next.new.self c.in_ok-token.token first c.start_of_token.result c.start_of_token.ensures.ok

pub returns-clause-err : goal.returns-clause-err
returns-clause-err c =
    let first = first_token c.next.result c.in_ok-token.token record {} c.args.reader.now c.next.new.self c.in_ok-token.ensures.value c.next.ensures.value in
    none_there c.args.depth c.args.reader.now c.next.new.self c.in_ok-token.token first c.start_of_token.result c.start_of_token.ensures.err

pub returns-clause-shorter : goal.returns-clause-shorter
returns-clause-shorter c =
    let first = first_token c.next.result c.in_ok-token.token record {} c.args.reader.now c.next.new.self c.in_ok-token.ensures.value c.next.ensures.value in
    shorter_there c.args.depth c.args.reader.now c.next.new.self c.in_ok-token.token first c.start_of_token.result
