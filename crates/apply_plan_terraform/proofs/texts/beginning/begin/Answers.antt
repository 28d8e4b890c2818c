use Rattle.std.proofs.Common.{◌≡◌, [], sym, ap, ◌∙◌, refl, arith}
use Rattle.json.specs.Json.{value}
use Rattle.json.specs.Reads.{token_of}
use Rattle.serde_json.specs.Data.{string}
use Rattle.apply_json.proofs.FirstToken.{first_token, shorter}
use Rattle.apply_json.specs.declared.read_fault.ReadFault.TheVariants.{NotJson}
use Rattle.apply_plan_terraform.proofs.Copying.{nothing_left, object_is, object_too_deep}
use Rattle.apply_plan_terraform.proofs.RawTexts.{stored_other}
use Rattle.apply_plan_terraform.proofs.texts.beginning.begin.Goals as goal

pub returns-in_err-token-clause-err : goal.returns-in_err-token-clause-err
returns-in_err-token-clause-err c =
    let empty : c.args.reader.now ≡ [] = grind arith in
    λ refused. nothing_left c.args.depth [] c.args.reader.now empty

pub returns-then-depth-eq0-clause-err : goal.returns-then-depth-eq0-clause-err
returns-then-depth-eq0-clause-err c =
    let first = first_token c.next.result c.in_ok-token.token NotJson c.args.reader.now c.next.new.self c.in_ok-token.ensures.value c.next.ensures.value in
    λ refused. ap (value c.args.depth) first ∙ object_too_deep c.args.depth c.next.new.self c.in_ok-token.token c.in-BeginObject.is c.if-depth-eq0.true

pub returns-else-depth-eq0-clause-ok : goal.returns-else-depth-eq0-clause-ok
returns-else-depth-eq0-clause-ok c =
    let first = first_token c.next.result c.in_ok-token.token NotJson c.args.reader.now c.next.new.self c.in_ok-token.ensures.value c.next.ensures.value in
    (omega arith, ap (value c.args.depth) first ∙ object_is c.args.depth c.next.new.self c.in_ok-token.token _ c.in-BeginObject.is (omega arith) refl)

pub returns-in_ok-read_rest_as_text-in_default : goal.returns-in_ok-read_rest_as_text-in_default
returns-in_ok-read_rest_as_text-in_default c =
    let first = first_token c.next.result c.in_ok-token.token NotJson c.args.reader.now c.next.new.self c.in_ok-token.ensures.value c.next.ensures.value in
    let done = c.in_ok-read_rest_as_text-in_default.ensures in
    let less = shorter c.args.reader.now c.next.new.self (token_of c.in_ok-token.token) first in
    record {
      ok = (
        done.ok.0,
        ap (value c.args.depth) first ∙ done.ok.1,
        (λ part. stored_other part c.args.depth c.in_ok-token.token c.next.new.self _ done.ok.0 c.in_default.not-BeginObject done.ok.1 ∙ ap string (sym done.ok.2)),
      );
      shorter = omega (arith, less, done.shorter);
      err = λ refused. absurd cc;
    }
