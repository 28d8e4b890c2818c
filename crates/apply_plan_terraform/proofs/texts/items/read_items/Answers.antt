use Rattle.std.proofs.Common.{◌≡◌, List, Option, Some, true, false, sym, ap, ◌∙◌, arith}
use Rattle.std.specs.Prelude.{is_some}
use Rattle.serde_json.specs.Data.{Data}
use Rattle.apply_plan_terraform.proofs.Arrays.{none_left, of_broken, of_more, of_nothing, of_other, of_whole, one_left}
use Rattle.apply_plan_terraform.proofs.Beginnings.{if_none, if_some}
use Rattle.apply_plan_terraform.proofs.texts.items.read_items.Goals as goal

pub returns-in_default-clause-ok : goal.returns-in_default-clause-ok
returns-in_default-clause-ok c =
    let none = if_none _ _ c.next.result c.in_default.is c.next.ensures.value in
    sym (of_nothing c.args.text.now (sym c.in_ok-reader.ensures.ok ∙ none.0))

pub returns-in_err-collected-in-BeginArray-clause-err : goal.returns-in_err-collected-in-BeginArray-clause-err
returns-in_err-collected-in-BeginArray-clause-err c =
    let first = if_some _ _ c.next.result c.in-Some.token c.in-Some.is c.next.ensures.value in
    λ refused. of_broken c.args.text.now c.in-Some.token c.next.new.self (sym c.in_ok-reader.ensures.ok ∙ first) c.in-BeginArray.is (c.read_each.ensures.err (grind arith))

pub returns-then-is_some-clause-ok : goal.returns-then-is_some-clause-ok
returns-then-is_some-clause-ok c =
    let first = if_some _ _ c.next.result c.in-Some.token c.in-Some.is c.next.ensures.value in
    let read = c.in_ok-collected-in-BeginArray.ensures.ok in
    let left : is_some c.next-in-BeginArray.result ≡ true = grind arith in
    let more = one_left c.next-in-BeginArray.result c.read_each.new.reader c.next-in-BeginArray.new.self left c.next-in-BeginArray.ensures.value in
    sym (of_more c.args.text.now c.in-Some.token c.next.new.self (sym c.in_ok-reader.ensures.ok ∙ first) c.in-BeginArray.is read.0 c.read_each.new.reader more.0 c.next-in-BeginArray.new.self read.1 more.1)

pub returns-in-BeginArray-clause-ok : goal.returns-in-BeginArray-clause-ok
returns-in-BeginArray-clause-ok c =
    let first = if_some _ _ c.next.result c.in-Some.token c.in-Some.is c.next.ensures.value in
    let read = c.in_ok-collected-in-BeginArray.ensures.ok in
    let left : is_some c.next-in-BeginArray.result ≡ false = grind arith in
    let last = none_left c.next-in-BeginArray.result c.read_each.new.reader c.next-in-BeginArray.new.self left c.next-in-BeginArray.ensures.value in
    ap some read.2 ∙ sym (of_whole c.args.text.now c.in-Some.token c.next.new.self (sym c.in_ok-reader.ensures.ok ∙ first) c.in-BeginArray.is read.0 c.read_each.new.reader read.1 last)
  where
    some : List Data → Option (List Data)
    some ds = Some ds

pub returns : goal.returns
returns c =
    let first = if_some _ _ c.next.result c.in-Some.token c.in-Some.is c.next.ensures.value in
    record {
      ok = sym (of_other c.args.text.now c.in-Some.token c.next.new.self (sym c.in_ok-reader.ensures.ok ∙ first) c.in_default-token.not-BeginArray);
      err = λ refused. absurd cc;
    }
