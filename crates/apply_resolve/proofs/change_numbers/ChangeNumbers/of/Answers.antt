use Rattle.std.proofs.Common.{◌≡◌, subst, arith}
use Rattle.apply_resolve.proofs.Numbers.{HasNumbersFrom, no_numbers, numbers_more}
use Rattle.apply_resolve.proofs.change_numbers.ChangeNumbers.of.Goals as goal

pub loop-number-init : goal.loop-number-init
loop-number-init c = no_numbers c.new-numbers.result c.args.plan.now.changes c.len-number.result c.new-numbers.ensures.empty c.len-number.ensures.len

pub loop-number-preserved : goal.loop-number-preserved
loop-number-preserved c =
    numbers_more c.loop-number.numbers c.insert.new.self c.args.plan.now.changes c.loop-number.number c.change.result.now c.of_change-id.result c.of.result c.loop-number-test.true c.change.ensures c.of_change-id.ensures.address c.of_change-id.ensures.deposed c.of.ensures c.loop-number.invariant c.in_ok-insert.ensures.updates

pub returns : goal.returns
returns c =
    let none : c.loop-number.number ≡ 0 = omega arith in
    subst (λ n. HasNumbersFrom c.loop-number.numbers c.args.plan.now.changes n) none c.loop-number.invariant
