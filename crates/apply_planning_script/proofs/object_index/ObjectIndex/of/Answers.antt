use Rattle.std.proofs.Common.{◌≡◌, subst, arith}
use Rattle.apply_planning_script.proofs.Index.{HasNumbersFrom, no_numbers, numbers_more}
use Rattle.apply_planning_script.proofs.object_index.ObjectIndex.of.Goals as goal

pub loop-number-init : goal.loop-number-init
loop-number-init g c = no_numbers g.T.AboutObject.about c.args.values.now c.new-numbers.result _ c.new-numbers.ensures.empty (omega arith)

pub loop-number-preserved : goal.loop-number-preserved
loop-number-preserved g c =
    numbers_more g.T.AboutObject.about c.args.values.now c.loop-number.numbers c.insert.new.self c.loop-number.number c.index-values-number.result c.id.result
    c.loop-number-test.true (omega (arith, c.loop-number.auto.number)) c.index-values-number.is c.id.ensures c.loop-number.invariant c.in_ok-insert.ensures.updates

pub returns : goal.returns
returns g c =
    let none : c.loop-number.number ≡ 0 = omega arith in
    subst (λ n. HasNumbersFrom g.T.AboutObject.about c.args.values.now c.loop-number.numbers n) none c.loop-number.invariant
