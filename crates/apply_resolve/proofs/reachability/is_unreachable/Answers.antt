use Rattle.std.proofs.Common.{◌≡◌, ap, refl, sym, ◌∙◌, arith}
use Rattle.apply_resolve.proofs.Unreachable.{none_unreachable_more, unreachable_below}
use Rattle.apply_resolve.proofs.reachability.is_unreachable.Goals as goal

pub loop-step-init : goal.loop-step-init
loop-step-init c = (c.requires.settled, refl)

pub could_begin-requires-clause-settled : goal.could_begin-requires-clause-settled
could_begin-requires-clause-settled c = c.loop-step.invariant.0

pub loop-step-preserved : goal.loop-step-preserved
loop-step-preserved c =
    (c.in_ok-could_begin.ensures.settled, none_unreachable_more c.args.script.now c.args.change c.loop-step.step c.loop-step.invariant.1 (sym c.if-not-branch.false ∙ c.in_ok-could_begin.ensures.answer))

pub returns-clause-answer : goal.returns-clause-answer
returns-clause-answer c =
    let all : c.loop-step.step ≡ c.args.steps = omega arith in
    sym (ap (unreachable_below c.args.script.now c.args.change) (sym all) ∙ c.loop-step.invariant.1)

pub returns-clause-settled : goal.returns-clause-settled
returns-clause-settled c = c.loop-step.invariant.0
