use Rattle.std.proofs.Common.{◌≡◌, [], ◌∷◌, ◌++◌, None, ap, sym, ◌∙◌, arith}
use Rattle.apply_plan.specs.Script.OutcomeMap.{by_number}
use Rattle.apply_plan.proofs.Scripts.Entries.{nothing_stated}
use Rattle.apply_plan.proofs.script.entries.nothing.Goals as goal

pub loop-init : goal.loop-init
loop-init c = c.in_ok-outcomes.ensures.items

pub loop-preserved : goal.loop-preserved
loop-preserved c = c.in_ok-push.ensures.items ∙ ap (λ outcomes. outcomes ++ None ∷ []) c.loop.invariant ∙ sym (nothing_stated c.loop.counter)

pub returns : goal.returns
returns c =
    let all : c.loop.counter ≡ c.args.count = omega arith in
    c.loop.invariant ∙ ap (λ n. by_number n []) all
