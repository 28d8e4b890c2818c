use Rattle.std.proofs.Common.{◌≡◌, ◌+◌, [], ◌∷◌, get_or, take, sym, ap, ◌∙◌, subst, arith}
use Rattle.std.proofs.lemmas.List.{take_all, take_more}
use Rattle.apply_model.specs.declared.script.wait.Wait.{Wait}
use Rattle.apply_events.specs.Waits.Queue.{Follow, with_waits_of}
use Rattle.apply_events.proofs.Waits.Followers.{with_waits_of-append, same_counts}
use Rattle.apply_events.proofs.lanes.queue.followers.Followers.add_each.Goals as goal

pub loop-step-preserved : goal.loop-step-preserved
loop-step-preserved c = λ limit count h.
    let steps = c.args.steps.now in
    let turn = c.args.turn in
    let i = c.loop-step.step-index in
    let none : Wait = record { change = 0; step = 0 } in
    let step = get_or steps i none in
    let more = take_more steps i none (omega arith) in
    same_counts limit (with_waits_of (with_waits_of count turn (take i steps)) turn (step ∷ [])) (with_waits_of count turn (take (i + 1) steps)) c.add.new.self
    (λ name number. with_waits_of-append count turn (take i steps) (step ∷ []) name number ∙ ap (λ l. with_waits_of count turn l name number) (sym more))
    (c.in_ok-add.ensures limit (with_waits_of count turn (take i steps)) (c.loop-step.invariant limit count h))

pub returns-clause-follow : goal.returns-clause-follow
returns-clause-follow c = λ limit count h.
    let steps = c.args.steps.now in
    let i = c.loop-step.step-index in
    let all : take i steps ≡ steps = take_all i steps (omega arith) in
    subst (λ l. Follow limit (with_waits_of count c.args.turn l) c.loop-step.self) all (c.loop-step.invariant limit count h)
