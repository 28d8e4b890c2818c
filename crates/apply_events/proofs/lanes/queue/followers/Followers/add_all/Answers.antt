use Rattle.std.proofs.Common.{◌≡◌, ◌+◌, [], ◌∷◌, suc, take, sym, ap, ◌∙◌, subst, arith}
use Rattle.std.proofs.lemmas.List.{take_all}
use Rattle.apply_events.specs.Waits.Queue.{Follow, with_waits_of}
use Rattle.apply_events.proofs.Waits.Followers.{with_waits_of-append, first_items, same_counts}
use Rattle.apply_events.proofs.lanes.queue.followers.Followers.add_all.Goals as goal

pub loop-item-preserved : goal.loop-item-preserved
loop-item-preserved c = λ limit count h.
    let steps = c.args.steps.now in
    let turn = c.args.turn in
    let i = c.loop-item.item in
    let next : i + 1 ≡ suc i = omega arith in
    let more = ap (λ k. take k steps) next ∙ first_items steps i c.get.result c.get.ensures in
    same_counts limit (with_waits_of (with_waits_of count turn (take i steps)) turn (c.get.result ∷ [])) (with_waits_of count turn (take (i + 1) steps)) c.add.new.self
    (λ name number. with_waits_of-append count turn (take i steps) (c.get.result ∷ []) name number ∙ ap (λ l. with_waits_of count turn l name number) (sym more))
    (c.in_ok-add.ensures limit (with_waits_of count turn (take i steps)) (c.loop-item.invariant limit count h))

pub returns : goal.returns
returns c = λ limit count h.
    let steps = c.args.steps.now in
    let i = c.loop-item.item in
    let all : take i steps ≡ steps = take_all i steps (omega arith) in
    subst (λ l. Follow limit (with_waits_of count c.args.turn l) c.loop-item.self) all (c.loop-item.invariant limit count h)
