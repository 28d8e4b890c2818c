use Rattle.std.proofs.Common.{◌≡◌, ◌-◌, [], ◌∷◌, cond, sym, ap, subst, ne_eqb}
use Rattle.apply_model.specs.declared.script.wait.Wait.{Wait}
use Rattle.apply_events.specs.Waits.Queue.{Follow, with_waits_of, step_before}
use Rattle.apply_events.proofs.lanes.queue.followers.Followers.add_before.Goals as goal

pub returns-clause-follow : goal.returns-clause-follow
returns-clause-follow c = λ limit count h.
    let turn = c.args.turn in
    let before : Wait = record { change = turn.change; step = turn.first - 1 } in
    let is : step_before turn ≡ before ∷ [] = ap (λ t. cond t [] (before ∷ [])) (ne_eqb turn.first 0 c.if-turn-eq0.false) in
    subst (λ l. Follow limit (with_waits_of count c.args.number l) c.add.new.self) (sym is) (c.in_ok-add.ensures limit count h)
