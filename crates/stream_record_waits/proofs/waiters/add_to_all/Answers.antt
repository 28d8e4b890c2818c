use Rattle.std.proofs.Common.{◌∷◌, [], List, get_or, sym, subst, take, ℕ}
use Rattle.std.proofs.lemmas.List.{take_more}
use Rattle.stream_record_waits.specs.Steps.{lists_in}
use Rattle.stream_record_waits.specs.Waiters.{Joins}
use Rattle.stream_record_waits.proofs.Joining.{joins_on}
use Rattle.stream_record_waits.proofs.waiters.add_to_all.Goals as goal

pub loop-wait-preserved : goal.loop-wait-preserved
loop-wait-preserved c =
    let waits = c.args.waits.now in
    let place = c.loop-wait.wait-index in
    let first = lists_in c.args.waiters.now.items in
    let old = lists_in c.loop-wait.waiters.items in
    let new = lists_in c.add.new.waiters.items in
    subst (λ (list : List ℕ). Joins c.args.step list first new) (sym (take_more waits place 0 c.loop-wait-test.true))
    (joins_on c.args.step (take place waits) (get_or waits place 0 ∷ []) first old new c.loop-wait.invariant c.in_ok-add.ensures)
