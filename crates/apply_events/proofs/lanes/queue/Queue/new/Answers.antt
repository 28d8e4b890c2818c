use Rattle.std.proofs.Common.{◌*◌, [], List, sym, subst, arith}
use Rattle.std.proofs.lemmas.List.{map_more}
use Rattle.apply_model.specs.declared.script.wait.Wait.{Wait}
use Rattle.apply_events.specs.Waits.Queue.{IsQueue, none_done, turn_waits}
use Rattle.apply_events.proofs.lanes.queue.Queue.new.Goals as goal

pub loop-turn-preserved : goal.loop-turn-preserved
loop-turn-preserved c =
    let turns = c.args.turns.now in
    subst (λ (l : List (List Wait)). IsQueue (2 * c.args.changes) l none_done [] c.add.new.self)
    (sym (map_more (turn_waits c.args.script.now) turns c.loop-turn.turn-index _ (omega arith))) (c.in_ok-add.ensures (2 * c.args.changes) _ c.loop-turn.invariant)
