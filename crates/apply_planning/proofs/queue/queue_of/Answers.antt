use Rattle.std.proofs.Common.{◌*◌, ◌++◌, ◌∷◌, [], List, ap, length, map, subst, sym, take, ◌∙◌}
use Rattle.std.proofs.lemmas.List.{map_more}
use Rattle.apply_model.specs.declared.script.wait.Wait.{Wait}
use Rattle.apply_events.specs.Waits.Queue.{IsQueue, none_done}
use Rattle.apply_planning.specs.Names.{name_waits}
use Rattle.apply_planning.specs.NumberOf.{number_of}
use Rattle.apply_planning.proofs.queue.queue_of.Goals as goal

pub loop-one-preserved : goal.loop-one-preserved
loop-one-preserved c =
    let told = c.args.told.now in
    let waits = name_waits (number_of c.args.names.now) in
    let it = c.deref.ensures.value ∙ c.in_ok-waits.ensures ∙ ap waits c.one-item.is in
    subst (λ (l : List (List Wait)). IsQueue (2 * length told) l none_done [] c.add_waits.new.self)
    (ap (λ (ws : List Wait). map waits (take c.loop-one.one-index told) ++ ws ∷ []) it ∙ sym (map_more waits told c.loop-one.one-index c.one-item.result c.loop-one-test.true))
    (c.in_ok-add_waits.ensures (2 * length told) _ c.loop-one.invariant)
