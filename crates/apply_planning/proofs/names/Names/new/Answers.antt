use Rattle.std.proofs.Common.{◌-◌, ◌∙◌, Some, ap, arith, sym}
use Rattle.std.proofs.lemmas.Map.Text.{btree_map_updates_str}
use Rattle.apply_planning.specs.declared.told.Told.{Told}
use Rattle.apply_planning.proofs.Numbered.{number_more}
use Rattle.apply_planning.proofs.names.Names.new.Goals as goal

pub loop-number-preserved : goal.loop-number-preserved
loop-number-preserved c = λ name.
    number_more c.args.told.now c.loop-number.number c.index-told-number.result c.as_str.result.now name _ _ c.loop-number-test.true (omega (arith, c.loop-number.auto.number)) c.index-told-number.is
    (c.as_str.ensures ∙ ap (λ (s : Told). s.name) (sym c.index-told-number.is)) (c.loop-number.invariant name)
    (btree_map_updates_str c.as_str.result.now c.loop-number.numbers c.insert.new.self (Some (c.loop-number.number - 1)) c.in_ok-insert.ensures.updates name)
