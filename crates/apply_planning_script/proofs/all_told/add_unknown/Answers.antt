use Rattle.std.proofs.Common.{map, false}
use Rattle.apply_planning_script.specs.ItemSlots.{item_view}
use Rattle.apply_planning_script.specs.Told.{told_unless, told_view}
use Rattle.apply_planning_script.proofs.Zipped.{made_more}
use Rattle.apply_planning_script.proofs.all_told.add_unknown.Goals as goal

pub loop-number-preserved : goal.loop-number-preserved
loop-number-preserved c =
    made_more (λ p. told_unless p.1 (item_view p.0)) c.args.items.now c.args.known.now c.loop-number.number c.index-items-number.result false
    (map told_view c.args.told.now.items) (map told_view c.loop-number.told.items) (map told_view c.add_unless_known.new.told.items)
    c.loop-number-test.true c.requires c.index-items-number.is c.loop-number.invariant c.in_ok-add_unless_known.ensures
