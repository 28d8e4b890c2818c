use Rattle.std.proofs.Common.{◌<◌, length, ap, ◌∙◌, arith}
use Rattle.input_validate.specs.Findings.{reported}
use Rattle.input_validate.proofs.Trees.{items_more}
use Rattle.input_validate.proofs.rules.walk.walk_items.Goals as goal

pub loop-number-preserved : goal.loop-number-preserved
loop-number-preserved g c =
    let below : c.loop-number.number < length c.args.items.now = omega arith in
    c.in_ok-all.ensures _ _ c.loop-number.invariant (c.in_ok-findings.ensures _ c.in_ok-walk.ensures)
    ∙ ap reported (items_more (g.W.Walk.findings c.args.walk.now) c.args.items.now c.loop-number.number c.index-items-number.result below c.index-items-number.is)
