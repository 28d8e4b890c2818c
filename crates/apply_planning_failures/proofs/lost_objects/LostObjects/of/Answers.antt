use Rattle.std.proofs.Common.{◌||◌, Bool, not, ap₂}
use Rattle.apply_planning_failures.proofs.Lost.{all_lost, first_more}
use Rattle.apply_planning_failures.proofs.lost_objects.LostObjects.of.Goals as goal

pub loop-number-preserved : goal.loop-number-preserved
loop-number-preserved c = λ events flagged.
    let n = c.loop-number.number in
    first_more c.loop-number.ids c.add_if.new.ids c.args.told.now events n c.index-told-number.result _ c.of_change.result c.loop-number-test.true c.index-told-number.is
    (ap₂ (λ (failed started : Bool). failed || not started) c.has_failed.ensures (flagged.1 n c.loop-number-test.true)) c.of_change.ensures.address c.of_change.ensures.deposed (c.loop-number.invariant events flagged) c.in_ok-add_if.ensures

pub returns : goal.returns
returns c = λ events flagged. all_lost c.loop-number.ids c.args.told.now events c.loop-number.number c.loop-number-test.false (c.loop-number.invariant events flagged)
