use Rattle.std.proofs.Common.{map, option_map, subst, take, arith}
use Rattle.input_validate.specs.FirstNamed.{AreFirst}
use Rattle.input_validate.specs.ObjectNames.{name_view}
use Rattle.input_validate.proofs.Mapped.{map-take_more, so_many_mapped}
use Rattle.input_validate.proofs.doubts.waited.index_of.Goals as goal

pub loop-number-preserved : goal.loop-number-preserved
loop-number-preserved c =
    let names = c.args.names.now in
    let number = c.loop-number.number in
    subst (λ all. AreFirst c.push.new.self all)
    (map-take_more (option_map name_view) names number _ (omega arith))
    (c.in_ok-push.ensures (map (option_map name_view) (take number names)) c.loop-number.invariant (so_many_mapped (option_map name_view) names number (omega arith)))
