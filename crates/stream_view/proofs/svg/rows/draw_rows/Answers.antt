use Rattle.std.proofs.Common.{◌<◌, length, arith}
use Rattle.stream_view.specs.Axes.{axis_in}
use Rattle.stream_view.proofs.Parts.{group_more, no_groups}
use Rattle.stream_view.proofs.svg.rows.draw_rows.Goals as goal

pub loop-place-init : goal.loop-place-init
loop-place-init g c = no_groups _ _ _

pub loop-place-preserved : goal.loop-place-preserved
loop-place-preserved g c =
    let places = c.deref-place-items.result.now in
    let i = c.loop-place.place-index in
    let below : i < length places = omega arith in
    group_more (axis_in c.args.scale) c.args.picture.now places i _ _ _ below c.loop-place.invariant c.in_ok-draw_row.ensures
