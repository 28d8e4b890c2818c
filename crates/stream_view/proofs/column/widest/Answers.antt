use Rattle.std.proofs.Common.{◌≡◌, ◌<◌, ◌≤◌, length, arith}
use Rattle.std.specs.Prelude.{max}
use Rattle.std.proofs.lemmas.Bool.Decides.{nat_tests}
use Rattle.stream_view.specs.Columns.{column_text}
use Rattle.stream_view.proofs.Rows.{widest_all, widest_more}
use Rattle.stream_view.proofs.column.widest.Goals as goal

pub loop-place-preserved : goal.loop-place-preserved
loop-place-preserved c =
    let places = c.deref-place-items.result.now in
    let i = c.loop-place.place-index in
    let below : i < length places = omega arith in
    let greater : c.max-most.result ≡ max c.loop-place.most c.in_ok-columns_at.field-0 = (let is = c.max-most.ensures in grind (arith, nat_tests)) in
    widest_more (column_text c.args.column) c.args.picture.now.timeline.now.steps places i c.loop-place.most c.in_ok-columns_at.field-0 c.max-most.result below
    c.loop-place.invariant c.in_ok-columns_at.ensures greater

pub returns : goal.returns
returns c =
    let places = c.deref-place-items.result.now in
    let ends : length places ≤ c.loop-place.place-index = omega arith in
    widest_all (column_text c.args.column) c.args.picture.now.timeline.now.steps c.args.picture.now.rows.places.items places c.loop-place.place-index
    c.loop-place.most c.deref-place-items.ensures.value ends c.loop-place.invariant
