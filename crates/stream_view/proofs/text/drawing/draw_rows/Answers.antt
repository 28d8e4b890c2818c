use Rattle.std.proofs.Common.{◌<◌, ◌≤◌, ◌∙◌, ap, get_or, length, subst, arith}
use Rattle.stream_view.specs.Rows.{AreTicks, Layout, row_at}
use Rattle.stream_view.proofs.Pieces.{line_fine}
use Rattle.stream_view.proofs.Sent.{no_rows, row_more, rows_all}
use Rattle.stream_view.proofs.text.drawing.draw_rows.Goals as goal

pub loop-place-init : goal.loop-place-init
loop-place-init g c = no_rows _ _ _ _ _

pub loop-place-preserved : goal.loop-place-preserved
loop-place-preserved g c =
    let places = c.deref-place-items.result.now in
    let i = c.loop-place.place-index in
    let below : i < length places = omega arith in
    let line = c.line_of-line.result in
    let row = c.line_of-line.ensures.row c.in_ok-write_line.ensures.0
    ∙ ap (λ ticks. row_at c.args.style.width c.args.picture.now ticks (get_or places i 0)) c.deref.ensures.value in
    row_more c.args.style.width c.args.style.has_colour c.args.picture.now c.in_ok-ticks.ticks.items places i _ _ _ line.pieces.items below
    c.loop-place.invariant row (line_fine line c.args.style.width c.line_of-line.ensures.width) c.in_ok-write_line.ensures.1

pub returns : goal.returns
returns g c =
    let ticks = c.in_ok-ticks.ticks.items in
    let places = c.deref-place-items.result.now in
    let ends : length places ≤ c.loop-place.place-index = omega arith in (
      ticks,
      subst (λ (l : Layout). AreTicks l ticks) c.requires (record { cells = c.in_ok-ticks.ensures.cells; each = c.in_ok-ticks.ensures.each }),
      rows_all c.args.style.width c.args.style.has_colour c.args.picture.now ticks c.args.picture.now.rows.places.items places c.loop-place.place-index
          _ _ c.deref-place-items.ensures.value ends c.loop-place.invariant,
    )
