use Rattle.stream_view.specs.Axes.{axis_in}
use Rattle.stream_view.proofs.Parts.{svg_written}
use Rattle.stream_view.proofs.svg.drawing.draw_parts.Goals as goal

pub returns : goal.returns
returns g c =
    let back = c.args.back.now in
    svg_written (axis_in c.args.scale) c.args.picture.now _ _ _ _ _ _ _ _ c.args.front.now.parts.items back.axis.parts.items back.left_out.parts.items
    back.rest.parts.items c.requires.axis (c.requires.left_out c.in_ok-send-2.ensures.0) c.in_ok-draw_head.ensures c.in_ok-send.ensures.1 c.in_ok-draw_grid.ensures
    c.in_ok-draw_rows.ensures c.in_ok-send-2.ensures.1 c.in_ok-write_text.ensures c.flush.ensures
